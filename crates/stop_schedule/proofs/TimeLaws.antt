-- times along a course, one stop after the other
pub use Rattle.stop_schedule.proofs.Departs.{arrives_after, length_at, departs_more, halts_more, halts_as, stop_times_more, read_at}
-- what is kept ahead of a stop, by recursion on the stops, and that it is the test of the definitions
pub use Rattle.stop_schedule.proofs.Holds.{Holds, AreShorter, AreShorter-refl, halt_time-detour, sooner, sooner_first, skip_first}
pub use Rattle.stop_schedule.proofs.IsKept.{course, whole, behind, halt_shift, departs_shift, promised_shift, many_lengths}
pub use Rattle.stop_schedule.proofs.IsKept.{IsKept, is_kept-IsKept, IsKept-is_kept, is_kept-holds, holds_behind, each_below_at, each_below_from}
pub use Rattle.stop_schedule.proofs.OneLess.{kept_of_keeps, front_halts}
-- no longer legs make no stop later, and a stop less makes no other stop later
pub use Rattle.stop_schedule.proofs.IsSooner.{IsSooner, departs_sooner, promised_sooner, keeps_sooner, shorter_each, stop_times_shorter, sum_shorter, past, no_sooner}
pub use Rattle.stop_schedule.proofs.Removal.{IsNoLater, removal_holds, no_sooner_from, none_later}
