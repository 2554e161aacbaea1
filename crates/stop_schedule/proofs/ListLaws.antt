-- the stops and the legs of a new list, by their places, and how many they are
pub use Rattle.stop_schedule.proofs.Lists.{length-with_both, stop_before, stop_pickup, stop_between, stop_dropoff, stop_after}
pub use Rattle.stop_schedule.proofs.Lists.{changed_count, length-changed_ends, length-with_legs, as_together, as_apart}
pub use Rattle.stop_schedule.proofs.Lists.{leg_before, leg_changed, leg_behind, leg_pickup, leg_between, leg_dropoff, leg_after}
-- both stops are put in one after the other, and each splits one leg
pub use Rattle.stop_schedule.proofs.OneMore.{split, behind_split, shape_together, shape_apart, holds_without, without_second}
pub use Rattle.stop_schedule.proofs.OneLess.{with_both_is, split_same, split_before, length-split, length-put, StartsAt, starts_at, without_first}
-- the rest of a list from an element on
pub use Rattle.stop_schedule.proofs.KeepsAhead.{drop_from}
-- a stop of which nothing is asked
pub use Rattle.stop_schedule.proofs.Aboard.{no_stop}
