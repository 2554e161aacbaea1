use Rattle.std.proofs.Common.{◌≡◌, ℕ, suc, ◌≤◌, ◌&&◌, nat_le, true, length, slice_get}
use Rattle.stop_schedule.specs.declared.stop.SeatKind.TheVariants.{Seat, Space}
use Rattle.stop_schedule.specs.Keeping.{each_below, is_in_time}
use Rattle.stop_schedule.specs.Plans.{course_of}
use Rattle.stop_schedule.specs.Times.{aboard}
use Rattle.base_cases.proofs.reckonings.keeps_all.Given as goal

abbrev pub invariant-loop-k : goal.invariant-loop-k
invariant-loop-k l = record {
  within : l.k ≤ length l.list.stops;
  seated : each_below l.k (λ (i : ℕ). nat_le (aboard Seat l.list.stops i) l.list.seats && nat_le (aboard Space l.list.stops i) l.list.spaces) ≡ true;
  in_time : each_below l.k (λ (i : ℕ). is_in_time l.params.stop (course_of l.list) (suc i) (slice_get l.list.stops i)) ≡ true;
}
