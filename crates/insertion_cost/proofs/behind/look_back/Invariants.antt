use Rattle.std.proofs.Common.{◌≡◌, ℕ, ◌+◌, ◌≤◌, length}
use Rattle.insertion_cost.specs.Behind.{IsBehind, AreBehindTo}
use Rattle.insertion_cost.specs.Changes.{course_from}
use Rattle.insertion_cost.proofs.behind.look_back.Given as goal

abbrev pub invariant-loop-n : goal.invariant-loop-n
invariant-loop-n l = record {
  all : l.count ≡ length l.schedule.stops;
  within : l.n ≤ l.count;
  rows : AreBehindTo l.params.stop l.schedule.until (course_from l.start l.schedule) (l.n + 1) l.rows.items;
  last : (i : ℕ) → l.n + i ≡ length l.schedule.stops → IsBehind l.params.stop l.schedule.until (course_from l.start l.schedule) i l.behind;
}
