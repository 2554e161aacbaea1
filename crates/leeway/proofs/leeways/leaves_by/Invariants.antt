use Rattle.std.proofs.Common.{◌-◌, ◌≡◌, ◌≤◌, length}
use Rattle.leeway.specs.Leeways.{leaves_stop_by}
use Rattle.stop_schedule.specs.Plans.{course_of}
use Rattle.leeway.proofs.leeways.leaves_by.Given as goal

abbrev pub invariant-loop-k : goal.invariant-loop-k
invariant-loop-k l = record {
  latest : l.latest ≡ leaves_stop_by l.params.stop l.schedule.until (course_of l.schedule) l.k;
  from : l.i ≤ l.k;
  to : l.k ≤ length l.schedule.stops;
}

abbrev pub decreases-loop-k : goal.decreases-loop-k
decreases-loop-k l = l.k - l.i
