use Rattle.std.proofs.Common.{◌≡◌, ◌≤◌, ◌+◌, ◌*◌, ◌^◌, cond, Some, None}
use Rattle.stop_schedule.specs.Plans.{course_of, halt_at}
use Rattle.stop_advance.specs.Advance.{reached_of, served_of, from_stop}
use Rattle.stop_advance.specs.Starts.{IsStartOf}
use Rattle.stop_advance.proofs.advance.reached_until.Given as goal

abbrev pub invariant-loop-k : goal.invariant-loop-k
invariant-loop-k l = record {
  all : reached_of l.params.stop (course_of l.schedule) l.now l.k ≡ l.k;
  served : l.served ≡ served_of l.params.stop (course_of l.schedule) l.k;
  start : IsStartOf (from_stop l.params l.schedule l.k) l.start;
  halt : cond l.start.halt (Some l.start.node) None ≡ halt_at (course_of l.schedule) l.k;
  small : l.start.departure ≤ 2 ^ 41 + l.k * (2 ^ 53 + 65536);
}
