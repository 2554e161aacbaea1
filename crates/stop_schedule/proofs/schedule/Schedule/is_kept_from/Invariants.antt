use Rattle.std.proofs.Common.{◌≡◌, ◌≤◌, ◌+◌, ◌*◌, ◌^◌, drop, map}
use Rattle.road_graph.specs.Paths.{length_of}
use Rattle.stop_schedule.specs.Limits.{end_of_time}
use Rattle.stop_schedule.specs.Plans.{course_of, halt_at}
use Rattle.stop_schedule.proofs.Holds.{holds}
use Rattle.stop_schedule.proofs.schedule.Schedule.is_kept_from.Given as goal

abbrev pub invariant-loop-k : goal.invariant-loop-k
invariant-loop-k l = record {
  rest : holds l.params.stop l.self.until l.halt l.departure (drop l.k l.self.stops) (drop l.k (map length_of l.self.legs)) ≡ holds l.params.stop l.self.until (halt_at (course_of l.self) l.i) l.initial.departure (drop l.i l.self.stops) (drop l.i (map length_of l.self.legs));
  small : l.departure ≤ 2 * end_of_time + l.k * (2 ^ 53 + 65536);
}
