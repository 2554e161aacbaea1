use Rattle.std.proofs.Common.{◌≡◌, ◌+◌, ◌*◌, ◌^◌, ◌≤◌, take, sum, map, Some, None}
use Rattle.std.specs.Prelude.{if◌then◌else◌}
use Rattle.road_graph.specs.Paths.{length_of}
use Rattle.stop_schedule.specs.Plans.{course_of, halt_at}
use Rattle.stop_schedule.specs.Times.{stop_times}
use Rattle.insertion_cost.proofs.pricing.busy_time_of.Given as goal

abbrev pub invariant-loop-k : goal.invariant-loop-k
invariant-loop-k l =
    let c = record (course_of l.schedule) { halt = if l.start.halt then Some l.start.node else None; departure = l.start.departure } in
    record {
      busy_time : l.busy_time ≡ sum (take l.k (map length_of l.schedule.legs)) + stop_times l.params.stop c l.k;
      halt : l.halt ≡ halt_at c l.k;
      small : l.busy_time ≤ l.k * (2 ^ 53 + 65536);
    }
