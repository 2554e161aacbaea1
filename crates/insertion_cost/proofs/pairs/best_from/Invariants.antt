use Rattle.std.proofs.Common.{◌≡◌, ◌≤◌, length}
use Rattle.road_graph.specs.Roads.{Roads}
use Rattle.stop_schedule.specs.Fleets.{Car}
use Rattle.stop_schedule.specs.Plans.{course_of}
use Rattle.stop_schedule.specs.Times.{departs}
use Rattle.insertion_cost.specs.NodeWays.{AreWaysAlong}
use Rattle.insertion_cost.specs.Pairs.{IsCarOf, IsBestOfTried}
use Rattle.insertion_cost.proofs.pairs.best_from.Given as goal

abbrev pub invariant-loop-i : goal.invariant-loop-i
invariant-loop-i l = record {
  left : l.i ≤ length l.schedule.stops → l.left ≡ departs l.params.stop (course_of l.schedule) l.i;
  tried : (g : Roads) (car : Car) → AreWaysAlong g l.request l.front l.schedule.stops l.direct l.ways → IsCarOf l.vehicle l.schedule car
      → IsBestOfTried g l.params l.vehicle.place car l.front l.request l.i l.i l.best;
}
