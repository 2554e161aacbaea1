use Rattle.std.proofs.Common.{◌≤◌, length}
use Rattle.road_graph.specs.Roads.{Roads}
use Rattle.stop_schedule.specs.declared.stop.Front.{Front}
use Rattle.stop_schedule.specs.Fleets.{Car}
use Rattle.insertion_cost.specs.OnWays.{IsLed, IsPricedBy, IsSoon}
use Rattle.insertion_cost.specs.Pairs.{IsCarOf, IsBestOfTried}
use Rattle.insertion_cost.proofs.pairs.best_on_the_way.Given as goal

abbrev pub invariant-loop-j : goal.invariant-loop-j
invariant-loop-j l = record {
  order : l.i ≤ l.j;
  within : l.j ≤ length l.schedule.stops;
  soon : IsSoon l.way;
  led : (front : Front) → IsLed l.params l.schedule front l.request l.ways l.i l.taken.departure l.i l.taken → IsLed l.params l.schedule front l.request l.ways l.i l.taken.departure l.j l.way;
  tried : (g : Roads) (front : Front) (car : Car) → IsPricedBy g l.params l.schedule front l.request l.direct l.ways l.rows → IsLed l.params l.schedule front l.request l.ways l.i l.taken.departure l.i l.taken → IsCarOf l.vehicle l.schedule car
      → IsBestOfTried g l.params l.vehicle.place car front l.request l.i l.i l.fn.so_far → IsBestOfTried g l.params l.vehicle.place car front l.request l.i l.j l.best;
}
