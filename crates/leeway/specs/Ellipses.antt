use Rattle.std.specs.Prelude.{◌≡◌, ℕ, ◌+◌, ◌<◌, ◌≤◌, true, List, length, refl}
use Rattle.std.proofs.Common.{lit≤}
use Rattle.road_graph.specs.declared.road.NodeNo.{NodeNo}
use Rattle.road_graph.specs.Graphs.{IsGraph}
use Rattle.road_graph.specs.Roads.{Roads, node}
use Rattle.road_graph.specs.Walks.{IsDist}
use Rattle.stop_schedule.specs.declared.request.Request.{Request}
use Rattle.stop_schedule.specs.declared.stop.Insertion.{Insertion}
use Rattle.stop_schedule.specs.Distances.{AreDistances}
use Rattle.stop_schedule.specs.Fronts.{front_of, IsAhead}
use Rattle.stop_schedule.specs.Keeping.{IsProper, HasLeastWalks, keeps, is_feasible}
use Rattle.stop_schedule.specs.Lists.{changed_ends}
pub use Rattle.stop_schedule.specs.Lists.{stop_node}
use Rattle.stop_schedule.specs.Plans.{Plan}
use Rattle.stop_schedule.specs.Rates.{Rates, usual}
use Rattle.stop_schedule.specs.Samples.{first}
use Rattle.leeway.specs.Leeways.{slack_of}

-- a node is in the ellipse of leg i: the way over it from stop i to stop i + 1 takes no longer than the slack
pub record IsInEllipse (g : Roads) (rates : Rates) (p : Plan) (i : ℕ) (n : NodeNo) : Type 0 where
  pub to : ℕ
  pub from : ℕ
  pub way_to : IsDist g (stop_node p i) n to
  pub way_from : IsDist g n (stop_node p (i + 1)) from
  pub within : to + from ≤ slack_of rates p i

-- what is said of a feasible insertion, with distances as the lengths of its changed legs: its pickup is in the ellipse of leg i, and
-- its dropoff in that of leg j, where a stop follows
pub record LiesInEllipses (g : Roads) (rates : Rates) (p : Plan) (r : Request) (at : Insertion) : Type 0 where
  pub pickup : at.i < length p.stops → IsInEllipse g rates p at.i r.pickup
  pub dropoff : at.j < length p.stops → IsInEllipse g rates p at.j r.dropoff

-- In a schedule that is proper, keeps and has least walks, each feasible insertion at a clock before the next stop is reached lies in the
-- ellipses of its legs, also under way.
abbrev pub FeasibleOnesLieInEllipses : Type 0
FeasibleOnesLieInEllipses = (g : Roads) (rates : Rates) (p : Plan) (now : ℕ) (r : Request) (at : Insertion) (lengths : List ℕ) → IsGraph g → IsProper p → keeps rates p ≡ true → HasLeastWalks g p → IsAhead p now
    → AreDistances g (changed_ends p.stops (front_of p now) r at) lengths → is_feasible rates p (front_of p now) r at lengths ≡ true → LiesInEllipses g rates p r at

-- leg 1 of the first schedule leads from node 2 to node 4, and may take 38
leg_from : stop_node first 1 ≡ node 2
leg_from = refl

leg_to : stop_node first 2 ≡ node 4
leg_to = refl

from_the_place : stop_node first 0 ≡ node 1
from_the_place = refl

-- so a node that lies 20 behind node 2 and 18 before node 4 is in its ellipse
just_inside : (g : Roads) (n : NodeNo) → IsDist g (node 2) n 20 → IsDist g n (node 4) 18 → IsInEllipse g usual first 1 n
just_inside g n to from = record { to = 20; from = 18; way_to = to; way_from = from; within = lit≤ tt }
