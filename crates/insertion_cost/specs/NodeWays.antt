use Rattle.std.specs.Prelude.{◌≡◌, ℕ, ◌+◌, ◌<◌, ◌≤◌, ◌↔◌, List, length, Option, Some, None, IsSome, MatchOption, slice_get}
use Rattle.road_graph.specs.declared.road.NodeNo.{NodeNo}
use Rattle.road_graph.specs.Graphs.{IsGraph}
use Rattle.road_graph.specs.Roads.{Roads, IsNode}
use Rattle.road_graph.specs.Walks.{IsDist, NoWalk}
use Rattle.stop_schedule.specs.declared.request.Request.{Request}
use Rattle.stop_schedule.specs.declared.stop.Front.{Front}
use Rattle.stop_schedule.specs.declared.stop.Insertion.{Insertion}
use Rattle.stop_schedule.specs.declared.stop.Stop.{Stop}
use Rattle.stop_schedule.specs.Lists.{node_at}
use Rattle.stop_schedule.specs.Plans.{Plan}
use Rattle.stop_schedule.specs.Rates.{Rates}
use Rattle.insertion_cost.specs.declared.node_ways.NodeWays.{NodeWays}
use Rattle.insertion_cost.specs.declared.pricing.Priced.{Priced}
use Rattle.insertion_cost.specs.declared.spans.Spans.{Spans}
use Rattle.stop_schedule.specs.Distances.{AreDistances}
use Rattle.insertion_cost.specs.Offers.{HasPrice}
use Rattle.insertion_cost.specs.Prices.{Price}
use Rattle.insertion_cost.specs.Spans.{lengths_of, price_from}

-- the distance from one node to another, or none where there is no walk
abbrev pub IsDistOrNone : Roads → NodeNo → NodeNo → Option ℕ → Type 0
IsDistOrNone g u v o = MatchOption o (NoWalk g u v) (IsDist g u v)

-- the distances between a node and the two nodes of a request
pub record AreWaysOf (g : Roads) (r : Request) (n : NodeNo) (w : NodeWays) : Type 0 where
  pub to_pickup : IsDistOrNone g n r.pickup w.to_pickup
  pub from_pickup : IsDistOrNone g r.pickup n w.from_pickup
  pub to_dropoff : IsDistOrNone g n r.dropoff w.to_dropoff
  pub from_dropoff : IsDistOrNone g r.dropoff n w.from_dropoff

-- the front's node and that of each stop are nodes of the graph
abbrev pub AreNodesOf : Roads → Front → List Stop → Type 0
AreNodesOf g front stops = (k : ℕ) → k ≤ length stops → IsNode g (node_at front stops k)

-- these distances of the first n of them, the front's node among them
pub record AreWaysTo (g : Roads) (r : Request) (front : Front) (stops : List Stop) (n : ℕ) (ways : List NodeWays) : Type 0 where
  pub many : length ways ≡ n
  pub each : (k : ℕ) (w : NodeWays) → slice_get ways k ≡ Some w → AreWaysOf g r (node_at front stops k) w

-- what a vehicle is priced by over a graph: the direct way of a request, and the distances of the front's node and of each stop's
pub record AreWaysAlong (g : Roads) (r : Request) (front : Front) (stops : List Stop) (direct : ℕ) (ways : List NodeWays) : Type 0 where
  pub graph : IsGraph g
  pub direct_way : IsDist g r.pickup r.dropoff direct
  pub many : length ways ≡ length stops + 1
  pub each : (k : ℕ) (w : NodeWays) → slice_get ways k ≡ Some w → AreWaysOf g r (node_at front stops k) w

-- over some graph
abbrev pub AreSomeWaysAlong : Request → Front → List Stop → ℕ → List NodeWays → Type 0
AreSomeWaysAlong r front stops direct ways = (g : Roads) × AreWaysAlong g r front stops direct ways

-- the distances of these pairs of nodes, or none where one of them has no walk
abbrev pub AreSpansOf : Roads → List (NodeNo × NodeNo) → Option Spans → Type 0
AreSpansOf g ends None = (lengths : List ℕ) → AreDistances g ends lengths → ⊥
AreSpansOf g ends (Some s) = AreDistances g ends (lengths_of s)

-- there is a length for each changed leg of a list of so many stops, and for no other
abbrev pub HaveShape : ℕ → Insertion → Spans → Type 0
HaveShape stops at s = (IsSome s.before_dropoff ↔ (at.i < at.j)) × (IsSome s.after_dropoff ↔ (at.j < stops))

-- the price of one pair over a graph, or none where it isn't feasible
abbrev pub IsOnlyPrice : Roads → Rates → Front → Plan → Request → Insertion → Option Priced → Type 0
IsOnlyPrice g rates front p r at None = (price : Price) → HasPrice g rates front p r at price → ⊥
IsOnlyPrice g rates front p r at (Some found) = HasPrice g rates front p r at (price_from found) × ((price : Price) → HasPrice g rates front p r at price → price ≡ price_from found)
