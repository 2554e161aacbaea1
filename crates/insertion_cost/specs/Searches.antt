use Rattle.std.specs.Prelude.{◌≡◌, List, ◌∷◌, map, None}
use Rattle.road_graph.specs.declared.road.NodeNo.{NodeNo}
use Rattle.road_graph.specs.Roads.{Roads}
use Rattle.plain_search.specs.declared.reached.Way.{Way}
use Rattle.plain_search.specs.declared.reached.Way.TheVariants.{From, To}
use Rattle.plain_search.specs.Reaching.{Listing, IsReach, distance_of}
use Rattle.stop_schedule.specs.declared.request.Request.{Request}
use Rattle.stop_schedule.specs.declared.stop.Front.{Front}
use Rattle.stop_schedule.specs.declared.stop.Stop.{Stop}
use Rattle.insertion_cost.specs.declared.node_ways.NodeWays.{NodeWays}
use Rattle.insertion_cost.specs.declared.searches.Searches.{Searches}

-- the whole reach of a node, in one way
pub record IsWholeReach (g : Roads) (way : Way) (start : NodeNo) (s : Listing) : Type 0 where
  pub is_reach : IsReach g s
  pub its_way : s.way ≡ way
  pub its_start : s.start ≡ start
  pub unbounded : s.radius ≡ None

-- the reaches of a request's two nodes, in both ways
pub record AreSearchesOf (g : Roads) (r : Request) (s : Searches) : Type 0 where
  pub to_pickup : IsWholeReach g To r.pickup s.to_pickup
  pub from_pickup : IsWholeReach g From r.pickup s.from_pickup
  pub to_dropoff : IsWholeReach g To r.dropoff s.to_dropoff
  pub from_dropoff : IsWholeReach g From r.dropoff s.from_dropoff

-- the distances that they list between a node and the two nodes of the request
abbrev pub ways_at : Searches → NodeNo → NodeWays
ways_at s n = record {
  to_pickup = distance_of s.to_pickup.listed n;
  from_pickup = distance_of s.from_pickup.listed n;
  to_dropoff = distance_of s.to_dropoff.listed n;
  from_dropoff = distance_of s.from_dropoff.listed n;
}

-- of the front's node, and then of each stop's
abbrev pub ways_along : Searches → Front → List Stop → List NodeWays
ways_along s front stops = ways_at s front.node ∷ map (λ (t : Stop). ways_at s t.node) stops
