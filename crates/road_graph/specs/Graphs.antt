use Rattle.std.specs.Prelude.{◌≡◌, ℕ, ◌<◌, ◌≤◌, ◌^◌, length, slice_get, Some}
use Rattle.road_graph.specs.declared.road.Road.{Road}
use Rattle.road_graph.specs.Roads.{Roads, IsNode}
use Rattle.road_graph.specs.Limits.{most_nodes, most_roads}

-- the road leads from a node of the graph to a node of the graph, and its weight fits 32 bits
pub record IsRoadOf (g : Roads) (road : Road) : Type 0 where
  pub from : IsNode g road.from
  pub to : IsNode g road.to
  pub light : road.weight < 2 ^ 32

abbrev pub AreRoadsOf : Roads → Type 0
AreRoadsOf g = (k : ℕ) (road : Road) → slice_get g.roads k ≡ Some road → IsRoadOf g road

-- what is so of every graph that was built
pub record IsGraph (g : Roads) : Type 0 where
  pub few_nodes : g.nodes ≤ most_nodes
  pub few_roads : length g.roads ≤ most_roads
  pub each : AreRoadsOf g
