use Rattle.std.proofs.Common.{◌≡◌, refl, subst}
use Rattle.road_graph.specs.declared.road.NodeNo.{NodeNo}
use Rattle.road_graph.specs.Roads.{Roads, IsNode}
use Rattle.road_graph.specs.Graphs.{IsGraph}
use Rattle.plain_search.specs.declared.reached.Way.{Way}
use Rattle.plain_search.specs.declared.reached.Way.TheVariants.{From, To}
use Rattle.plain_search.specs.Searching.{faced}
use Rattle.road_graph.specs.Turned.{turned}
use Rattle.road_graph.proofs.WalkLaws.{turned_graph, turned_turned}

-- the graph that a search faces has the same nodes
pub nodes-faced : (way : Way) (g : Roads) → (faced way g).nodes ≡ g.nodes
nodes-faced From g = refl
nodes-faced To g = refl

pub IsNode-faced : (way : Way) (g : Roads) (n : NodeNo) → IsNode g n → IsNode (faced way g) n
IsNode-faced From g n h = h
IsNode-faced To g n h = h

pub IsNode-from_faced : (way : Way) (g : Roads) (n : NodeNo) → IsNode (faced way g) n → IsNode g n
IsNode-from_faced From g n h = h
IsNode-from_faced To g n h = h

pub IsGraph-faced : (way : Way) (g : Roads) → IsGraph g → IsGraph (faced way g)
IsGraph-faced From g h = turned_graph g h
IsGraph-faced To g h = h

pub IsGraph-from_faced : (way : Way) (g : Roads) → IsGraph (faced way g) → IsGraph g
IsGraph-from_faced From g h = subst IsGraph (turned_turned g) (turned_graph (turned g) h)
IsGraph-from_faced To g h = h
