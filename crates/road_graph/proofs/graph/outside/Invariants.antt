use Rattle.road_graph.proofs.RoadEnds.{Passed}
use Rattle.road_graph.proofs.graph.outside.Given as goal

abbrev pub invariant-loop-at : goal.invariant-loop-at
invariant-loop-at l = Passed l.nodes l.roads l.at
