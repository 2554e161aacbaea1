use Rattle.road_graph.proofs.RoadEnds.{in_end_at}
use Rattle.road_graph.proofs.graph.Graph.in_road.Goals as goal

pub returns-clause-end : goal.returns-clause-end
returns-clause-end g c = (in_end_at c.args.self.now c.args.node c.ins_of.result.now c.args.index _ c.ins_of.ensures.kept c.ins_of.ensures.ins c.requires.index).0

pub returns-clause-light : goal.returns-clause-light
returns-clause-light g c = (in_end_at c.args.self.now c.args.node c.ins_of.result.now c.args.index _ c.ins_of.ensures.kept c.ins_of.ensures.ins c.requires.index).1
