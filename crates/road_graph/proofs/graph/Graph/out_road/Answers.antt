use Rattle.road_graph.proofs.RoadEnds.{out_end_at}
use Rattle.road_graph.proofs.graph.Graph.out_road.Goals as goal

pub returns-clause-end : goal.returns-clause-end
returns-clause-end g c = (out_end_at c.args.self.now c.args.node c.outs_of.result.now c.args.index _ c.outs_of.ensures.kept c.outs_of.ensures.outs c.requires.index).0

pub returns-clause-light : goal.returns-clause-light
returns-clause-light g c = (out_end_at c.args.self.now c.args.node c.outs_of.result.now c.args.index _ c.outs_of.ensures.kept c.outs_of.ensures.outs c.requires.index).1
