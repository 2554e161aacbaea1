use Rattle.std.proofs.Common.{sym}
use Rattle.road_graph.proofs.RoadEnds.{passed_more, found_outside, none_outside, all_roads_of}
use Rattle.road_graph.proofs.graph.outside.Goals as goal

pub loop-at-preserved : goal.loop-at-preserved
loop-at-preserved c = passed_more c.args.nodes c.args.roads.now c.loop-at.at c.loop-at.invariant (sym c.if-leaves.ensures.leaves) c.if-leaves.ensures.light

pub returns : goal.returns
returns c = record {
  first = none_outside c.args.nodes c.args.roads.now c.loop-at.at c.loop-at-test.false c.loop-at.auto.at-end c.loop-at.invariant;
  within = all_roads_of c.args.nodes c.args.roads.now c.loop-at.at c.loop-at-test.false c.loop-at.invariant;
}

pub returns-then-leaves-clause-first : goal.returns-then-leaves-clause-first
returns-then-leaves-clause-first c = found_outside c.args.nodes c.args.roads.now c.loop-at.at c.loop-at-test.true c.loop-at.invariant (sym c.if-leaves.ensures.leaves)
