use Rattle.std.proofs.Common.{length, arith}
use Rattle.contraction.proofs.AreStanding.{far_within}
use Rattle.contraction.proofs.costs.Depths.raise.Goals as goal

pub index-requires : goal.index-requires
index-requires c = let l = far_within c.args.end c.args.arcs.now c.loop-arc.arc-index (length c.args.self.now.each.items) c.far-place.result c.loop-arc-test.true c.requires c.far-place.ensures in let i = c.loop-arc.invariant in omega arith

pub index_mut-requires : goal.index_mut-requires
index_mut-requires c = let l = far_within c.args.end c.args.arcs.now c.loop-arc.arc-index (length c.args.self.now.each.items) c.far-place.result c.loop-arc-test.true c.requires c.far-place.ensures in let i = c.loop-arc.invariant in omega arith
