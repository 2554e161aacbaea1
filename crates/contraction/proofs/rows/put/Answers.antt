use Rattle.std.proofs.Common.{arith}
use Rattle.contraction.proofs.AreStanding.{put_none, put_step, here_at}
use Rattle.contraction.proofs.rows.put.Goals as goal

pub loop-arc-init : goal.loop-arc-init
loop-arc-init c = put_none c.args.outs.now.items c.args.ins.now.items c.requires.standing

pub attach-requires : goal.attach-requires
attach-requires c = let h = (here_at c.args.arcs.now c.loop-arc.arc-index c.loop-arc-test.true c.requires.here).from in let m = c.loop-arc.invariant.many_outs in omega arith

pub attach-requires-in-loop-arc : goal.attach-requires-in-loop-arc
attach-requires-in-loop-arc c = let h = (here_at c.args.arcs.now c.loop-arc.arc-index c.loop-arc-test.true c.requires.here).to in let m = c.loop-arc.invariant.many_ins in let s = c.requires.same in omega arith

pub loop-arc-preserved : goal.loop-arc-preserved
loop-arc-preserved c =
    put_step c.args.arcs.now c.loop-arc.arc-index c.args.outs.now.items c.args.ins.now.items c.loop-arc.outs.items c.loop-arc.ins.items c.attach.new.rows.items c.attach-in-loop-arc.new.rows.items
    c.loop-arc-test.true c.loop-arc.invariant c.in_ok-attach.ensures c.in_ok-attach-2.ensures
