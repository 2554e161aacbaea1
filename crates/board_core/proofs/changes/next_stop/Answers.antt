use Rattle.std.proofs.Common.{◌-◌, arith}
use Rattle.std.proofs.lemmas.Option.{slice_get_within}
use Rattle.board_core.proofs.Joints.{next_not}
use Rattle.board_core.proofs.changes.next_stop.Goals as goal

pub unreachable-requires : goal.unreachable-requires
unreachable-requires c = let n = c.requires.1 in let h = n.behind in let l = slice_get_within c.args.stops.now (c.requires.0 - 1) n.stop n.stands in let i = c.loop-k.invariant c.requires.0 n in let t = c.loop-k-test.false in omega arith

pub loop-k-preserved : goal.loop-k-preserved
loop-k-preserved c = λ at n. next_not c.args.stops.now c.args.kind c.args.no c.args.from at c.loop-k.k _ c.is_of.result n (c.loop-k.invariant at n) c.is_of.ensures.1 c.if-is_of.false
