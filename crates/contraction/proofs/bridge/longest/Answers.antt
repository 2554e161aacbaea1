use Rattle.std.proofs.Common.{arith}
use Rattle.std.proofs.lemmas.List.Elements.{Contains-get_or}
use Rattle.contraction.proofs.HasChain.{no_arc}
use Rattle.contraction.proofs.bridge.longest.Goals as goal

pub overflow_add-length : goal.overflow_add-length
overflow_add-length c = let l = c.requires.ups _ (Contains-get_or c.args.ups.now c.loop-up.up-index no_arc c.loop-up-test.true) in omega arith

pub loop-up-preserved : goal.loop-up-preserved
loop-up-preserved c = let l = c.requires.ups _ (Contains-get_or c.args.ups.now c.loop-up.up-index no_arc c.loop-up-test.true) in grind arith
