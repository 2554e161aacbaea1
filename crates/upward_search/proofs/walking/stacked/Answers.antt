use Rattle.upward_search.specs.declared.backing.Rung.{Rung}
use Rattle.upward_search.proofs.IsOnWay.{climbing_more}
use Rattle.upward_search.proofs.walking.stacked.Goals as goal

abbrev no_rung : Rung
no_rung = record { low = 0; arc = record { to = 0; length = 0; middle = 0 } }

pub loop-rung-preserved : goal.loop-rung-preserved
loop-rung-preserved c = rw c.in_ok-push.ensures.items (climbing_more c.args.up.now c.args.down.items c.loop-rung.rung-index no_rung c.loop-rung.parts.items c.loop-rung-test.true c.loop-rung.invariant)
