use Rattle.std.proofs.Common.{◌^◌}
use Rattle.contraction.specs.Rows.{Stands}
use Rattle.contraction.proofs.AreStanding.{here_at}
use Rattle.contraction.proofs.AreBridges.{from_step}
use Rattle.contraction.proofs.bridge.bridges_from.Goals as goal

pub longest-requires-clause-ups : goal.longest-requires-clause-ups
longest-requires-clause-ups c = λ a h. (c.requires.ups a h).light

pub bridge-requires-clause-up : goal.bridge-requires-clause-up
bridge-requires-clause-up c = rw c.in_ok-run.ensures.search.marked.many (here_at c.args.ups.now c.loop-up.up-index c.loop-up-test.true c.requires.ups)

pub loop-up-preserved : goal.loop-up-preserved
loop-up-preserved c =
    from_step (2 ^ 53) c.args.node c.args.down c.args.ups.now (Stands c.args.rows.now) c.args.found.now c.loop-up.found c.push_maybe.new.found c.loop-up.up-index c.bridge.result
    c.loop-up-test.true c.loop-up.invariant (c.bridge.ensures c.args.rows.now c.in_ok-run.ensures.search c.in_ok-run.ensures.start) c.in_ok-push_maybe.ensures
