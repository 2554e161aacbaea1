use Rattle.contraction.proofs.AreStanding.{here_at}
use Rattle.contraction.proofs.bridge.count_from.Goals as goal

pub longest-requires-clause-ups : goal.longest-requires-clause-ups
longest-requires-clause-ups c = λ a h. (c.requires.ups a h).light

pub is_needed-requires-clause-up : goal.is_needed-requires-clause-up
is_needed-requires-clause-up c = rw c.in_ok-run.ensures.search.marked.many (here_at c.args.ups.now c.loop-up.up-index c.loop-up-test.true c.requires.ups)
