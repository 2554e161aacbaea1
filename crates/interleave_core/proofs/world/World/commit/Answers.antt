use Rattle.std.proofs.Common.{refl, subst}
use Rattle.board_core.specs.declared.entry.Entry.TheVariants as entry
use Rattle.board_core.specs.BoardViews.{board_of}
use Rattle.interleave_core.specs.States.{holding_of}
use Rattle.interleave_core.specs.Worlds.{state_of}
use Rattle.interleave_core.specs.Holdings.{IsSettledBy}
use Rattle.interleave_core.proofs.Played.{early_commit, over_ended, settled_claim, settled_number, waits_for}
use Rattle.interleave_core.proofs.world.World.commit.Goals as goal

pub answer-requires-clause-request : goal.answer-requires-clause-request
answer-requires-clause-request g c =
    (settled_claim g.I.FleetIndex.fits (g.P.Pricer.graph c.args.pricer.now) c.args.self.now c.args.actor c.in-Some.request c.in-Some.decision c.requires.over
    (subst (λ o. IsSettledBy (g.P.Pricer.graph c.args.pricer.now) (state_of c.args.self.now).board.fleet (holding_of (state_of c.args.self.now) c.args.actor) o) c.in-Some.is c.in_ok-request.ensures.settled)).asked

pub answer-requires-clause-waits : goal.answer-requires-clause-waits
answer-requires-clause-waits g c =
    waits_for (g.P.Pricer.graph c.args.pricer.now) (board_of c.args.self.now.board) c.args.actor c.in-Some.request
    (settled_claim g.I.FleetIndex.fits (g.P.Pricer.graph c.args.pricer.now) c.args.self.now c.args.actor c.in-Some.request c.in-Some.decision c.requires.over
    (subst (λ o. IsSettledBy (g.P.Pricer.graph c.args.pricer.now) (state_of c.args.self.now).board.fleet (holding_of (state_of c.args.self.now) c.args.actor) o) c.in-Some.is c.in_ok-request.ensures.settled))

pub returns-clause-over : goal.returns-clause-over
returns-clause-over g c =
    over_ended g.I.FleetIndex.fits (g.P.Pricer.graph c.args.pricer.now) c.args.self.now _ (entry.Commit c.in-Some.request.no c.in_ok-told.told) c.args.actor c.in-Some.request.no c.stays_over.ensures.left c.requires.over
    (early_commit c.in-Some.request.no c.in_ok-told.told) c.in_ok-told.ensures.entry (c.in_ok-told.ensures.index (g.P.Pricer.graph c.args.pricer.now) c.requires.over.nodes c.requires.over.good.1)
    (settled_number (g.P.Pricer.graph c.args.pricer.now) (state_of c.args.self.now).board.fleet (holding_of (state_of c.args.self.now) c.args.actor) c.in-Some.request c.in-Some.decision
    (subst (λ o. IsSettledBy (g.P.Pricer.graph c.args.pricer.now) (state_of c.args.self.now).board.fleet (holding_of (state_of c.args.self.now) c.args.actor) o) c.in-Some.is c.in_ok-request.ensures.settled)) (λ other h. h) refl
