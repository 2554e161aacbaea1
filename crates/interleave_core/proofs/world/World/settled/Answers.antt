use Rattle.std.proofs.Common.{sym, refl, subst}
use Rattle.board_core.specs.FleetViews.{cars_of}
use Rattle.interleave_core.specs.declared.holding.Holding.TheVariants as holding
use Rattle.insertion_cost.specs.Candidates.{AreSound}
use Rattle.commit_check.specs.Settled.{IsDecision}
use Rattle.interleave_core.proofs.Played.{none_priced, read_at}
use Rattle.interleave_core.proofs.world.World.settled.Goals as goal

pub settle-requires-clause-request : goal.settle-requires-clause-request
settle-requires-clause-request g c =
    let at = read_at c.args.self.now.actors.items c.args.actor c.index.result.now (holding.Priced c.in-Priced.request c.in-Priced.candidates) c.requires.actor c.index.ensures c.in-Priced.is in
    (c.requires.over.held c.args.actor (holding.Priced c.in-Priced.request c.in-Priced.candidates) at).0.asked

pub settle-requires-clause-sound : goal.settle-requires-clause-sound
settle-requires-clause-sound g c =
    let at = read_at c.args.self.now.actors.items c.args.actor c.index.result.now (holding.Priced c.in-Priced.request c.in-Priced.candidates) c.requires.actor c.index.ensures c.in-Priced.is in
    subst (λ f. AreSound (g.P.Pricer.graph c.args.pricer.now) (cars_of f) c.in-Priced.request c.in-Priced.candidates) (sym c.fleet-fleet.ensures)
    (c.requires.over.held c.args.actor (holding.Priced c.in-Priced.request c.in-Priced.candidates) at).1

pub returns-in_ok-decision-in-Priced-clause-settled : goal.returns-in_ok-decision-in-Priced-clause-settled
returns-in_ok-decision-in-Priced-clause-settled g c =
    let at = read_at c.args.self.now.actors.items c.args.actor c.index.result.now (holding.Priced c.in-Priced.request c.in-Priced.candidates) c.requires.actor c.index.ensures c.in-Priced.is in (
      c.in-Priced.candidates,
      at,
      subst (λ f. IsDecision (g.P.Pricer.graph c.args.pricer.now) (cars_of f) c.in-Priced.request c.in_ok-decision-in-Priced.decision) c.fleet-fleet.ensures c.in_ok-decision-in-Priced.ensures.decision,
    )

pub returns-in-Nothing-clause-settled : goal.returns-in-Nothing-clause-settled
returns-in-Nothing-clause-settled g c =
    none_priced _ c.index.result.now (read_at c.args.self.now.actors.items c.args.actor c.index.result.now c.index.result.now c.requires.actor c.index.ensures refl) c.in-Nothing.is
