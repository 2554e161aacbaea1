use Rattle.std.proofs.Common.{refl, subst}
use Rattle.interleave_core.specs.States.{holding_of}
use Rattle.interleave_core.specs.Worlds.{state_of}
use Rattle.interleave_core.specs.Holdings.{IsPricedBy}
use Rattle.interleave_core.proofs.Played.{has_priced, over_priced}
use Rattle.interleave_core.proofs.world.World.price.Goals as goal

pub returns-in-Some-clause-acted : goal.returns-in-Some-clause-acted
returns-in-Some-clause-acted g c =
    has_priced (g.P.Pricer.graph c.args.pricer.now) c.args.self.now _ c.args.actor c.in-Some.request c.in-Some.candidates
    (subst (λ o. IsPricedBy (g.P.Pricer.graph c.args.pricer.now) (holding_of (state_of c.args.self.now) c.args.actor) o) c.in-Some.is c.in_ok-request.ensures.priced) refl refl refl

pub returns-in-Some-clause-over : goal.returns-in-Some-clause-over
returns-in-Some-clause-over g c =
    over_priced g.I.FleetIndex.fits (g.P.Pricer.graph c.args.pricer.now) c.args.self.now _ c.args.actor c.in-Some.request c.in-Some.candidates
    (subst (λ o. IsPricedBy (g.P.Pricer.graph c.args.pricer.now) (holding_of (state_of c.args.self.now) c.args.actor) o) c.in-Some.is c.in_ok-request.ensures.priced) refl refl c.requires.over
