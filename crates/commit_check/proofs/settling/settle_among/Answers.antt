use Rattle.std.proofs.Common.{refl}
use Rattle.commit_check.proofs.Known.{decision_none, decision_some}
use Rattle.commit_check.proofs.settling.settle_among.Goals as goal

pub returns-in_default-clause-decision : goal.returns-in_default-clause-decision
returns-in_default-clause-decision g c = (
  0,
  (
    refl,
    decision_none (g.P.Pricer.graph c.args.pricer.now) (g.F.FleetView.fleet c.args.view.now) c.args.request.now
        c.in_ok-offer.field-0 c.in_default.is c.in_ok-offer.ensures.best,
  ),
)

pub walks-requires-clause-offer : goal.walks-requires-clause-offer
walks-requires-clause-offer g c =
    (decision_some (g.P.Pricer.graph c.args.pricer.now) (g.F.FleetView.fleet c.args.view.now) c.args.request.now c.in_ok-offer.field-0
    c.in-Some.offer c.in-Some.is c.in_ok-offer.ensures.best).feasible

pub returns-clause-decision : goal.returns-clause-decision
returns-clause-decision g c =
    let best = decision_some (g.P.Pricer.graph c.args.pricer.now) (g.F.FleetView.fleet c.args.view.now) c.args.request.now
    c.in_ok-offer.field-0 c.in-Some.offer c.in-Some.is c.in_ok-offer.ensures.best in
    (best.feasible.price.direct, record { best = best; direct_way = best.feasible.price.direct_way; walks = c.in_ok-walks.ensures.walks })
