use Rattle.std.proofs.Common.{arith}
use Rattle.commit_check.proofs.Places.{first_round, first_end, asked_within, asked_round, asked_end}
use Rattle.commit_check.proofs.settling.first_changed.Goals as goal

pub returns-in_err-offer-clause-few : goal.returns-in_err-offer-clause-few
returns-in_err-offer-clause-few g c = asked_within (g.F.FleetView.fleet c.args.view.now) c.args.base c.args.places.now c.requires.places
    c.loop-place.place-index _ c.loop-place.steps.1 c.args.steps.now.1 c.changed_offer.new.steps.1 c.loop-place-test.true
    c.loop-place.invariant.few c.changed_offer.ensures.few

pub loop-place-preserved : goal.loop-place-preserved
loop-place-preserved g c = record {
  first = first_round (g.F.FleetView.fleet c.args.view.now) c.args.base c.args.places.now c.requires.places
      (g.P.Pricer.graph c.args.pricer.now) c.args.request.now c.loop-place.place-index _ c.loop-place.best c.in_ok-offer.offer
      c.first_of_two-best.result c.loop-place-test.true c.loop-place.invariant.first c.in_ok-offer.ensures.first
      c.first_of_two-best.ensures;
  steps = (let a = c.loop-place.invariant.steps in let b = c.changed_offer.ensures.steps in omega arith);
  few = asked_round (g.F.FleetView.fleet c.args.view.now) c.args.base c.args.places.now c.requires.places c.loop-place.place-index _
      c.loop-place.steps.1 c.args.steps.now.1 c.changed_offer.new.steps.1 c.loop-place-test.true c.loop-place.invariant.few
      c.changed_offer.ensures.few;
  kept = (let a = c.loop-place.invariant.kept in let b = c.changed_offer.ensures.kept in omega arith);
}

pub returns-clause-first : goal.returns-clause-first
returns-clause-first g c = first_end (g.F.FleetView.fleet c.args.view.now) c.args.base c.args.places.now c.requires.places
    (g.P.Pricer.graph c.args.pricer.now) c.args.request.now c.loop-place.place-index c.loop-place.best
    (let e = c.loop-place.auto.place-index-end in omega arith) (let l = c.loop-place-test.false in omega arith)
    c.loop-place.invariant.first

pub returns-clause-few : goal.returns-clause-few
returns-clause-few g c = asked_end (g.F.FleetView.fleet c.args.view.now) c.args.base c.args.places.now c.requires.places
    c.loop-place.place-index c.loop-place.steps.1 c.args.steps.now.1 (let e = c.loop-place.auto.place-index-end in omega arith)
    c.loop-place.invariant.few
