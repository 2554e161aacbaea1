use Rattle.std.proofs.Common.{◌∙◌, subst, arith}
use Rattle.road_graph.specs.Roads.{Roads}
use Rattle.insertion_cost.specs.Pricers.{IsBestAt}
use Rattle.insertion_cost.proofs.BestPlain.{no_way, none_direct, below_more, below_all}
use Rattle.insertion_cost.proofs.distances.best_plain.Goals as goal

pub returns-in_default-clause-best : goal.returns-in_default-clause-best
returns-in_default-clause-best g c = none_direct (g.D.Distances.graph c.args.distances.now) (g.F.FleetView.fleet c.args.view.now) c.args.request.now
    (no_way (g.D.Distances.graph c.args.distances.now) c.args.request.now.pickup c.args.request.now.dropoff c.in_ok-direct.direct c.in_default.is c.in_ok-direct.ensures.distance)

pub loop-place-preserved : goal.loop-place-preserved
loop-place-preserved g c = record {
  kept = c.best_at.ensures.kept ∙ c.loop-place.invariant.kept;
  best = below_more (g.D.Distances.graph c.args.distances.now) (g.F.FleetView.fleet c.args.view.now) c.args.request.now c.loop-place.place c.loop-place.best c.in_ok-offer.offer c.first_of_two-best.result
      (let l = c.loop-place-test.true in let e = c.count-place-end.ensures in omega arith) c.loop-place.invariant.best
      (subst (λ (h : Roads). IsBestAt h (g.F.FleetView.fleet c.args.view.now) c.args.request.now c.loop-place.place c.in_ok-offer.offer) c.loop-place.invariant.kept c.in_ok-offer.ensures.best) c.first_of_two-best.ensures;
  within = (let l = c.loop-place-test.true in let e = c.count-place-end.ensures in omega arith);
}

pub returns-clause-best : goal.returns-clause-best
returns-clause-best g c =
    below_all (g.D.Distances.graph c.args.distances.now) (g.F.FleetView.fleet c.args.view.now) c.args.request.now c.loop-place.place c.loop-place.best (let l = c.loop-place-test.false in let e = c.count-place-end.ensures in omega arith) c.loop-place.invariant.best
