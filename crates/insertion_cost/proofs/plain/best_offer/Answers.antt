use Rattle.std.proofs.Common.{arith}
use Rattle.insertion_cost.proofs.BestPlain.{below_more, below_all, none_below}
use Rattle.insertion_cost.proofs.plain.best_offer.Goals as goal

pub loop-place-init : goal.loop-place-init
loop-place-init g c = record { best = λ h lawful are. none_below h (g.F.FleetView.fleet c.args.view.now) c.args.request.now; within = omega arith }

pub loop-place-preserved : goal.loop-place-preserved
loop-place-preserved g c = record {
  best = λ h lawful are. below_more h (g.F.FleetView.fleet c.args.view.now) c.args.request.now c.loop-place.place c.loop-place.best c.in_ok-entry.entry.best c.first_of_two-best.result
      (let l = c.loop-place-test.true in let e = c.count-place-end.ensures in omega arith) (c.loop-place.invariant.best h lawful are)
      (λ car stands. (c.in_ok-entry.ensures h lawful are car stands).best) c.first_of_two-best.ensures;
  within = (let l = c.loop-place-test.true in let e = c.count-place-end.ensures in omega arith);
}

pub returns : goal.returns
returns g c = λ h lawful are.
    below_all h (g.F.FleetView.fleet c.args.view.now) c.args.request.now c.loop-place.place c.loop-place.best (let l = c.loop-place-test.false in let e = c.count-place-end.ensures in omega arith) (c.loop-place.invariant.best h lawful are)
