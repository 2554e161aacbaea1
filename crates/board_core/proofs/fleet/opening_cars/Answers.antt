use Rattle.std.proofs.Common.{◌+◌, List, sym, subst, arith}
use Rattle.stop_schedule.specs.Fleets.{Car}
use Rattle.board_core.proofs.Opened.{IsOpenedTo, opened_more, opened_all}
use Rattle.board_core.proofs.fleet.opening_cars.Goals as goal

pub loop-place-preserved : goal.loop-place-preserved
loop-place-preserved c = subst (λ (cars : List Car). IsOpenedTo c.args.vehicles.now cars (c.loop-place.place + 1)) (sym c.in_ok-cars-2.ensures.changed)
    (opened_more _ _ _ _ _ c.loop-place.invariant c.loop-place-test.true c.in_ok-opening_car.ensures)

pub returns : goal.returns
returns c = opened_all c.args.vehicles.now _ c.loop-place.place c.loop-place.invariant (let l = c.loop-place-test.false in let m = c.loop-place.auto.place-end in omega arith)
