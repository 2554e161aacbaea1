use Rattle.std.proofs.Common.{ℕ, ◌≡◌, refl, arith}
use Rattle.ride_base.specs.declared.numbers.VehicleNo.{VehicleNo}
use Rattle.stop_advance.specs.declared.served.Served.{Served}
use Rattle.stop_schedule.specs.Fleets.{Car}
use Rattle.fleet_board.proofs.Gathered.{gathered_all, gathered_more, gathers_more}
use Rattle.fleet_board.proofs.named.add_served.Goals as goal

pub loop-told-preserved : goal.loop-told-preserved
loop-told-preserved g c = gathered_more (g.F.FleetView.fleet c.args.view.now)
    (λ (x : VehicleNo × Served) (p : ℕ) (car : Car). x.0 ≡ car.no) c.args.served.now c.loop-told.told-index _ c.args.places.now.items
    c.loop-told.places.items c.add_vehicle.new.places.items c.loop-told-test.true c.loop-told.invariant c.in_ok-add_vehicle.ensures

pub returns : goal.returns
returns g c = gathers_more (g.F.FleetView.fleet c.args.view.now) _ _ c.args.places.now.items c.loop-told.places.items
    (λ p car stands s. (s.0, (car.no, s.1), s.2, refl))
    (gathered_all (g.F.FleetView.fleet c.args.view.now) (λ (x : VehicleNo × Served) (p : ℕ) (car : Car). x.0 ≡ car.no) c.args.served.now
    c.loop-told.told-index c.args.places.now.items c.loop-told.places.items (let l = c.loop-told-test.false in omega arith)
    c.loop-told.invariant)
