use Rattle.std.proofs.Common.{◌≡◌, ℕ}
use Rattle.ride_base.specs.declared.numbers.VehicleNo.{VehicleNo}
use Rattle.stop_advance.specs.declared.served.Served.{Served}
use Rattle.stop_schedule.specs.Fleets.{Car}
use Rattle.fleet_board.proofs.Gathered.{HaveGathered}
use Rattle.fleet_board.proofs.named.add_served.Given as goal

abbrev pub invariant-loop-told : goal.invariant-loop-told
invariant-loop-told g l = HaveGathered (g.F.FleetView.fleet l.view) (λ (x : VehicleNo × Served) (p : ℕ) (car : Car). x.0 ≡ car.no)
    l.served l.told-index l.initial.places.items l.places.items
