use Rattle.std.proofs.Common.{ℕ, ◌≡◌}
use Rattle.std.proofs.lemmas.Result.{on_ok_weaker}
use Rattle.stop_schedule.specs.Fleets.{Car}
use Rattle.fleet_board.proofs.Gathered.{gathers_more}
use Rattle.fleet_board.proofs.named.add_vehicle.Goals as goal

pub returns : goal.returns
returns g c = on_ok_weaker c.add_place.result (gathers_more (g.F.FleetView.fleet c.args.view.now)
    (λ (p : ℕ) (car : Car). c.args.no ≡ car.no) (λ (p : ℕ) (car : Car). c.place_of-place.result ≡ p)
    c.args.places.now.items c.add_place.new.places.items c.place_of-place.ensures) c.add_place.ensures
