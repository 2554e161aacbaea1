use Rattle.std.proofs.Common.{ℕ, []}
use Rattle.stop_schedule.specs.Fleets.{Car}
use Rattle.board_core.specs.NamedVehicles.{Names}
use Rattle.fleet_board.specs.declared.journal.Noted.{Noted}
use Rattle.fleet_board.proofs.Gathered.{HaveGathered}
use Rattle.fleet_board.proofs.named.named_places.Given as goal

abbrev pub invariant-loop-one : goal.invariant-loop-one
invariant-loop-one g l = HaveGathered (g.F.FleetView.fleet l.view) (λ (n : Noted) (p : ℕ) (car : Car). Names n.entry p car.no)
    l.noted l.one-index [] l.places.items
