use Rattle.std.proofs.Common.{ap}
use Rattle.std.proofs.lemmas.Result.{on_ok_weaker}
use Rattle.board_core.specs.declared.entry.Cancelled.TheVariants.{Removed}
use Rattle.board_core.specs.declared.entry.Entry.TheVariants.{Cancel}
use Rattle.fleet_board.proofs.Gathered.{gathers_entry}
use Rattle.fleet_board.proofs.named.add_cancelled.Goals as goal

pub returns-in-Removed : goal.returns-in-Removed
returns-in-Removed g c = on_ok_weaker c.add_vehicle.result (λ h number. gathers_entry (g.F.FleetView.fleet c.args.view.now)
    (Cancel number c.args.cancelled.now) (Cancel number (Removed c.in-Removed.removal)) c.args.places.now.items
    c.add_vehicle.new.places.items (ap (Cancel number) c.in-Removed.is) h) c.add_vehicle.ensures
