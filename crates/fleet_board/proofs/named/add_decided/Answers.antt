use Rattle.std.proofs.Common.{ap}
use Rattle.std.proofs.lemmas.Result.{on_ok_weaker}
use Rattle.insertion_cost.specs.declared.decision.Decision.TheVariants.{Assigned as IsAssigned}
use Rattle.board_core.specs.declared.entry.Entry.TheVariants.{Commit}
use Rattle.fleet_board.proofs.Gathered.{gathers_entry}
use Rattle.fleet_board.proofs.named.add_decided.Goals as goal

pub returns-in-Assigned : goal.returns-in-Assigned
returns-in-Assigned g c = on_ok_weaker c.add_place.result (λ h number. gathers_entry (g.F.FleetView.fleet c.args.view.now)
    (Commit number c.args.decision.now) (Commit number (IsAssigned c.in-Assigned.taken)) c.args.places.now.items
    c.add_place.new.places.items (ap (Commit number) c.in-Assigned.is) h) c.add_place.ensures
