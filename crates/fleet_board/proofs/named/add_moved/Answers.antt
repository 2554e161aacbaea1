use Rattle.std.proofs.Common.{ap, sym, ◌∙◌}
use Rattle.std.proofs.lemmas.Result.{on_ok_weaker}
use Rattle.board_core.specs.declared.entry.Advanced.TheVariants.{Moved}
use Rattle.board_core.specs.declared.entry.Entry.TheVariants.{Advance}
use Rattle.fleet_board.proofs.Gathered.{gathers_entry}
use Rattle.fleet_board.proofs.named.add_moved.Goals as goal

pub returns-in-Moved : goal.returns-in-Moved
returns-in-Moved g c = on_ok_weaker c.add_served.result (λ h now. gathers_entry (g.F.FleetView.fleet c.args.view.now)
    (Advance now c.args.advanced.now) (Advance now (Moved c.as_slice.result.now)) c.args.places.now.items
    c.add_served.new.places.items (ap (Advance now) (c.in-Moved.is ∙ ap Moved (sym c.as_slice.ensures))) h) c.add_served.ensures
