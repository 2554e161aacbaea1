use Rattle.std.proofs.lemmas.Result.{on_ok_weaker}
use Rattle.board_core.specs.declared.entry.Entry.TheVariants.{Commit, Advance, Cancel}
use Rattle.fleet_board.proofs.Gathered.{gathers_entry}
use Rattle.fleet_board.proofs.named.add_named.Goals as goal

pub returns-in-Commit : goal.returns-in-Commit
returns-in-Commit g c = on_ok_weaker c.add_decided.result (λ h. gathers_entry (g.F.FleetView.fleet c.args.view.now) c.args.entry.now
    (Commit c.in-Commit.field-0 c.in-Commit.decision) c.args.places.now.items c.add_decided.new.places.items c.in-Commit.is
    (h c.in-Commit.field-0)) c.add_decided.ensures

pub returns-in-Cancel : goal.returns-in-Cancel
returns-in-Cancel g c = on_ok_weaker c.add_cancelled.result (λ h. gathers_entry (g.F.FleetView.fleet c.args.view.now) c.args.entry.now
    (Cancel c.in-Cancel.field-0 c.in-Cancel.cancelled) c.args.places.now.items c.add_cancelled.new.places.items c.in-Cancel.is
    (h c.in-Cancel.field-0)) c.add_cancelled.ensures

pub returns-in-Advance : goal.returns-in-Advance
returns-in-Advance g c = on_ok_weaker c.add_moved.result (λ h. gathers_entry (g.F.FleetView.fleet c.args.view.now) c.args.entry.now
    (Advance c.in-Advance.field-0 c.in-Advance.advanced) c.args.places.now.items c.add_moved.new.places.items c.in-Advance.is
    (h c.in-Advance.field-0)) c.add_moved.ensures
