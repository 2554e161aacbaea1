use Rattle.std.proofs.Common.{ℕ, ◌≤◌, List, ◌++◌, ◌∷◌, [], sym, refl, ap, ◌∙◌, subst}
use Rattle.board_core.specs.declared.entry.Entry.{Entry}
use Rattle.board_core.specs.declared.entry.Entry.TheVariants as entry
use Rattle.board_core.specs.BoardViews.{board_of}
use Rattle.fleet_board.specs.Journals.{owed_on}
use Rattle.road_graph.specs.Roads.{Roads}
use Rattle.board_core.specs.Steps.{Step}
use Rattle.fleet_board.proofs.Records.{early_cancel, noted_so, owed_cancel}
use Rattle.fleet_board.proofs.recorded.RecordedBoard.cancel.Goals as goal

pub returns-clause-ok : goal.returns-clause-ok
returns-clause-ok g c = λ o same is.
    let step = subst (λ (h : Roads). Step h (board_of c.args.self.now.board) (entry.Cancel c.args.no c.in_ok-cancelled.cancelled) (board_of c.cancel_with_copy.new.self)) (sym same) c.in_ok-cancelled.ensures.ok in
    noted_so g.I.FleetIndex.fits o c.args.self.now _ c.args.desk (entry.Cancel c.args.no c.in_ok-cancelled.cancelled) c.goes_on.ensures is (early_cancel c.args.no c.in_ok-cancelled.cancelled) tt step
    (c.note.ensures.noted ∙ ap (λ (l : List (ℕ × Entry)). l ++ (c.args.desk, entry.Cancel c.args.no c.in_ok-cancelled.noted) ∷ []) c.reserve.ensures.noted
    ∙ ap (λ a. c.args.self.now.journal.noted ++ (c.args.desk, entry.Cancel c.args.no a) ∷ []) c.in_ok-cancelled.ensures.same)
    (c.in_ok-cancelled.ensures.index refl o.graph is.nodes is.good.1)
    (subst (λ (n : ℕ). owed_on (board_of c.cancel_with_copy.new.self) ≤ n) (sym (c.note.ensures.owed ∙ c.reserve.ensures.owed))
    (owed_cancel o.graph (board_of c.args.self.now.board) (board_of c.cancel_with_copy.new.self) c.args.no c.in_ok-cancelled.cancelled c.args.self.now.journal.owed step is.owed))
