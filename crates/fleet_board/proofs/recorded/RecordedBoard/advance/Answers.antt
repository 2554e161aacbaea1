use Rattle.std.proofs.Common.{ℕ, ◌≤◌, List, ◌++◌, ◌∷◌, [], sym, refl, ap, ◌∙◌, subst}
use Rattle.board_core.specs.declared.entry.Entry.{Entry}
use Rattle.board_core.specs.declared.entry.Entry.TheVariants as entry
use Rattle.board_core.specs.BoardViews.{board_of}
use Rattle.fleet_board.specs.Journals.{owed_on}
use Rattle.fleet_board.proofs.Records.{early_move, noted_so, owed_move}
use Rattle.fleet_board.proofs.recorded.RecordedBoard.advance.Goals as goal

pub returns-clause-ok : goal.returns-clause-ok
returns-clause-ok g c = λ o is.
    let step = c.in_ok-advanced.ensures.ok o.graph in
    noted_so g.I.FleetIndex.fits o c.args.self.now _ c.args.desk (entry.Advance c.args.now c.in_ok-advanced.advanced) c.goes_on.ensures is (early_move c.args.now c.in_ok-advanced.advanced c.requires.moment) tt step
    (c.note.ensures.noted ∙ ap (λ (l : List (ℕ × Entry)). l ++ (c.args.desk, entry.Advance c.args.now c.in_ok-advanced.noted) ∷ []) c.reserve.ensures.noted
    ∙ ap (λ a. c.args.self.now.journal.noted ++ (c.args.desk, entry.Advance c.args.now a) ∷ []) c.in_ok-advanced.ensures.same)
    (c.in_ok-advanced.ensures.index refl o.graph is.nodes is.good.1)
    (subst (λ (n : ℕ). owed_on (board_of c.advance_with_copy.new.self) ≤ n) (sym (c.note.ensures.owed ∙ c.reserve.ensures.owed))
    (owed_move o.graph (board_of c.args.self.now.board) (board_of c.advance_with_copy.new.self) c.args.now c.in_ok-advanced.advanced c.args.self.now.journal.owed step is.owed))
