use Rattle.std.proofs.Common.{ℕ, ◌≤◌, List, ◌++◌, ◌∷◌, [], sym, ap, ◌∙◌, subst}
use Rattle.board_core.specs.declared.entry.Entry.{Entry}
use Rattle.board_core.specs.declared.entry.Entry.TheVariants as entry
use Rattle.board_core.specs.BoardViews.{board_of}
use Rattle.fleet_board.specs.Journals.{owed_on}
use Rattle.fleet_board.proofs.Records.{noted_request, owed_submit}
use Rattle.fleet_board.proofs.recorded.RecordedBoard.submit.Goals as goal

pub returns-clause-ok : goal.returns-clause-ok
returns-clause-ok g c = λ o is.
    let e : Entry = entry.Submit c.args.request c.in_ok-submitted.submitted in
    noted_request g.I.FleetIndex.fits o c.args.self.now _ c.args.desk e c.goes_on.ensures is tt tt (c.in_ok-submitted.ensures.ok o.graph)
    (c.note.ensures.noted ∙ ap (λ (l : List (ℕ × Entry)). l ++ (c.args.desk, e) ∷ []) c.reserve.ensures.noted)
    c.submit.ensures.index
    (subst (λ (n : ℕ). owed_on (board_of c.submit.new.self) ≤ n) (sym (c.note.ensures.owed ∙ c.reserve.ensures.owed))
    (owed_submit o.graph (board_of c.args.self.now.board) (board_of c.submit.new.self) c.args.request c.in_ok-submitted.submitted c.args.self.now.journal.owed (c.in_ok-submitted.ensures.ok o.graph) is.owed))
