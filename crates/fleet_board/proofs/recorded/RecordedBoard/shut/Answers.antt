use Rattle.std.proofs.Common.{sym, ◌∙◌}
use Rattle.std.proofs.lemmas.Bool.{true≢false}
use Rattle.board_core.specs.declared.entry.Entry.TheVariants as entry
use Rattle.board_core.specs.BoardViews.{board_of}
use Rattle.fleet_board.proofs.Records.{noted_request, owed_shut, owes_shut}
use Rattle.fleet_board.proofs.recorded.RecordedBoard.shut.Goals as goal

pub note_owed-requires : goal.note_owed-requires
note_owed-requires g c =
    owes_shut (board_of c.args.self.now.board) c.args.self.now.journal.owed (sym c.is_closed.ensures ∙ c.if-is_closed.false) c.requires.record_.1.owed

pub returns : goal.returns
returns g c = record {
  opened = λ e o is.
      noted_request g.I.FleetIndex.fits o c.args.self.now _ c.args.desk entry.Shut c.goes_on.ensures is tt tt (c.shut.ensures.value o.graph)
      c.note_owed.ensures.noted c.shut.ensures.index
      (owed_shut o.graph (board_of c.args.self.now.board) (board_of c.shut.new.self) c.args.self.now.journal.owed _ (c.shut.ensures.value o.graph) is.owed c.note_owed.ensures.owed);
  closed = λ e. let opened = c.if-is_closed.false in absurd (true≢false (sym (c.is_closed.ensures ∙ e) ∙ opened));
}
