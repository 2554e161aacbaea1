use Rattle.std.proofs.Common.{refl}
use Rattle.board_core.specs.declared.entry.Entry.{Entry}
use Rattle.board_core.specs.declared.entry.Entry.TheVariants as entry
use Rattle.board_core.specs.BoardViews.{board_of}
use Rattle.fleet_board.proofs.Records.{no_other, noted_request, owed_back, owes_held}
use Rattle.fleet_board.proofs.recorded.RecordedBoard.give_back.Goals as goal

pub back-requires-clause-held : goal.back-requires-clause-held
back-requires-clause-held g c = (record { request = c.args.request.now; holder = _ }, c.requires.held, refl)

pub note_owed-requires : goal.note_owed-requires
note_owed-requires g c = owes_held (board_of c.args.self.now.board) c.args.request.now c.args.desk c.args.self.now.journal.owed c.requires.held c.requires.record_.1.owed

pub returns : goal.returns
returns g c = λ o is.
    let e : Entry = entry.Back c.args.request.now.no in
    noted_request g.I.FleetIndex.fits o c.args.self.now _ c.args.desk e c.goes_on.ensures is tt (no_other (board_of c.args.self.now.board) c.args.request.now c.args.desk c.requires.held) (c.back.ensures.value o.graph)
    c.note_owed.ensures.noted c.back.ensures.index
    (owed_back o.graph (board_of c.args.self.now.board) (board_of c.back.new.self) c.args.request.now c.args.desk c.args.self.now.journal.owed _ c.requires.held (c.back.ensures.value o.graph) is.owed c.note_owed.ensures.owed)
