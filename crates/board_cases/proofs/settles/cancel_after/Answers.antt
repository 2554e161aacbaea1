use Rattle.board_core.specs.declared.entry.Entry.TheVariants.{Cancel}
use Rattle.board_core.specs.BoardViews.{board_of}
use Rattle.board_cases.proofs.Played.{good}
use Rattle.board_cases.proofs.settles.cancel_after.Goals as goal

pub returns-clause-sound : goal.returns-clause-sound
returns-clause-sound c = c.candidates_stay_sound.ensures.entries c.args.graph.now (board_of c.args.board.now) (Cancel (record { 0 = c.args.number }) c.in_ok-told.told) (board_of c.cancel.new.board)
    c.args.request.now c.args.candidates.now c.requires.played.lawful (good c.fleets_stay_good.ensures c.args.graph.now (board_of c.args.board.now) c.requires.played)
    c.in_ok-told.ensures.entry c.requires.sound
