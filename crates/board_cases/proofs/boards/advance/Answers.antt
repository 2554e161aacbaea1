use Rattle.board_core.specs.BoardViews.{board_of}
use Rattle.board_cases.proofs.Played.{played_move}
use Rattle.board_cases.proofs.boards.advance.Goals as goal

pub returns : goal.returns
returns c = played_move c.args.graph.now (board_of c.args.board.now) (board_of c.advance.new.self) c.args.now c.in_ok-advance.field-0 c.requires.moment c.requires.played (c.in_ok-advance.ensures.ok c.args.graph.now)
