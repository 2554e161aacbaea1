use Rattle.board_core.specs.BoardViews.{board_of}
use Rattle.board_cases.specs.Playing.{IsPlayed}
use Rattle.board_cases.proofs.settles.answer_all.Given as goal

abbrev pub invariant-loop-request : goal.invariant-loop-request
invariant-loop-request l = IsPlayed l.graph (board_of l.board)
