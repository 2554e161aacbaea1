use Rattle.board_core.specs.BoardViews.{board_of}
use Rattle.board_cases.specs.Playing.{IsPlayed}
use Rattle.board_cases.proofs.looks.answer_all.Given as goal

abbrev pub invariant-loop-at : goal.invariant-loop-at
invariant-loop-at g l = IsPlayed l.graph (board_of l.board)
