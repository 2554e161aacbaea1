use Rattle.insertion_cost.specs.Candidates.{AreSound}
use Rattle.board_core.specs.BoardViews.{board_of}
use Rattle.board_cases.specs.Playing.{IsPlayed}
use Rattle.board_cases.proofs.settles.check_cancelled.Given as goal

abbrev pub invariant-loop-number : goal.invariant-loop-number
invariant-loop-number g l = IsPlayed l.graph (board_of l.board) × AreSound l.graph (board_of l.board).fleet l.request l.candidates
