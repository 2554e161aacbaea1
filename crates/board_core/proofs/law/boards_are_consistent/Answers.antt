use Rattle.std.proofs.Common.{subst}
use Rattle.board_core.specs.BoardViews.{board_of}
use Rattle.board_core.specs.Boards.{IsConsistent}
use Rattle.board_core.proofs.law.boards_are_consistent.Goals as goal

pub returns : goal.returns
returns g c = subst (λ v. IsConsistent (board_of v)) c.board.view_is c.board.invariant.consistent
