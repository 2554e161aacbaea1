use Rattle.std.proofs.Common.{subst}
use Rattle.board_core.specs.BoardKept.{AreAccepted}
use Rattle.board_core.specs.BoardViews.{board_of}
use Rattle.board_core.proofs.law.requests_wait_once.Goals as goal

pub returns-clause-accepted : goal.returns-clause-accepted
returns-clause-accepted g c = subst (λ v. AreAccepted (board_of v)) c.board.view_is c.board.invariant.accepted
