use Rattle.std.proofs.Common.{Option, subst}
use Rattle.stop_schedule.specs.declared.request.Request.{Request}
use Rattle.board_core.specs.BoardViews.{board_of, IsClaimed}
use Rattle.board_cases.proofs.Held.{held}
use Rattle.board_cases.proofs.rides.claim_and_back.Goals as goal

pub back-requires-clause-held : goal.back-requires-clause-held
back-requires-clause-held g c = held (board_of c.args.board.now) (board_of c.claim.new.self) c.args.desk c.in-Some.request
    (subst (λ (o : Option Request). IsClaimed (board_of c.args.board.now) c.args.desk o (board_of c.claim.new.self)) c.in-Some.is c.claim.ensures.value)
