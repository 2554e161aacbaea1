use Rattle.std.proofs.Common.{subst}
use Rattle.board_core.specs.declared.entry.Entry.TheVariants.{Submit}
use Rattle.board_core.specs.declared.entry.Submitted.{Submitted}
use Rattle.board_core.specs.BoardViews.{board_of}
use Rattle.board_core.specs.Steps.{Step}
use Rattle.board_cases.proofs.Played.{played_submit, request_in, waits}
use Rattle.board_cases.proofs.boards.wait.Goals as goal

pub returns-in-Accepted-clause-played : goal.returns-in-Accepted-clause-played
returns-in-Accepted-clause-played c = played_submit c.args.graph.now (board_of c.args.board.now) (board_of c.submit.new.self) c.args.request.now c.requires
    (subst (λ (s : Submitted). Step c.args.graph.now (board_of c.args.board.now) (Submit c.args.request.now s) (board_of c.submit.new.self)) c.in-Accepted.is (c.in_ok-submitted.ensures.ok c.args.graph.now))

pub returns-in-Accepted-clause-entry : goal.returns-in-Accepted-clause-entry
returns-in-Accepted-clause-entry c = (subst (λ (s : Submitted). Step c.args.graph.now (board_of c.args.board.now) (Submit c.args.request.now s) (board_of c.submit.new.self)) c.in-Accepted.is (c.in_ok-submitted.ensures.ok c.args.graph.now))

pub returns-in-Accepted-clause-waits : goal.returns-in-Accepted-clause-waits
returns-in-Accepted-clause-waits c = waits c.args.graph.now (board_of c.args.board.now) (board_of c.submit.new.self) c.args.request.now
    (subst (λ (s : Submitted). Step c.args.graph.now (board_of c.args.board.now) (Submit c.args.request.now s) (board_of c.submit.new.self)) c.in-Accepted.is (c.in_ok-submitted.ensures.ok c.args.graph.now))

pub returns-in-Accepted-clause-priced : goal.returns-in-Accepted-clause-priced
returns-in-Accepted-clause-priced c = request_in c.args.graph.now (board_of c.args.board.now) (board_of c.submit.new.self) c.args.request.now c.requires
    (subst (λ (s : Submitted). Step c.args.graph.now (board_of c.args.board.now) (Submit c.args.request.now s) (board_of c.submit.new.self)) c.in-Accepted.is (c.in_ok-submitted.ensures.ok c.args.graph.now))
