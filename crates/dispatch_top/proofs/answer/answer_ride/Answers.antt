use Rattle.std.proofs.Common.{subst, arith, ◌∙◌}
use Rattle.board_core.specs.declared.entry.Submitted.{Submitted}
use Rattle.board_core.specs.declared.entry.Entry.TheVariants.{Submit}
use Rattle.board_core.specs.BoardViews.{board_of}
use Rattle.board_core.specs.Steps.{Step}
use Rattle.dispatch_top.specs.Answering.{IsTold}
use Rattle.dispatch_top.proofs.Answered.{few_then, good_still, has_room, on_ok, refused, request_in, step_nodes, taken, version_next, waits}
use Rattle.dispatch_top.proofs.answer.answer_ride.Goals as goal

pub answer_waiting-requires-clause-version : goal.answer_waiting-requires-clause-version
answer_waiting-requires-clause-version g c = let next = version_next c.args.graph.now (board_of c.args.board.now) (board_of c.submit.new.self) c.args.request.now c.in_ok-submitted.submitted (c.in_ok-submitted.ensures.ok c.args.graph.now) in let few = c.requires.ready.early in omega arith

pub answer_waiting-requires-clause-nodes : goal.answer_waiting-requires-clause-nodes
answer_waiting-requires-clause-nodes g c = step_nodes c.args.graph.now (board_of c.args.board.now) (board_of c.submit.new.self) (Submit c.args.request.now c.in_ok-submitted.submitted) (c.in_ok-submitted.ensures.ok c.args.graph.now) ∙ c.requires.ready.nodes

pub answer_waiting-requires-clause-good : goal.answer_waiting-requires-clause-good
answer_waiting-requires-clause-good g c = good_still c.args.graph.now (board_of c.args.board.now) (board_of c.submit.new.self) c.args.request.now (subst (λ (s : Submitted). Step c.args.graph.now (board_of c.args.board.now) (Submit c.args.request.now s) (board_of c.submit.new.self)) c.in-Accepted.is (c.in_ok-submitted.ensures.ok c.args.graph.now)) c.requires.ready.good

pub answer_waiting-requires-clause-request : goal.answer_waiting-requires-clause-request
answer_waiting-requires-clause-request g c = request_in c.args.graph.now (board_of c.args.board.now) c.args.request.now c.requires.ready.nodes (subst (λ (s : Submitted). Step c.args.graph.now (board_of c.args.board.now) (Submit c.args.request.now s) (board_of c.submit.new.self)) c.in-Accepted.is (c.in_ok-submitted.ensures.ok c.args.graph.now)).0

pub answer_waiting-requires-clause-waits : goal.answer_waiting-requires-clause-waits
answer_waiting-requires-clause-waits g c = waits c.args.graph.now (board_of c.args.board.now) (board_of c.submit.new.self) c.args.request.now (subst (λ (s : Submitted). Step c.args.graph.now (board_of c.args.board.now) (Submit c.args.request.now s) (board_of c.submit.new.self)) c.in-Accepted.is (c.in_ok-submitted.ensures.ok c.args.graph.now))

pub tell-requires-clause-room : goal.tell-requires-clause-room
tell-requires-clause-room g c = has_room (board_of c.args.board.now) c.args.sums.now (omega (arith, c.requires.ready.early)) c.requires.few

pub answer_waiting-requires-clause-few : goal.answer_waiting-requires-clause-few
answer_waiting-requires-clause-few g c = few_then c.args.graph.now (board_of c.args.board.now) (board_of c.submit.new.self) c.args.request.now c.args.text.now.items c.tell.new.text.items c.in_ok-submitted.submitted c.args.sums.now c.tell.new.sums (c.in_ok-submitted.ensures.ok c.args.graph.now) c.requires.few c.in_ok-tell.ensures

pub returns-in-Refused-clause-answered : goal.returns-in-Refused-clause-answered
returns-in-Refused-clause-answered g c = refused c.args.graph.now (board_of c.args.board.now) (board_of c.submit.new.self) c.args.request.now c.in-Refused.field-0 c.args.text.now.items c.tell.new.text.items c.args.sums.now c.tell.new.sums
    (subst (λ (s : Submitted). Step c.args.graph.now (board_of c.args.board.now) (Submit c.args.request.now s) (board_of c.submit.new.self)) c.in-Refused.is (c.in_ok-submitted.ensures.ok c.args.graph.now)) c.requires.empty
    (subst (λ (s : Submitted). IsTold (Submit c.args.request.now s) c.args.text.now.items c.tell.new.text.items c.args.sums.now c.tell.new.sums) c.in-Refused.is c.in_ok-tell.ensures) c.requires.few

pub returns-in-Accepted-clause-answered : goal.returns-in-Accepted-clause-answered
returns-in-Accepted-clause-answered g c =
    on_ok c.answer_waiting.result (λ h. taken c.args.graph.now (board_of c.args.board.now) (board_of c.submit.new.self) (board_of c.answer_waiting.new.board) c.args.request.now c.args.text.now.items c.tell.new.text.items c.answer_waiting.new.text.items c.args.sums.now c.tell.new.sums c.answer_waiting.new.sums
    (subst (λ (s : Submitted). Step c.args.graph.now (board_of c.args.board.now) (Submit c.args.request.now s) (board_of c.submit.new.self)) c.in-Accepted.is (c.in_ok-submitted.ensures.ok c.args.graph.now)) c.requires.empty
    (subst (λ (s : Submitted). IsTold (Submit c.args.request.now s) c.args.text.now.items c.tell.new.text.items c.args.sums.now c.tell.new.sums) c.in-Accepted.is c.in_ok-tell.ensures) h) c.answer_waiting.ensures.committed
