use Rattle.std.proofs.Common.{sym, ap, subst}
use Rattle.road_graph.specs.Roads.{Roads}
use Rattle.insertion_cost.specs.declared.decision.Decision.{Decision}
use Rattle.stop_schedule.specs.Fleets.{Cars, IsGoodFleet}
use Rattle.board_core.specs.BoardViews.{board_of}
use Rattle.board_core.specs.FleetViews.{cars_of}
use Rattle.board_core.specs.BoardCalls.{IsPossibleFor}
use Rattle.insertion_cost.specs.Pricers.{IsAnswerOf}
use Rattle.dispatch_top.specs.Answering.{as_waiting}
use Rattle.dispatch_top.proofs.Answered.{answer_to, committed, has_room, printable_answer, short_direct}
use Rattle.dispatch_top.proofs.answer.answer_waiting.Goals as goal
use Rattle.dispatch_top.proofs.answer.answer_waiting.Goals.{in-Ok, in-Err}

pub decide-requires-clause-good : goal.decide-requires-clause-good
decide-requires-clause-good g c = rw c.requires.prices (subst (λ (f : Cars). IsGoodFleet c.args.graph.now f) (sym (ap (λ f. cars_of f) c.fleet.ensures)) c.requires.good)

pub decide-requires-clause-request : goal.decide-requires-clause-request
decide-requires-clause-request g c = rw c.requires.prices c.requires.request

pub tell_answer-requires-clause-printable : goal.tell_answer-requires-clause-printable
tell_answer-requires-clause-printable g c = printable_answer c.args.answers.now.graph.now (cars_of c.fleet.result.now) c.args.request.now c.args.request.now.no c.in_ok-decision.decision c.in_ok-decision.direct c.in_ok-decision.ensures.answer

pub tell_answer-requires-clause-room : goal.tell_answer-requires-clause-room
tell_answer-requires-clause-room g c = has_room (board_of c.args.board.now) c.args.sums.now c.requires.version c.requires.few

pub apply-requires-clause-direct : goal.apply-requires-clause-direct
apply-requires-clause-direct g c =
    let told = subst (λ (f : Cars). IsAnswerOf c.args.graph.now f c.args.request.now c.in_ok-decision.decision c.in_ok-decision.direct) (ap (λ f. cars_of f) c.fleet.ensures) (subst (λ (r : Roads). IsAnswerOf r (cars_of c.fleet.result.now) c.args.request.now c.in_ok-decision.decision c.in_ok-decision.direct) c.requires.prices c.in_ok-decision.ensures.answer) in
    short_direct c.args.graph.now (board_of c.args.board.now) c.args.request.now c.in_ok-decision.decision c.in_ok-decision.direct told
    (c.answers_are_possible.ensures c.args.graph.now (board_of c.args.board.now) (as_waiting c.args.request.now) c.in_ok-decision.decision c.in_ok-decision.direct c.nodes.ensures.kept (sym c.requires.nodes) (answer_to c.args.graph.now (board_of c.args.board.now) c.args.request.now c.in_ok-decision.decision c.in_ok-decision.direct told)).1

pub apply-requires-clause-possible : goal.apply-requires-clause-possible
apply-requires-clause-possible g c =
    let told = subst (λ (f : Cars). IsAnswerOf c.args.graph.now f c.args.request.now c.in_ok-decision.decision c.in_ok-decision.direct) (ap (λ f. cars_of f) c.fleet.ensures) (subst (λ (r : Roads). IsAnswerOf r (cars_of c.fleet.result.now) c.args.request.now c.in_ok-decision.decision c.in_ok-decision.direct) c.requires.prices c.in_ok-decision.ensures.answer) in
    let possible = (c.answers_are_possible.ensures c.args.graph.now (board_of c.args.board.now) (as_waiting c.args.request.now) c.in_ok-decision.decision c.in_ok-decision.direct c.nodes.ensures.kept (sym c.requires.nodes) (answer_to c.args.graph.now (board_of c.args.board.now) c.args.request.now c.in_ok-decision.decision c.in_ok-decision.direct told)).0 in
    (as_waiting c.args.request.now, c.requires.waits, subst (λ (d : Decision). IsPossibleFor (board_of c.args.board.now) (as_waiting c.args.request.now) d c.in_ok-decision.direct) (sym c.in_ok-decision-2.ensures.answer) possible)

pub returns-clause-committed : goal.returns-clause-committed
returns-clause-committed g c =
    let told = subst (λ (f : Cars). IsAnswerOf c.args.graph.now f c.args.request.now c.in_ok-decision.decision c.in_ok-decision.direct) (ap (λ f. cars_of f) c.fleet.ensures) (subst (λ (r : Roads). IsAnswerOf r (cars_of c.fleet.result.now) c.args.request.now c.in_ok-decision.decision c.in_ok-decision.direct) c.requires.prices c.in_ok-decision.ensures.answer) in
    elim c.match-apply.branch [
      | in-Ok w ↦ rw w.result-is (committed c.args.graph.now (board_of c.args.board.now) (board_of c.apply.new.self) c.args.request.now c.in_ok-decision.decision c.in_ok-decision-2.decision c.in_ok-decision.direct c.args.text.now.items c.tell_answer.new.text.items c.args.sums.now c.tell_answer.new.sums c.requires.nodes c.requires.waits told c.in_ok-decision-2.ensures.answer w.in-Ok.ensures.commits c.in_ok-decision-2.ensures.told c.requires.few)
      | in-Err w ↦ rw w.result-is tt
    ]
