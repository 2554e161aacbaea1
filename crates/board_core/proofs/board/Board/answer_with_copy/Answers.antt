use Rattle.std.proofs.Common.{subst}
use Rattle.board_core.specs.BoardViews.{board_of}
use Rattle.board_core.specs.FleetViews.{cars_of}
use Rattle.insertion_cost.specs.Pricers.{IsAnswerOf}
use Rattle.board_core.proofs.Answered.{lawful_answer, possible_answer, short_answer}
use Rattle.board_core.proofs.board.Board.answer_with_copy.Goals as goal

pub apply-requires-clause-direct : goal.apply-requires-clause-direct
apply-requires-clause-direct g c =
    short_answer (g.P.Pricer.graph c.args.pricer.now) (board_of c.args.self.now) c.args.request.now c.args.decision c.in_ok-direct.direct c.answers_are_possible.ensures c.requires.graph c.requires.nodes c.requires.waits
    (subst (λ f. IsAnswerOf (g.P.Pricer.graph c.args.pricer.now) (cars_of f) c.args.request.now c.args.decision c.in_ok-direct.direct) c.fleet.ensures c.in_ok-direct.ensures.answer)

pub apply-requires-clause-possible : goal.apply-requires-clause-possible
apply-requires-clause-possible g c =
    possible_answer (g.P.Pricer.graph c.args.pricer.now) (board_of c.args.self.now) c.args.request.now c.args.decision c.in_ok-direct.direct c.answers_are_possible.ensures c.requires.graph c.requires.nodes c.requires.waits
    (subst (λ f. IsAnswerOf (g.P.Pricer.graph c.args.pricer.now) (cars_of f) c.args.request.now c.args.decision c.in_ok-direct.direct) c.fleet.ensures c.in_ok-direct.ensures.answer)

pub returns-in-Ok-clause-entry : goal.returns-in-Ok-clause-entry
returns-in-Ok-clause-entry g c =
    lawful_answer (g.P.Pricer.graph c.args.pricer.now) (board_of c.args.self.now) (board_of c.apply.new.self) c.args.request.now c.args.decision c.in_ok-told.told c.in_ok-direct.direct c.requires.nodes c.requires.waits
    (subst (λ f. IsAnswerOf (g.P.Pricer.graph c.args.pricer.now) (cars_of f) c.args.request.now c.args.decision c.in_ok-direct.direct) c.fleet.ensures c.in_ok-direct.ensures.answer)
    c.in-Ok.ensures.commits c.in_ok-told.ensures
