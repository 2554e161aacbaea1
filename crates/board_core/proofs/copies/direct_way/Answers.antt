use Rattle.std.proofs.Common.{sym, subst}
use Rattle.insertion_cost.specs.Pricers.{IsAnswerOf}
use Rattle.board_core.proofs.Answered.{answer_by}
use Rattle.board_core.proofs.copies.direct_way.Goals as goal

pub returns-in_ok-direct-in-Assigned-clause-answer : goal.returns-in_ok-direct-in-Assigned-clause-answer
returns-in_ok-direct-in-Assigned-clause-answer g c =
    subst (λ n. IsAnswerOf (g.P.Pricer.graph c.args.pricer.now) (g.F.FleetView.fleet c.args.fleet.now) c.args.request.now c.args.decision.now n) (sym c.unwrap_or.ensures)
    (answer_by (g.P.Pricer.graph c.args.pricer.now) (g.F.FleetView.fleet c.args.fleet.now) c.args.request.now c.args.decision.now c.in-Assigned.field-0 c.in-Assigned.is c.requires.decision c.in_ok-direct-in-Assigned.direct c.in_ok-direct-in-Assigned.ensures.direct)
