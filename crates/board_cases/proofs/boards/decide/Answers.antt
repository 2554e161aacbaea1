use Rattle.std.proofs.Common.{ap, subst}
use Rattle.stop_schedule.specs.Fleets.{Cars}
use Rattle.insertion_cost.specs.Pricers.{IsAnswerOf}
use Rattle.board_core.specs.FleetViews.{cars_of}
use Rattle.board_cases.proofs.boards.decide.Goals as goal

pub returns : goal.returns
returns c = subst (λ (f : Cars). IsAnswerOf c.args.graph.now f c.args.request.now c.in_ok-both.both.0 c.in_ok-both.both.1) (ap (λ f. cars_of f) c.fleet.ensures) c.in_ok-both.ensures
