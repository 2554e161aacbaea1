use Rattle.std.proofs.Common.{ap, subst}
use Rattle.stop_schedule.specs.Fleets.{Cars}
use Rattle.insertion_cost.specs.Candidates.{AreSound}
use Rattle.board_core.specs.FleetViews.{cars_of}
use Rattle.board_cases.proofs.settles.priced.Goals as goal

pub returns : goal.returns
returns c = subst (λ (f : Cars). AreSound c.args.graph.now f c.args.request.now c.in_ok-priced_on.field-0) (ap (λ f. cars_of f) c.fleet.ensures) c.in_ok-priced_on.ensures
