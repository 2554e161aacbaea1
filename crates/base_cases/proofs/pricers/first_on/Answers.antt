use Rattle.std.proofs.Common.{sym, subst}
use Rattle.stop_schedule.specs.Fleets.{IsGoodFleet}
use Rattle.stop_schedule.specs.Plans.{Plan}
use Rattle.base_cases.specs.OneVehicle.{one_vehicle}
use Rattle.base_cases.proofs.OneVehicle.{first_good}
use Rattle.base_cases.proofs.pricers.first_on.Goals as goal

pub returns : goal.returns
returns c = subst (λ (p : Plan). IsGoodFleet c.args.graph.now (one_vehicle p)) (sym c.in_ok-first_over.ensures)
    (first_good c.args.graph.now c.requires c.in_ok-into.into c.in_ok-onward.onward c.in_ok-into.ensures.least c.in_ok-onward.ensures.least c.in_ok-into.ensures.length c.in_ok-onward.ensures.length)
