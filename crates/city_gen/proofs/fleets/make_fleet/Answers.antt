use Rattle.std.proofs.Common.{◌∙◌}
use Rattle.city_gen.proofs.VehiclesFrom.{made_all, made_more, state_all, state_more}
use Rattle.city_gen.proofs.fleets.make_fleet.Goals as goal

pub loop-place-preserved : goal.loop-place-preserved
loop-place-preserved c = record {
  fleet = made_more _ _ _ _ _ _ _ c.loop-place-test.true c.draw_vehicle.ensures.vehicle
      c.draw_vehicle.ensures.state c.in_ok-push.ensures.items c.loop-place.invariant.fleet;
  state = state_more _ _ _ _ c.loop-place-test.true c.draw_vehicle.ensures.state c.loop-place.invariant.state;
}

pub returns-clause-fleet : goal.returns-clause-fleet
returns-clause-fleet c = c.from_vec.ensures ∙ made_all _ _ _ _ c.loop-place-test.false c.loop-place.invariant.fleet

pub returns-clause-state : goal.returns-clause-state
returns-clause-state c = state_all _ _ _ c.loop-place-test.false c.loop-place.invariant.state
