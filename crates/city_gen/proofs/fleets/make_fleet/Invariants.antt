use Rattle.std.proofs.Common.{◌≡◌, ◌+◌, ◌-◌, ◌*◌, ◌++◌}
use Rattle.city_gen.specs.Draws.{after}
use Rattle.city_gen.specs.Vehicles.{fleet_draws, vehicle_count, vehicles_from}
use Rattle.city_gen.proofs.fleets.make_fleet.Given as goal

abbrev pub invariant-loop-place : goal.invariant-loop-place
invariant-loop-place l = record {
  fleet : l.fleet.items ++ vehicles_from (vehicle_count - l.place) (l.place + 1) l.draws.state
      ≡ vehicles_from vehicle_count 1 l.fn.draws.state;
  state : after (2 * (vehicle_count - l.place)) l.draws.state ≡ after fleet_draws l.fn.draws.state;
}
