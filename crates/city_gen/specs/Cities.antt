use Rattle.std.specs.Prelude.{◌≡◌, ℕ, List, length, Some, slice_get}
use Rattle.road_graph.specs.declared.road.Road.{Road}
use Rattle.stop_schedule.specs.declared.vehicle.Vehicle.{Vehicle}
use Rattle.input_tables.specs.declared.lines.StreamLine.{StreamLine}
use Rattle.input_tables.specs.Streams.{IsInRange}
use Rattle.city_gen.specs.declared.cities.City.{City}
use Rattle.city_gen.specs.Draws.{after}
use Rattle.city_gen.specs.Roads.{node_count, neighbours, roads_along}
use Rattle.city_gen.specs.Vehicles.{vehicle_count, fleet_draws, vehicles_from}
use Rattle.city_gen.specs.Streams.{ride_count, lines_from}

-- The city of a number. All its parts are drawn from one generator, which begins at that number:
-- the roads first, behind one draw for each pair of neighbours the vehicles, and behind two for each
-- of them the lines.

abbrev pub roads_of : ℕ → List Road
roads_of number = roads_along number neighbours

-- the states of the generator where the vehicles begin, and where the lines begin
abbrev pub fleet_state : ℕ → ℕ
fleet_state number = after (length neighbours) number

abbrev pub lines_state : ℕ → ℕ
lines_state number = after fleet_draws (fleet_state number)

abbrev pub fleet_of : ℕ → List Vehicle
fleet_of number = vehicles_from vehicle_count 1 (fleet_state number)

abbrev pub lines_of : ℕ → List StreamLine
lines_of number = lines_from ride_count 1 0 (lines_state number)

abbrev pub city_of : ℕ → City
city_of number = record {
  nodes = node_count;
  roads = roads_of number;
  fleet = fleet_of number;
  lines = lines_of number;
}

-- the numbers of each line are in the ranges of a stream's
abbrev pub AreInRange : List StreamLine → Type 0
AreInRange lines = (k : ℕ) (line : StreamLine) → slice_get lines k ≡ Some line → IsInRange line
