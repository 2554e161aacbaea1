use Rattle.std.specs.Prelude.{ℕ, zero, suc, ◌+◌, ◌*◌, List, [], ◌∷◌}
use Rattle.stop_schedule.specs.declared.vehicle.Vehicle.{Vehicle}
use Rattle.input_tables.specs.Fleets.{vehicle_of}
use Rattle.city_gen.specs.Draws.{after, draw}
use Rattle.city_gen.specs.Roads.{node_count}

-- The vehicles of a city. Each is in service from 0 until 20000, without wheelchair spaces.

abbrev pub vehicle_count : ℕ
vehicle_count = 60

-- two draws for each vehicle
abbrev pub fleet_draws : ℕ
fleet_draws = 2 * vehicle_count

-- the vehicle of a number: its start is drawn among the nodes, and then its seats from 2 to 4
abbrev pub drawn_vehicle : (number : ℕ) → ℕ → Vehicle
drawn_vehicle number x = vehicle_of number (1 + draw 1 node_count x) (2 + draw 2 3 x) 0 20000 0

-- so many vehicles, from this number on
unfoldable pub vehicles_from : (many number : ℕ) → ℕ → List Vehicle
vehicles_from zero number x = []
vehicles_from (suc many) number x =
    drawn_vehicle number x ∷ vehicles_from many (number + 1) (after 2 x)
