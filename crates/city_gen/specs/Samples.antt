use Rattle.std.specs.Prelude.{◌≡◌, ℕ, ◌+◌, ◌*◌, ◌∷◌, ◌++◌, [], drop, length, nat_lt, cond, List, refl}
use Rattle.std.specs.List.{flat_map, range_with_len, sum_by}
use Rattle.road_graph.specs.declared.road.Road.{Road}
use Rattle.stop_schedule.specs.declared.vehicle.Vehicle.{Vehicle}
use Rattle.input_tables.specs.declared.lines.StreamLine.{StreamLine}
use Rattle.input_tables.specs.declared.lines.StreamLine.TheVariants.{Ride, Move, Cancel, Nothing}
use Rattle.input_tables.specs.Fleets.{vehicle_of}
use Rattle.input_tables.specs.Streams.{request_of}
use Rattle.city_gen.specs.Draws.{next, after, draw}
use Rattle.city_gen.specs.Roads.{neighbours_from, neighbours, road, roads_along}
use Rattle.city_gen.specs.Vehicles.{vehicles_from}
use Rattle.city_gen.specs.Streams.{lines_from}
use Rattle.city_gen.specs.Cities.{roads_of, fleet_of, lines_of, fleet_state, lines_state}

-- City 7, as a program in Python reckoned it.

first_state : next 7 ≡ 9098160460397411210
first_state = refl

first_draw : draw 1 16 7 ≡ 14
unfolding after
first_draw = refl

-- to the right and back with the first draw, and then down and back with the second
first_roads : roads_along 7 (neighbours_from 1 1)
    ≡ road 1 2 19 ∷ road 2 1 19 ∷ road 1 41 20 ∷ road 41 1 20 ∷ []
unfolding after roads_along neighbours_from
first_roads = refl

-- the last node of the first row has no node to its right, and those of the last row none below
at_an_end : neighbours_from 2 40 ≡ (40, 80) ∷ (41, 42) ∷ (41, 81) ∷ []
unfolding neighbours_from
at_an_end = refl

in_the_last_row : neighbours_from 2 1599 ≡ (1599, 1600) ∷ []
unfolding neighbours_from
in_the_last_row = refl

how_many_pairs : length neighbours ≡ 3120
unfolding neighbours neighbours_from
how_many_pairs = refl

last_roads : drop 6238 (roads_of 7) ≡ road 1599 1600 18 ∷ road 1600 1599 18 ∷ []
unfolding after roads_along neighbours neighbours_from
last_roads = refl

where_vehicles_begin : fleet_state 7 ≡ 1650435654420648503
unfolding after neighbours neighbours_from
where_vehicles_begin = refl

first_vehicles : vehicles_from 2 1 1650435654420648503
    ≡ vehicle_of 1 156 2 0 20000 0 ∷ vehicle_of 2 241 3 0 20000 0 ∷ []
unfolding after vehicles_from
first_vehicles = refl

last_vehicle : drop 59 (fleet_of 7) ≡ vehicle_of 60 66 3 0 20000 0 ∷ []
unfolding after vehicles_from neighbours neighbours_from
last_vehicle = refl

where_lines_begin : lines_state 7 ≡ 5417547151973225263
unfolding after neighbours neighbours_from
where_lines_begin = refl

first_lines : lines_from 2 1 0 5417547151973225263
    ≡ Move 0 ∷ Ride (request_of 1 682 349 0 1 0) ∷ Move 5 ∷ Ride (request_of 2 1214 839 5 2 0) ∷ []
unfolding after lines_from
first_lines = refl

last_lines : drop 998 (lines_of 7) ≡ Move 2680 ∷ Ride (request_of 500 1527 785 2680 2 0) ∷ []
unfolding after lines_from neighbours neighbours_from
last_lines = refl

-- The same pairs by row and column, both counted from 0.
abbrev at : (row column : ℕ) → ℕ
at row column = 1 + 40 * row + column

abbrev pairs_at : (row column : ℕ) → List (ℕ × ℕ)
pairs_at row column =
    cond (nat_lt column 39) ((at row column, at row (column + 1)) ∷ []) []
    ++ cond (nat_lt row 39) ((at row column, at (row + 1) column) ∷ []) []

by_row_and_column : neighbours
    ≡ flat_map (λ row. flat_map (pairs_at row) (range_with_len 0 40)) (range_with_len 0 40)
unfolding neighbours neighbours_from
by_row_and_column = refl

all_weights : sum_by (λ (r : Road). r.from.0 * r.weight) (roads_of 7) ≡ 62054765
unfolding after roads_along neighbours neighbours_from
all_weights = refl

all_starts : sum_by (λ (v : Vehicle). v.no.0 * v.start.0) (fleet_of 7) ≡ 1561876
unfolding after vehicles_from neighbours neighbours_from
all_starts = refl

abbrev numbers : StreamLine → ℕ
numbers (Ride r) = r.no.0 * (r.pickup.0 + r.dropoff.0 + r.riders) + r.moment
numbers (Move now) = now
numbers (Cancel number) = 0
numbers Nothing = 0

all_lines : sum_by numbers (lines_of 7) ≡ 200012780
unfolding after lines_from neighbours neighbours_from
all_lines = refl
