use Rattle.std.specs.Prelude.{◌≡◌, ℕ, true, false, List, [], ◌∷◌, map, refl}
use Rattle.road_graph.specs.Paths.{Path}
use Rattle.road_graph.specs.Roads.{node}
use Rattle.stop_schedule.specs.declared.request.Request.{Request}
use Rattle.stop_schedule.specs.declared.stop.SeatKind.TheVariants.{Seat, Space}
use Rattle.stop_schedule.specs.declared.stop.Stop.{Stop}
use Rattle.stop_schedule.specs.declared.stop.StopKind.TheVariants.{Pickup, Dropoff}
use Rattle.stop_schedule.specs.declared.vehicle.Vehicle.{Vehicle}
use Rattle.stop_schedule.specs.Rates.{usual}
use Rattle.stop_schedule.specs.Plans.{Plan, course_of, opening_of, from_front}
use Rattle.stop_schedule.specs.Times.{departs, arrives, stop_time, stop_times, aboard}
use Rattle.stop_schedule.specs.Fronts.{front_of}
use Rattle.stop_schedule.specs.Lists.{inserted_in, new_course, changed_ends, started}
pub use Rattle.stop_schedule.specs.Lists.{pair as at}
use Rattle.stop_schedule.specs.Keeping.{keeps, is_feasible, is_seated}

-- A line of four nodes, both ways, each road of length 10, and one vehicle at node 1 with two seats.

abbrev pub path : ℕ → ℕ → List ℕ → List ℕ → Path
path first offset nodes offsets = record { nodes = node first ∷ map node nodes; offsets = offset ∷ offsets }

abbrev pub car_1 : Vehicle
car_1 = record { no = record { 0 = 1 }; start = node 1; seats = 2; from = 0; until = 1000; spaces = 0 }

abbrev pub ride : ℕ → ℕ → ℕ → ℕ → ℕ → Request
ride number pickup dropoff moment riders = record { no = record { 0 = number }; pickup = node pickup; dropoff = node dropoff; moment = moment; riders = riders; spaces = 0 }

abbrev pub opened : Plan
opened = opening_of car_1

-- from 2 to 4, put in first: the walks 1 2 and 2 3 4
abbrev pub first : Plan
first = inserted_in opened (front_of opened 0) (ride 1 2 4 0 1) (at 0 0) (record { pickup = 20; arrival = 50 }) (path 1 0 (2 ∷ []) (10 ∷ []) ∷ path 2 0 (3 ∷ 4 ∷ []) (10 ∷ 20 ∷ []) ∷ [])

first_reached_at_10 : arrives 2 (course_of first) 1 ≡ 10
first_reached_at_10 = refl

first_left_at_12 : departs 2 (course_of first) 1 ≡ 12
first_left_at_12 = refl

first_over_at_32 : arrives 2 (course_of first) 2 ≡ 32
first_over_at_32 = refl

first_keeps : keeps usual first ≡ true
first_keeps = refl

-- the vehicle has to be free by 34, and not by 33
just_in_service : is_feasible usual (record opened { until = 34 }) (front_of opened 0) (ride 1 2 4 0 1) (at 0 0) (10 ∷ 20 ∷ []) ≡ true
just_in_service = refl

too_late : is_feasible usual (record opened { until = 33 }) (front_of opened 0) (ride 1 2 4 0 1) (at 0 0) (10 ∷ 20 ∷ []) ≡ false
too_late = refl

three_riders : is_feasible usual opened (front_of opened 0) (ride 1 2 4 0 3) (at 0 0) (10 ∷ 20 ∷ []) ≡ false
three_riders = refl

-- a second request from 3 to 4 goes between the two stops: into 3, from there to 4, and then to the older stop at 4
second_ends : changed_ends first.stops (front_of first 0) (ride 2 3 4 0 1) (at 1 1) ≡ (node 2, node 3) ∷ (node 3, node 4) ∷ (node 4, node 4) ∷ []
second_ends = refl

second_fits : is_feasible usual first (front_of first 0) (ride 2 3 4 0 1) (at 1 1) (10 ∷ 10 ∷ 0 ∷ []) ≡ true
second_fits = refl

-- put in at the front it breaks the first rider's latest pickup, which is 20
second_first : is_feasible usual first (front_of first 0) (ride 2 3 4 0 1) (at 0 0) (20 ∷ 10 ∷ 20 ∷ []) ≡ false
second_first = refl

-- with one seat there is no room between the two stops
second_has_no_seat : is_feasible usual (record first { seats = 1 }) (front_of first 0) (ride 2 3 4 0 1) (at 1 1) (10 ∷ 10 ∷ 0 ∷ []) ≡ false
second_has_no_seat = refl

-- a rider in a wheelchair takes a space and no seat, on each leg of the way
abbrev pub in_chair : Request → Request
in_chair r = record r { riders = 0; spaces = 1 }

abbrev pub spacious : Plan
spacious = record opened { seats = 1; spaces = 1 }

chair_fits : is_feasible usual spacious (front_of spacious 0) (in_chair (ride 1 2 4 0 1)) (at 0 0) (10 ∷ 20 ∷ []) ≡ true
chair_fits = refl

chair_takes_no_seat : is_feasible usual (record opened { seats = 16 }) (front_of opened 0) (in_chair (ride 1 2 4 0 1)) (at 0 0) (10 ∷ 20 ∷ []) ≡ false
chair_takes_no_seat = refl

-- the first rider in a wheelchair is aboard from node 2 to node 4
abbrev first_in_chair : Plan
first_in_chair = inserted_in spacious (front_of spacious 0) (in_chair (ride 1 2 4 0 1)) (at 0 0) (record { pickup = 20; arrival = 50 }) first.legs

chair_aboard : map (aboard Space first_in_chair.stops) (0 ∷ 1 ∷ 2 ∷ []) ≡ 0 ∷ 1 ∷ 0 ∷ []
chair_aboard = refl

no_seat_aboard : map (aboard Seat first_in_chair.stops) (0 ∷ 1 ∷ 2 ∷ []) ≡ 0 ∷ 0 ∷ 0 ∷ []
no_seat_aboard = refl

-- a second wheelchair has no space beside it, not even where its own leg is free, and a rider has a seat
second_chair : is_feasible usual first_in_chair (front_of first_in_chair 0) (in_chair (ride 2 3 4 0 1)) (at 1 1) (10 ∷ 10 ∷ 0 ∷ []) ≡ false
second_chair = refl

chair_along_the_way : is_feasible usual (record first_in_chair { until = 5000; stops = map (λ (s : Stop). record s { limit = 900 }) first_in_chair.stops }) (front_of first_in_chair 0) (in_chair (ride 2 1 4 0 1)) (at 0 2) (0 ∷ 10 ∷ 0 ∷ []) ≡ false
chair_along_the_way = refl

seat_beside_chair : is_feasible usual first_in_chair (front_of first_in_chair 0) (ride 2 3 4 0 1) (at 1 1) (10 ∷ 10 ∷ 0 ∷ []) ≡ true
seat_beside_chair = refl

abbrev pub second : Plan
second = inserted_in first (front_of first 0) (ride 2 3 4 0 1) (at 1 2) (record { pickup = 24; arrival = 36 }) (path 2 0 (3 ∷ []) (10 ∷ []) ∷ path 3 0 (4 ∷ []) (10 ∷ []) ∷ path 4 0 (4 ∷ []) (0 ∷ []) ∷ [])

-- a stop where the vehicle halts already takes no time: behind another stop always, and at the first one where its place was a stop
stays_put : map (stop_time 2 (course_of second)) (1 ∷ 2 ∷ 3 ∷ 4 ∷ []) ≡ 2 ∷ 2 ∷ 2 ∷ 0 ∷ []
stays_put = refl

three_stops : stop_times 2 (course_of second) 4 ≡ 6
three_stops = refl

three_of_three : stop_times 2 (course_of second) 3 ≡ 6
three_of_three = refl

never_halted : stop_time 2 (course_of (record first { place = node 2 })) 1 ≡ 2
never_halted = refl

halted_there : stop_time 2 (course_of (record first { place = node 2; halt = true })) 1 ≡ 0
halted_there = refl

halted_elsewhere : stop_time 2 (course_of (record first { halt = true })) 1 ≡ 2
halted_elsewhere = refl

-- the mark is kept at the place's own departure, and lost at any other time
halts_on : (from_front (front_of (record first { halt = true }) 0) (record first { halt = true })).halt ≡ true
halts_on = refl

moved_on : (from_front (front_of (record first { halt = true }) 5) (record first { halt = true })).halt ≡ false
moved_on = refl

-- an insertion behind a stop keeps it though the vehicle is under way, and one before it loses it
abbrev pub halted : Plan
halted = record first { halt = true }

behind_a_stop : (started (at 1 1) (front_of halted 5) halted).halt ≡ true
behind_a_stop = refl

before_a_stop : (started (at 0 1) (front_of halted 5) halted).halt ≡ false
before_a_stop = refl

waited : (from_front (front_of (record opened { halt = true }) 1) (record opened { halt = true })).halt ≡ false
waited = refl

second_in_order : map {B = ℕ × ℕ} (λ (s : Stop). (s.no.0, s.node.0)) second.stops ≡ (1, 2) ∷ (2, 3) ∷ (1, 4) ∷ (2, 4) ∷ []
second_in_order = refl

second_aboard : map (aboard Seat second.stops) (0 ∷ 1 ∷ 2 ∷ 3 ∷ 4 ∷ []) ≡ 0 ∷ 1 ∷ 2 ∷ 1 ∷ 0 ∷ []
second_aboard = refl

-- under way at 5 the vehicle can turn at node 2, where it is at 10; when it stands, at once
under_way : front_of first 5 ≡ record { node = node 2; time = 10; offset = 10 }
under_way = refl

standing : front_of opened 5 ≡ record { node = node 1; time = 5; offset = 0 }
standing = refl

not_begun : front_of (record first { departure = 7 }) 5 ≡ record { node = node 1; time = 7; offset = 0 }
not_begun = refl

-- at the very moment of its departure it is still at its place
leaving : front_of first 0 ≡ record { node = node 1; time = 0; offset = 0 }
leaving = refl

-- three stops: the riders of request 9 get off at node 2, and those of request 1 on at node 3 and off at node 4

abbrev stop_at : ℕ → ℕ → Stop
stop_at n number = record { node = node n; kind = Dropoff; no = record { 0 = number }; riders = 1; ready = 0; limit = 500; spaces = 0 }

abbrev pub three : Plan
three = record {
  seats = 2;
  spaces = 0;
  until = 1000;
  place = node 1;
  departure = 0;
  halt = false;
  stops = stop_at 2 9 ∷ record (stop_at 3 1) { kind = Pickup } ∷ stop_at 4 1 ∷ [];
  legs = path 1 0 (2 ∷ []) (10 ∷ []) ∷ path 2 0 (3 ∷ []) (10 ∷ []) ∷ path 3 0 (4 ∷ []) (10 ∷ []) ∷ [];
}

three_aboard : map (aboard Seat three.stops) (0 ∷ 1 ∷ 2 ∷ []) ≡ 1 ∷ 0 ∷ 1 ∷ []
three_aboard = refl

-- who gets off before another gets on: too many are aboard between the two stops, on seats or in wheelchair spaces, though the other rider
-- who gets on behind them has room
abbrev in_turn : (riders spaces : ℕ) → List Stop
in_turn riders spaces =
    record (stop_at 2 1) { kind = Pickup; riders = riders; spaces = spaces } ∷ record (stop_at 3 1) { riders = riders; spaces = spaces }
    ∷ record (stop_at 3 2) { kind = Pickup } ∷ stop_at 4 2 ∷ []

all_in_turn : is_seated 2 1 (in_turn 2 1) ≡ true
all_in_turn = refl

one_seat_short : is_seated 2 1 (in_turn 3 0) ≡ false
one_seat_short = refl

one_space_short : is_seated 2 1 (in_turn 0 2) ≡ false
one_space_short = refl

-- the lengths of the new legs, for each shape of changed ones
same_place : (new_course three (front_of three 0) (ride 5 3 2 0 1) (at 1 1) (11 ∷ 12 ∷ 13 ∷ [])).lengths ≡ 10 ∷ 11 ∷ 12 ∷ 13 ∷ 10 ∷ []
same_place = refl

next_places : (new_course three (front_of three 0) (ride 5 3 2 0 1) (at 1 2) (11 ∷ 12 ∷ 13 ∷ 14 ∷ [])).lengths ≡ 10 ∷ 11 ∷ 12 ∷ 13 ∷ 14 ∷ []
next_places = refl

one_between : (new_course three (front_of three 0) (ride 5 3 2 0 1) (at 0 2) (11 ∷ 12 ∷ 13 ∷ 14 ∷ [])).lengths ≡ 11 ∷ 12 ∷ 10 ∷ 13 ∷ 14 ∷ []
one_between = refl

to_the_end : (new_course three (front_of three 0) (ride 5 3 2 0 1) (at 0 3) (11 ∷ 12 ∷ 13 ∷ [])).lengths ≡ 11 ∷ 12 ∷ 10 ∷ 10 ∷ 13 ∷ []
to_the_end = refl

both_at_the_end : (new_course three (front_of three 0) (ride 5 3 2 0 1) (at 3 3) (11 ∷ 12 ∷ [])).lengths ≡ 10 ∷ 10 ∷ 10 ∷ 11 ∷ 12 ∷ []
both_at_the_end = refl

-- over a road of length 0, and exactly at a node
no_length : front_of (record first { departure = 5; legs = path 1 0 (2 ∷ 3 ∷ []) (0 ∷ 10 ∷ []) ∷ [] }) 6 ≡ record { node = node 3; time = 15; offset = 10 }
no_length = refl

at_a_node : front_of first 10 ≡ record { node = node 2; time = 10; offset = 10 }
at_a_node = refl
