use Rattle.std.specs.Prelude.{ℕ, ◌+◌, ◌<◌, ◌≤◌, max, cond, nat_le, nat_lt, List, [], ◌∷◌, length}
use Rattle.road_graph.specs.declared.road.NodeNo.{NodeNo}
use Rattle.road_graph.specs.Paths.{Path}
use Rattle.stop_schedule.specs.declared.stop.Front.{Front}
use Rattle.stop_schedule.specs.Plans.{Plan, course_of}
use Rattle.stop_schedule.specs.Times.{arrives}

-- the first node of a walk, with its offset, that a vehicle which began it at `departure` reaches at `now` or later
abbrev pub first_reached : (place : NodeNo) (departure now : ℕ) → List NodeNo → List ℕ → Front
first_reached place departure now [] offsets = record { node = place; time = departure; offset = 0 }
first_reached place departure now (n ∷ nodes) [] = record { node = place; time = departure; offset = 0 }
first_reached place departure now (n ∷ nodes) (o ∷ offsets) =
    cond (nat_le now (departure + o)) (record { node = n; time = departure + o; offset = o }) (first_reached place departure now nodes offsets)

-- on the first leg of a vehicle that has one
abbrev pub front_on : (place : NodeNo) (departure now : ℕ) → List Path → Front
front_on place departure now [] = record { node = place; time = max departure now; offset = 0 }
front_on place departure now (leg ∷ legs) =
    cond (nat_lt now departure) (record { node = place; time = departure; offset = 0 }) (first_reached place departure now leg.nodes leg.offsets)

-- Where and when a vehicle can turn to a new stop, at the clock `now`: at its place where it has no stop or hasn't left yet, and
-- otherwise at the first node of its leg that it reaches at `now` or later.
abbrev pub front_of : Plan → ℕ → Front
front_of p now = front_on p.place p.departure now p.legs

-- The next stop, where there is one, isn't reached before the clock. No stop time counts before the first stop.
abbrev pub IsAhead : Plan → ℕ → Type 0
IsAhead p now = 0 < length p.stops → now ≤ arrives 0 (course_of p) 1
