use Rattle.std.specs.Prelude.{◌≡◌, ℕ, List, map, sum_by, if◌then◌else◌, Some, None, refl}
use Rattle.road_graph.specs.Paths.{Path, length_of}
use Rattle.stop_schedule.specs.declared.request.Request.{Request}
use Rattle.stop_schedule.specs.declared.stop.Insertion.{Insertion}
use Rattle.stop_schedule.specs.declared.stop.SeatKind.{SeatKind}
use Rattle.stop_schedule.specs.declared.stop.SeatKind.TheVariants.{Seat, Space}
use Rattle.stop_schedule.specs.declared.stop.Start.{Start}
use Rattle.stop_schedule.specs.declared.stop.Stop.{Stop}
use Rattle.stop_schedule.specs.Plans.{Plan, Course, course_of}
use Rattle.stop_schedule.specs.Lists.{with_both, with_legs, pickup_of, dropoff_of, unpromised}
use Rattle.stop_schedule.specs.Samples.{first, ride, at}
use Rattle.stop_schedule.specs.Times.{getting_on, getting_off}

-- the stops of a list with those of a request, which have no limit yet but the end of service
abbrev pub new_stops : List Stop → ℕ → Request → Insertion → List Stop
new_stops stops until r at = with_both stops at (pickup_of r (unpromised until)) (dropoff_of r (unpromised until))

-- the lengths of all legs, where the changed ones have these
abbrev pub new_lengths : List Path → Insertion → List ℕ → List ℕ
new_lengths legs at lengths = with_legs (map length_of legs) at lengths

-- how many of a request's riders take this kind of seat
abbrev pub party : SeatKind → Request → ℕ
party Seat r = r.riders
party Space r = r.spaces

-- how many riders who take it get on at these stops, and how many get off
abbrev pub boarding : SeatKind → List Stop → ℕ
boarding seat stops = sum_by (λ (s : Stop). getting_on seat s s.kind) stops

abbrev pub alighting : SeatKind → List Stop → ℕ
alighting seat stops = sum_by (λ (s : Stop). getting_off seat s s.kind) stops

-- the course of a schedule's stops from where a new list starts
abbrev pub course_from : Start → Plan → Course
course_from start p = record (course_of p) { halt = if start.halt then Some start.node else None; departure = start.departure }

-- one more from 3 to 4 between the two stops of one rider
two_board : boarding Seat (new_stops first.stops 1000 (ride 2 3 4 0 1) (at 1 1)) ≡ 2
two_board = refl

none_in_spaces : alighting Space (new_stops first.stops 1000 (ride 2 3 4 0 1) (at 1 1)) ≡ 0
none_in_spaces = refl
