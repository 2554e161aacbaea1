use Rattle.std.specs.Prelude.{ℕ, zero, suc, ◌+◌, ◌-◌, ◌==◌, max, cond, List, ◌∷◌, drop, Option, Some, None, slice_get, slice_index, sum_by}
use Rattle.road_graph.specs.declared.road.NodeNo.{NodeNo}
use Rattle.stop_schedule.specs.declared.stop.SeatKind.{SeatKind}
use Rattle.stop_schedule.specs.declared.stop.SeatKind.TheVariants.{Seat, Space}
use Rattle.stop_schedule.specs.declared.stop.Stop.{Stop}
use Rattle.stop_schedule.specs.declared.stop.StopKind.{StopKind}
use Rattle.stop_schedule.specs.declared.stop.StopKind.TheVariants.{Pickup, Dropoff}
use Rattle.stop_schedule.specs.Plans.{Course, halt_at}

-- before when a stop isn't left
abbrev pub ready_or : Option Stop → ℕ
ready_or None = 0
ready_or (Some s) = s.ready

-- how long the vehicle stops at a node: not at all where it halts there already, and else for `stop`
abbrev pub halt_time : ℕ → Option NodeNo → NodeNo → ℕ
halt_time stop None n = stop
halt_time stop (Some m) n = cond (m.0 == n.0) 0 stop

abbrev pub halt_time_or : ℕ → Option NodeNo → Option Stop → ℕ
halt_time_or stop halt None = 0
halt_time_or stop halt (Some s) = halt_time stop halt s.node

-- how long stop i takes, for i from 1: the place takes no time
abbrev pub stop_time : ℕ → Course → ℕ → ℕ
stop_time stop c zero = 0
stop_time stop c (suc i) = halt_time_or stop (halt_at c i) (slice_get c.stops i)

-- how long the first n stops take together
abbrev pub stop_times : ℕ → Course → ℕ → ℕ
stop_times stop c zero = 0
stop_times stop c (suc i) = stop_times stop c i + stop_time stop c (suc i)

-- When stop i is left: stop 0 at the departure, and each other when it is reached and its stop time is over, and not before it is
-- ready.
abbrev pub departs : ℕ → Course → ℕ → ℕ
departs stop c zero = c.departure
departs stop c (suc i) = max (departs stop c i + slice_index c.lengths i + stop_time stop c (suc i)) (ready_or (slice_get c.stops i))

-- when stop i is reached, for i from 1
abbrev pub arrives : ℕ → Course → ℕ → ℕ
arrives stop c zero = c.departure
arrives stop c (suc i) = departs stop c i + slice_index c.lengths i

-- the course from stop i on, where that stop is left then
abbrev pub left_at : Course → ℕ → ℕ → Course
left_at c i departure = record { halt = halt_at c i; departure = departure; stops = drop i c.stops; lengths = drop i c.lengths }

-- the course from stop i + 1 on, where that stop is reached then: as if the vehicle left stop i then and had no way to drive
abbrev pub reached_at : Course → ℕ → ℕ → Course
reached_at c i arrival = record (left_at c i arrival) { lengths = 0 ∷ drop (suc i) c.lengths }

-- how many of a stop's riders take this kind of seat
abbrev pub taking : SeatKind → Stop → ℕ
taking Seat s = s.riders
taking Space s = s.spaces

-- how many of them get on at a stop, and how many get off
abbrev pub getting_on : SeatKind → Stop → StopKind → ℕ
getting_on taken s Pickup = taking taken s
getting_on taken s Dropoff = 0

abbrev pub getting_off : SeatKind → Stop → StopKind → ℕ
getting_off taken s Pickup = 0
getting_off taken s Dropoff = taking taken s

-- who is aboard before these stops: the riders of their dropoffs less the riders of their pickups
abbrev pub aboard_before : SeatKind → List Stop → ℕ
aboard_before seat stops = sum_by (λ (s : Stop). getting_off seat s s.kind) stops - sum_by (λ (s : Stop). getting_on seat s s.kind) stops

-- who is aboard on leg i, on seats or in wheelchair spaces
abbrev pub aboard : SeatKind → List Stop → ℕ → ℕ
aboard seat stops i = aboard_before seat (drop i stops)

-- the time of stop i that is promised: when a pickup is left, and when a dropoff is reached
abbrev pub promised_time : ℕ → Course → ℕ → StopKind → ℕ
promised_time stop c i Pickup = departs stop c i
promised_time stop c i Dropoff = arrives stop c i

-- of a pickup its departure is promised, of a dropoff its arrival
abbrev pub kept_time : StopKind → ℕ → ℕ → ℕ
kept_time Pickup arrival departure = departure
kept_time Dropoff arrival departure = arrival
