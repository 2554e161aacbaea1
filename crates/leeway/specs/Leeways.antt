use Rattle.std.specs.Prelude.{◌≡◌, ℕ, suc, ◌-◌, ◌≤◌, ◌↔◌, min, true, List, [], ◌∷◌, drop, Option, Some, None, slice_get, refl}
use Rattle.road_graph.specs.declared.road.NodeNo.{NodeNo}
use Rattle.stop_schedule.specs.declared.stop.Stop.{Stop}
use Rattle.stop_schedule.specs.declared.stop.StopKind.{StopKind}
use Rattle.stop_schedule.specs.declared.stop.StopKind.TheVariants.{Pickup, Dropoff}
use Rattle.stop_schedule.specs.Ahead.{keeps_reaching}
use Rattle.stop_schedule.specs.Plans.{Plan, Course, halt_at, course_of}
use Rattle.stop_schedule.specs.Rates.{Rates}
use Rattle.stop_schedule.specs.Samples.{first, second}
use Rattle.stop_schedule.specs.Times.{departs, halt_time}

-- no later than its limit, for a stop that is left: a dropoff has no limit on that
abbrev pub limit_left : Stop → StopKind → ℕ → ℕ
limit_left s Pickup latest = min s.limit latest
limit_left s Dropoff latest = latest

-- and for a stop that is reached, on which a pickup has no limit
abbrev pub limit_reached : Stop → StopKind → ℕ → ℕ
limit_reached s Pickup latest = latest
limit_reached s Dropoff latest = min s.limit latest

-- When a vehicle has to leave a place, where it halts or not, at the latest, so that it keeps each promise of the stops ahead and
-- leaves the last one in service. It leaves the last stop by the end of service, and each other so soon that it reaches the next
-- one by the latest arrival there.
abbrev pub leaves_by : (stop until : ℕ) → Option NodeNo → List Stop → List ℕ → ℕ
leaves_by stop until halt [] lengths = until
leaves_by stop until halt (s ∷ stops) [] = 0
leaves_by stop until halt (s ∷ stops) (x ∷ lengths) =
    limit_reached s s.kind (limit_left s s.kind (leaves_by stop until (Some s.node) stops lengths) - halt_time stop halt s.node) - x

-- the latest departure from stop i, but for its own limit
abbrev pub leaves_stop_by : (stop until : ℕ) → Course → ℕ → ℕ
leaves_stop_by stop until c i = leaves_by stop until (halt_at c i) (drop i c.stops) (drop i c.lengths)

abbrev pub latest_left : (stop until : ℕ) → Course → ℕ → Option Stop → ℕ
latest_left stop until c i None = until
latest_left stop until c i (Some s) = limit_left s s.kind (leaves_stop_by stop until c i)

abbrev pub latest_reached : (stop until : ℕ) → Course → ℕ → Option Stop → ℕ
latest_reached stop until c i None = until
latest_reached stop until c i (Some s) = limit_reached s s.kind (latest_left stop until c (suc i) (Some s) - halt_time stop (halt_at c i) s.node)

-- the latest arrival at stop i + 1
abbrev pub latest_at : (stop until : ℕ) → Course → ℕ → ℕ
latest_at stop until c i = latest_reached stop until c i (slice_get c.stops i)

-- how long the way from stop i to stop i + 1 may take
abbrev pub slack : (stop until : ℕ) → Course → ℕ → ℕ
slack stop until c i = latest_at stop until c i - departs stop c i

-- the latest departure from stop i, for i from 0, but for its own limit
abbrev pub leaves_from : Rates → Plan → ℕ → ℕ
leaves_from rates p i = leaves_stop_by rates.stop p.until (course_of p) i

-- the latest arrival at stop i, for i from 1, and the slack of leg i, for i from 0
abbrev pub latest_arrival : Rates → Plan → ℕ → ℕ
latest_arrival rates p i = latest_at rates.stop p.until (course_of p) (i - 1)

abbrev pub slack_of : Rates → Plan → ℕ → ℕ
slack_of rates p i = slack rates.stop p.until (course_of p) i

-- Reaching stop i then keeps each promise from it on and the end of service exactly up to this time.
abbrev pub IsLatest : Rates → Plan → ℕ → ℕ → Type 0
IsLatest rates p i latest = (arrival : ℕ) → keeps_reaching rates p i arrival ≡ true ↔ (arrival ≤ latest)

-- in the first schedule: a pickup by 20, and a dropoff by 50 after 20 of driving
first_pickup : latest_at 2 1000 (course_of first) 0 ≡ 18
first_pickup = refl

first_dropoff : latest_at 2 1000 (course_of first) 1 ≡ 50
first_dropoff = refl

first_slack : slack 2 1000 (course_of first) 0 ≡ 18
first_slack = refl

second_slack : slack 2 1000 (course_of first) 1 ≡ 38
second_slack = refl

-- in service until 40 the dropoff may be reached by 38, and the last stop, where the vehicle halts already, still by 40
first_ends : latest_at 2 40 (course_of first) 1 ≡ 38
first_ends = refl

-- and then the pickup has to be left by 18, to be at the dropoff by 38
first_hurries : latest_at 2 40 (course_of first) 0 ≡ 16
first_hurries = refl

-- a stop where the vehicle halts already takes no time: the second rider's dropoff, at node 4 as the first one's, may be reached by
-- 36, and so may the first one's be left by then
second_dropoff : latest_at 2 1000 (course_of second) 3 ≡ 36
second_dropoff = refl

first_dropoff_before : latest_at 2 1000 (course_of second) 2 ≡ 34
first_dropoff_before = refl

slack_to_the_second : slack 2 1000 (course_of second) 2 ≡ 10
slack_to_the_second = refl

-- the last stop there is left at once: it may be reached by the end of service
ends_at_once : latest_at 2 35 (course_of second) 3 ≡ 35
ends_at_once = refl
