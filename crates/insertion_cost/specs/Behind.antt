use Rattle.std.specs.Prelude.{◌≡◌, ℕ, ◌+◌, ◌-◌, ◌*◌, ◌≤◌, ◌^◌, List, [], ◌∷◌, length, drop, Option, Some, slice_get, refl}
use Rattle.road_graph.specs.declared.road.NodeNo.{NodeNo}
use Rattle.leeway.specs.Leeways.{leaves_stop_by}
use Rattle.stop_schedule.specs.declared.stop.SeatKind.{SeatKind}
use Rattle.stop_schedule.specs.declared.stop.SeatKind.TheVariants.{Seat, Space}
use Rattle.stop_schedule.specs.declared.stop.Stop.{Stop}
use Rattle.stop_schedule.specs.Plans.{Course, halt_at, course_of}
use Rattle.stop_schedule.specs.Samples.{first}
use Rattle.stop_schedule.specs.Times.{halt_time}
use Rattle.insertion_cost.specs.declared.behind.Behind.{Behind}
use Rattle.insertion_cost.specs.declared.driving.Riders.{Riders}
use Rattle.insertion_cost.specs.Changes.{boarding, alighting}

-- how long the legs and the stops take, of a vehicle that halts before the first of them, if it does
abbrev pub busy_along : ℕ → Option NodeNo → List Stop → List ℕ → ℕ
busy_along stop halt [] lengths = 0
busy_along stop halt (s ∷ stops) [] = 0
busy_along stop halt (s ∷ stops) (x ∷ lengths) = x + halt_time stop halt s.node + busy_along stop (Some s.node) stops lengths

-- from stop i of a course on
abbrev pub busy_behind : ℕ → Course → ℕ → ℕ
busy_behind stop c i = busy_along stop (halt_at c i) (drop i c.stops) (drop i c.lengths)

-- the riders who take this kind of seat and get on, and those who get off, at these stops
pub record AreRiders (seat : SeatKind) (stops : List Stop) (riders : Riders) : Type 0 where
  pub on : riders.on ≡ boarding seat stops
  pub off : riders.off ≡ alighting seat stops

-- what lies behind stop i of a course
pub record IsBehind (stop until : ℕ) (c : Course) (i : ℕ) (b : Behind) : Type 0 where
  pub busy_time : b.busy_time ≡ busy_behind stop c i
  pub leaves_by : b.leaves_by ≡ leaves_stop_by stop until c i
  pub on_seats : AreRiders Seat (drop i c.stops) b.on_seats
  pub in_spaces : AreRiders Space (drop i c.stops) b.in_spaces
  pub short : b.busy_time ≤ (length c.stops - i) * (2 ^ 53 + 65536)
  pub few_on_seats : (b.on_seats.on ≤ (length c.stops - i) * 16) × (b.on_seats.off ≤ (length c.stops - i) * 16)
  pub few_in_spaces : (b.in_spaces.on ≤ (length c.stops - i) * 16) × (b.in_spaces.off ≤ (length c.stops - i) * 16)

-- the rows of the last n stops of a course and what follows, from the end back
pub record AreBehindTo (stop until : ℕ) (c : Course) (n : ℕ) (rows : List Behind) : Type 0 where
  pub many : length rows ≡ n
  pub each : (k i : ℕ) (b : Behind) → slice_get rows k ≡ Some b → k + i ≡ length c.stops → IsBehind stop until c i b

-- the rows of all
abbrev pub AreBehind : ℕ → ℕ → Course → List Behind → Type 0
AreBehind stop until c rows = AreBehindTo stop until c (length c.stops + 1) rows

-- 20 of driving and two stops of 2 between the stops of the first schedule, and 10 to the first
whole_first : busy_behind 2 (course_of first) 0 ≡ 34
whole_first = refl
