use Rattle.std.specs.Prelude.{ℕ, zero, suc, ◌==◌, ◌&&◌, Bool, false, cond, List, [], map, Option, Some, None, option_map, slice_get}
use Rattle.road_graph.specs.declared.road.NodeNo.{NodeNo}
use Rattle.road_graph.specs.Paths.{Path, length_of}
use Rattle.stop_schedule.specs.declared.stop.Front.{Front}
use Rattle.stop_schedule.specs.declared.stop.Stop.{Stop}
use Rattle.stop_schedule.specs.declared.vehicle.Vehicle.{Vehicle}

-- A schedule: the seats and the wheelchair spaces, when service ends, a place with a fixed departure, whether the vehicle halts
-- there, which is so where the place was a stop, and the stops after it, each with the leg that leads to it. Stop i is the i-th of
-- the list, counted from 1, and stop 0 is the place; leg i leads from stop i to stop i + 1.
pub record Plan : Type 0 where
  pub seats : ℕ
  pub spaces : ℕ
  pub until : ℕ
  pub place : NodeNo
  pub departure : ℕ
  pub halt : Bool
  pub stops : List Stop
  pub legs : List Path

-- the schedule of a vehicle that has no stop yet
abbrev pub opening_of : Vehicle → Plan
opening_of v = record { seats = v.seats; spaces = v.spaces; until = v.until; place = v.start; departure = v.from; halt = false; stops = []; legs = [] }

-- a schedule of these parts, with the seats, the spaces and the end of service of another one
abbrev pub of_parts : Plan → NodeNo → ℕ → Bool → List Stop → List Path → Plan
of_parts p node departure halt stops legs = record p { place = node; departure = departure; halt = halt; stops = stops; legs = legs }

-- Whether the vehicle still halts at its front: where it halts at its place and the front is at its departure, so that it hasn't
-- moved on in time.
abbrev pub still_halts : Front → Plan → Bool
still_halts front p = p.halt && (front.time == p.departure)

-- the schedule from its front: the vehicle leaves the front's node at the front's time
abbrev pub from_front : Front → Plan → Plan
from_front front p = record p { place = front.node; departure = front.time; halt = still_halts front p }

-- What the times of a schedule hang on: where the vehicle halts before its first stop, if it does, when it leaves there, its stops
-- and the lengths of its legs.
pub record Course : Type 0 where
  pub halt : Option NodeNo
  pub departure : ℕ
  pub stops : List Stop
  pub lengths : List ℕ

-- where the vehicle halts before its first stop
abbrev pub halting : Plan → Option NodeNo
halting p = cond p.halt (Some p.place) None

abbrev pub course_of : Plan → Course
course_of p = record { halt = halting p; departure = p.departure; stops = p.stops; lengths = map length_of p.legs }

-- where the vehicle halts before the stop after stop i: at stop i
abbrev pub halt_at : Course → ℕ → Option NodeNo
halt_at c zero = c.halt
halt_at c (suc i) = option_map (λ (s : Stop). s.node) (slice_get c.stops i)
