use Rattle.std.specs.Prelude.{◌≡◌, ℕ, ◌+◌, ◌||◌, Bool, false, List, [], map, Option, Some, None, is_some, slice_get, IsSome}
use Rattle.std.specs.BTreeMap.{is_at}
use Rattle.std.specs.List.{list_any}
use Rattle.std.specs.Map.{lookup}
use Rattle.ride_base.specs.declared.numbers.RequestNo.{RequestNo}
use Rattle.insertion_cost.specs.declared.decision.Decision.{Decision}
use Rattle.stop_schedule.specs.declared.stop.Stop.{Stop}
use Rattle.stop_schedule.specs.declared.vehicle.Vehicle.{Vehicle}
use Rattle.stop_schedule.specs.Fleets.{Car, Cars}
use Rattle.stop_schedule.specs.Plans.{opening_of}
use Rattle.stop_schedule.specs.Rates.{Rates}
pub use Rattle.board_core.specs.Queues.{Waiting, as_waiting, is_number, waiting_in, is_unheld, unheld_in, with_holder, without, by_number}

-- A board: how many nodes its graph has, its fleet with clock and version, whether it is closed, the requests that wait in the
-- order in which they were accepted, and, as maps and sets are seen, in the order of their numbers, the answers and the numbers
-- that were cancelled.
pub record Board : Type 0 where
  pub nodes : ℕ
  pub fleet : Cars
  pub closed : Bool
  pub waiting : List Waiting
  pub answers : List (RequestNo × Decision)
  pub cancelled : List RequestNo

abbrev pub opening_car : Vehicle → Car
opening_car v = record { no = v.no; plan = opening_of v; stamp = 0 }

-- the fleet before any entry: all vehicles at their starts, the clock at 0
abbrev pub opening_fleet : Rates → List Vehicle → Cars
opening_fleet rates vehicles = record { rates = rates; clock = 0; version = 0; cars = map opening_car vehicles }

-- the board before any entry
abbrev pub opening_board : ℕ → Rates → List Vehicle → Board
opening_board nodes rates vehicles = record {
  nodes = nodes;
  fleet = opening_fleet rates vehicles;
  closed = false;
  waiting = [];
  answers = [];
  cancelled = [];
}

-- the request of a number that waits
abbrev pub waiting_of : Board → RequestNo → Option Waiting
waiting_of b number = waiting_in b.waiting number

-- the answer to a number
abbrev pub answer_of : Board → RequestNo → Option Decision
answer_of b number = lookup (is_at (by_number number)) b.answers

-- whether a number was cancelled
abbrev pub is_cancelled : Board → RequestNo → Bool
is_cancelled b number = list_any (is_at (by_number number)) b.cancelled

-- a number was accepted before: it waits, or has its answer
abbrev pub was_accepted : Board → RequestNo → Bool
was_accepted b number = is_some (waiting_of b number) || is_some (answer_of b number)

-- the oldest waiting request, in the order of acceptance, that has no holder
abbrev pub oldest_unheld : Board → Option Waiting
oldest_unheld b = unheld_in b.waiting

-- each entry raises the version by one
abbrev pub with_next_version : Board → Board
with_next_version b = record b { fleet = record b.fleet { version = b.fleet.version + 1 } }

-- The answers of a board agree with its other parts: each stop of a schedule is of a number that has its answer, and no number that
-- waits has one.
pub record IsConsistent (b : Board) : Type 0 where
  pub planned : (place : ℕ) (car : Car) → slice_get b.fleet.cars place ≡ Some car
      → (k : ℕ) (s : Stop) → slice_get car.plan.stops k ≡ Some s → IsSome (answer_of b s.no)
  pub waiting : (k : ℕ) (w : Waiting) → slice_get b.waiting k ≡ Some w
      → answer_of b w.request.no ≡ None
