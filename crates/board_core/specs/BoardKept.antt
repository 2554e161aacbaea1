use Rattle.std.specs.Prelude.{◌≡◌, ℕ, ◌-◌, ◌^◌, ◌≤◌, ◌==◌, Bool, true, cond, List, map, length, Some, slice_get}
use Rattle.ride_base.specs.declared.numbers.RequestNo.{RequestNo}
use Rattle.road_graph.specs.Paths.{Path}
use Rattle.road_graph.specs.Roads.{Roads}
use Rattle.road_graph.specs.declared.road.NodeNo.{NodeNo}
use Rattle.insertion_cost.specs.declared.decision.Decision.{Decision}
use Rattle.stop_schedule.specs.declared.request.Request.{Request}
use Rattle.stop_schedule.specs.declared.stop.Stop.{Stop}
use Rattle.stop_schedule.specs.Fleets.{Car, Cars, Fitting, plans_of}
use Rattle.stop_schedule.specs.Fronts.{IsAhead}
use Rattle.stop_schedule.specs.Keeping.{keeps}
use Rattle.stop_schedule.specs.Limits.{latest_moment, most_riders}
use Rattle.stop_schedule.specs.Plans.{Plan, course_of}
use Rattle.stop_schedule.specs.Rates.{Rates}
use Rattle.stop_schedule.specs.Times.{arrives}
use Rattle.board_core.specs.declared.fleet.Fleet.{Fleet}
use Rattle.board_core.specs.BoardCalls.{AreWithin}
use Rattle.board_core.specs.Boards.{Board, Waiting, IsConsistent}
use Rattle.board_core.specs.FleetViews.{cars_of}

-- a board as contracts see it: a board of the definitions, and the index of its fleet
pub record WithIndex (I : Type 0) : Type 0 where
  pub nodes : ℕ
  pub fleet : Fleet I
  pub closed : Bool
  pub waiting : List Waiting
  pub answers : List (RequestNo × Decision)
  pub cancelled : List RequestNo

-- the parts of such a board, put together
abbrev pub with_index : {I : Type 0} → ℕ → Fleet I → Bool → List Waiting
    → List (RequestNo × Decision) → List RequestNo → WithIndex I
with_index nodes fleet closed waiting answers cancelled = record {
  nodes = nodes;
  fleet = fleet;
  closed = closed;
  waiting = waiting;
  answers = answers;
  cancelled = cancelled;
}

-- what it is, apart from the index of its fleet
abbrev pub board_of : {I : Type 0} → WithIndex I → Board
board_of b = record {
  nodes = b.nodes;
  fleet = cars_of b.fleet;
  closed = b.closed;
  waiting = b.waiting;
  answers = b.answers;
  cancelled = b.cancelled;
}

-- the moment of a vehicle that has no stop
abbrev pub never : ℕ
never = 2 ^ 64 - 1

-- when a vehicle reaches its next stop
abbrev pub next_arrival : Rates → Plan → ℕ
next_arrival rates p = cond (length p.stops == 0) never (arrives rates.stop (course_of p) 1)

abbrev pub next_arrivals : Cars → List ℕ
next_arrivals fleet = map (λ (car : Car). next_arrival fleet.rates car.plan) fleet.cars

-- the number is that of a node, of so many
abbrev pub IsAmong : ℕ → NodeNo → Type 0
IsAmong nodes n = (1 ≤ n.0) × (n.0 ≤ nodes)

-- What each schedule of a board meets, for a number of nodes and at a clock: it keeps, its places and the nodes of its legs are nodes,
-- and its next stop isn't reached before the clock. Nothing is said of roads.
pub record IsKeptPlan (nodes : ℕ) (rates : Rates) (clock : ℕ) (p : Plan) : Type 0 where
  pub kept : keeps rates p ≡ true
  pub place : IsAmong nodes p.place
  pub stops : (k : ℕ) (s : Stop) → slice_get p.stops k ≡ Some s → IsAmong nodes s.node
  pub legs : (k : ℕ) (leg : Path) → slice_get p.legs k ≡ Some leg → AreWithin nodes leg.nodes
  pub ahead : IsAhead p clock

abbrev pub AreKeptPlans : ℕ → Cars → Type 0
AreKeptPlans nodes fleet = (place : ℕ) (car : Car) → slice_get fleet.cars place ≡ Some car → IsKeptPlan nodes fleet.rates fleet.clock car.plan

-- What a board's fleet meets: its index fits its schedules over some graph of so many nodes, each schedule meets the above, and what is
-- told of next arrivals is so.
pub record IsKeptFleet (Fits : Fitting) (nodes : ℕ) (fleet : Cars) (arrivals : List ℕ) : Type 0 where
  pub graph : Roads
  pub many : graph.nodes ≡ nodes
  pub fits : Fits graph fleet.rates (plans_of fleet)
  pub clock : fleet.clock ≤ latest_moment
  pub plans : AreKeptPlans nodes fleet
  pub next : arrivals ≡ next_arrivals fleet

-- what each request that waits meets: its places are nodes, and its numbers are in range
pub record IsAccepted (nodes : ℕ) (r : Request) : Type 0 where
  pub pickup : IsAmong nodes r.pickup
  pub dropoff : IsAmong nodes r.dropoff
  pub riders : r.riders ≤ most_riders
  pub spaces : r.spaces ≤ most_riders
  pub moment : r.moment ≤ latest_moment

abbrev pub AreAccepted : Board → Type 0
AreAccepted b = (k : ℕ) (w : Waiting) → slice_get b.waiting k ≡ Some w
    → IsAccepted b.nodes w.request

-- what each board meets, with the next arrivals that it keeps
pub record IsKeptBoard (Fits : Fitting) (b : Board) (arrivals : List ℕ) : Type 0 where
  pub fleet : IsKeptFleet Fits b.nodes b.fleet arrivals
  pub accepted : AreAccepted b
  pub consistent : IsConsistent b

-- that, of a board with an index that is said to fit
abbrev pub IsKept : {I : Type 0} → (I → Fitting) → WithIndex I → List ℕ → Type 0
IsKept fits b arrivals = IsKeptBoard (fits b.fleet.index) (board_of b) arrivals
