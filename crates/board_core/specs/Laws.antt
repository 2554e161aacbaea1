use Rattle.std.specs.Prelude.{◌≡◌, ℕ, suc, ◌+◌, ◌<◌, ◌≤◌, ◌^◌, false, List, ◌∷◌, ◌++◌, length, Some, None, slice_get}
use Rattle.ride_base.specs.declared.numbers.RequestNo.{RequestNo}
use Rattle.ride_base.specs.declared.numbers.VehicleNo.{VehicleNo}
use Rattle.road_graph.specs.Graphs.{IsGraph}
use Rattle.road_graph.specs.Roads.{Roads}
use Rattle.stop_schedule.specs.declared.request.Request.{Request}
use Rattle.stop_schedule.specs.declared.stop.Promise.{Promise}
use Rattle.stop_schedule.specs.declared.stop.StopKind.TheVariants.{Pickup, Dropoff}
use Rattle.stop_schedule.specs.declared.vehicle.Vehicle.{Vehicle}
use Rattle.stop_schedule.specs.Bounds.{AreVehicles}
use Rattle.stop_schedule.specs.Fleets.{Car, IsGoodFleet}
use Rattle.stop_schedule.specs.Limits.{latest_moment}
use Rattle.stop_schedule.specs.Plans.{course_of}
use Rattle.stop_schedule.specs.Rates.{Rates}
use Rattle.stop_schedule.specs.Times.{arrives}
use Rattle.stop_advance.specs.declared.served.Served.{Served}
use Rattle.stop_removal.specs.declared.removal.Removal.{Removal}
use Rattle.stop_removal.specs.Removals.{AreStopsOf}
use Rattle.insertion_cost.specs.declared.decision.Assigned.{Assigned}
use Rattle.insertion_cost.specs.declared.decision.Decision.{Decision}
use Rattle.insertion_cost.specs.declared.decision.Decision.TheVariants.{Assigned as IsAssigned, Nobody}
use Rattle.board_core.specs.declared.entry.Advanced.{Advanced}
use Rattle.board_core.specs.declared.entry.Advanced.TheVariants.{Moved}
use Rattle.board_core.specs.declared.entry.Entry.{Entry}
use Rattle.board_core.specs.declared.entry.Entry.TheVariants.{Advance}
use Rattle.board_core.specs.BoardCalls.{IsAnswerTo, IsPossibleFor, HasLeastJoins, MayRemove}
use Rattle.board_core.specs.Boards.{Board, IsConsistent, Waiting, answer_of, opening_board}
use Rattle.board_core.specs.Histories.{Legal}
use Rattle.board_core.specs.Promises.{KeepsPromises, IsServedStop, WasAssigned, have_cancelled, served_through}
use Rattle.board_core.specs.Steps.{Step, cancel_refusal}

-- Every legal history keeps its promises: over every graph, with every parameters and from every fleet.
abbrev pub LegalHistoriesKeepPromises : Type 0
LegalHistoriesKeepPromises = (g : Roads) (rates : Rates) (vehicles : List Vehicle) (history : List Entry) (last : Board)
    → IsGraph g → AreVehicles g.nodes vehicles → Legal g (opening_board g.nodes rates vehicles) history last
    → KeepsPromises g (opening_board g.nodes rates vehicles) history

-- What was promised for a moment before the clock has happened: no stop is planned to be reached before the clock, the stops that are
-- served as the clock moves are reached from its old moment to its new one, each pickup that was promised for an earlier moment is
-- served unless the riders cancelled, and so is each dropoff, after its pickup.
pub record AreDone (g : Roads) (first : Board) (history : List Entry) (last : Board) : Type 0 where
  pub planned : (place : ℕ) (car : Car) → slice_get last.fleet.cars place ≡ Some car → (k : ℕ) → k < length car.plan.stops → last.fleet.clock ≤ arrives last.fleet.rates.stop (course_of car.plan) (suc k)
  pub served : (before : List Entry) (board : Board) (now : ℕ) (stops : List (VehicleNo × Served)) (after : List Entry) → history ≡ before ++ Advance now (Moved stops) ∷ after → Legal g first before board
      → (k : ℕ) (s : VehicleNo × Served) → slice_get stops k ≡ Some s → (board.fleet.clock ≤ s.1.arr) × (s.1.arr ≤ now)
  pub picked_up : (a : Assigned) (r : Request) (promise : Promise) (after : List Entry) → WasAssigned g first history a r promise after → have_cancelled r.no after ≡ false → promise.pickup < last.fleet.clock
      → (k : ℕ) × IsServedStop (served_through a.offer.no after) k Pickup r promise
  pub dropped_off : (a : Assigned) (r : Request) (promise : Promise) (after : List Entry) → WasAssigned g first history a r promise after → have_cancelled r.no after ≡ false → promise.arrival < last.fleet.clock
      → (k : ℕ) × (l : ℕ) × (k < l) × IsServedStop (served_through a.offer.no after) k Pickup r promise × IsServedStop (served_through a.offer.no after) l Dropoff r promise

-- after every legal history what was promised for a moment before the clock has happened
abbrev pub PromisesAreDoneInTime : Type 0
PromisesAreDoneInTime = (g : Roads) (rates : Rates) (vehicles : List Vehicle) (history : List Entry) (last : Board)
    → IsGraph g → AreVehicles g.nodes vehicles → Legal g (opening_board g.nodes rates vehicles) history last
    → AreDone g (opening_board g.nodes rates vehicles) history last

-- each moment to which the clock was to move is at most the latest one
abbrev pub HasEarlyMoves : List Entry → Type 0
HasEarlyMoves history = (k now : ℕ) (advanced : Advanced) → slice_get history k ≡ Some (Advance now advanced) → now ≤ latest_moment

-- every legal history leaves a good fleet
abbrev pub LegalHistoriesLeaveGoodFleets : Type 0
LegalHistoriesLeaveGoodFleets = (g : Roads) (rates : Rates) (vehicles : List Vehicle) (history : List Entry) (last : Board)
    → IsGraph g → AreVehicles g.nodes vehicles → HasEarlyMoves history → Legal g (opening_board g.nodes rates vehicles) history last
    → IsGoodFleet g last.fleet

-- ---- good boards

-- a board is good over a graph: its fleet is, and its answers agree with its other parts
pub record IsGoodBoard (g : Roads) (b : Board) : Type 0 where
  pub fleet : IsGoodFleet g b.fleet
  pub consistent : IsConsistent b

-- a board before any entry is good over each graph of its nodes
abbrev pub OpeningBoardsAreGood : Type 0
OpeningBoardsAreGood = (g : Roads) (rates : Rates) (vehicles : List Vehicle)
    → AreVehicles g.nodes vehicles → IsGoodBoard g (opening_board g.nodes rates vehicles)

-- if the entry is a move of the clock, then to a moment that is at most the latest one
abbrev pub IsEarlyMove : Entry → Type 0
IsEarlyMove e = (now : ℕ) (advanced : Advanced) → e ≡ Advance now advanced → now ≤ latest_moment

-- each lawful entry leaves a good board good
abbrev pub EntriesLeaveGoodBoards : Type 0
EntriesLeaveGoodBoards = (g : Roads) (old : Board) (e : Entry) (new : Board)
    → IsGraph g → IsEarlyMove e → Step g old e new → IsGoodBoard g old → IsGoodBoard g new

-- so do lawful entries one after another, from any good board on
abbrev pub HistoriesLeaveGoodBoards : Type 0
HistoriesLeaveGoodBoards = (g : Roads) (first : Board) (history : List Entry) (last : Board)
    → IsGraph g → HasEarlyMoves history → Legal g first history last → IsGoodBoard g first
    → IsGoodBoard g last

-- a board of the same nodes and parameters, so many entries later
pub record IsLater (old new : Board) (entries : ℕ) : Type 0 where
  pub nodes : new.nodes ≡ old.nodes
  pub rates : new.fleet.rates ≡ old.fleet.rates
  pub vehicles : length new.fleet.cars ≡ length old.fleet.cars
  pub version : new.fleet.version ≡ old.fleet.version + entries

-- each entry of a history raises the version by one, and nodes, parameters and vehicles stay as many
abbrev pub HistoriesRaiseVersions : Type 0
HistoriesRaiseVersions = (g : Roads) (first : Board) (history : List Entry) (last : Board)
    → Legal g first history last → IsLater first last (length history)

-- ---- what is right over a graph is possible on the board

-- the direct way of an assignment is shorter than 2^53
abbrev pub IsShortWay : Decision → ℕ → Type 0
IsShortWay Nobody direct = Unit {0}
IsShortWay (IsAssigned a) direct = direct < 2 ^ 53

-- Each answer over a graph of the board's nodes is possible for its request, and its direct way is short.
abbrev pub AnswersArePossible : Type 0
AnswersArePossible = (g : Roads) (b : Board) (w : Waiting) (d : Decision) (direct : ℕ) → IsGraph g → g.nodes ≡ b.nodes → IsAnswerTo g b w d direct
    → IsPossibleFor b w d direct × IsShortWay d direct

-- No reason stands against a removal, and the stops at its positions are the number's in the list of the vehicle that it was given;
-- nothing is said of its walks.
pub record CanRemove (b : Board) (number : RequestNo) (x : Removal) : Type 0 where
  pub assigned : Assigned
  pub car : Car
  pub not_refused : cancel_refusal b number ≡ None
  pub answer : answer_of b number ≡ Some (IsAssigned assigned)
  pub stands : slice_get b.fleet.cars assigned.offer.place ≡ Some car
  pub numbered : car.no ≡ x.no
  pub stops : AreStopsOf number car.plan.stops x.pickup x.dropoff

-- With least walks of the joined legs such a removal is possible, over a graph of the board's nodes over which its fleet is good.
abbrev pub RemovalsArePossible : Type 0
RemovalsArePossible = (g : Roads) (b : Board) (number : RequestNo) (x : Removal) → IsGraph g → g.nodes ≡ b.nodes → IsGoodFleet g b.fleet
    → HasLeastJoins g b number x → CanRemove b number x → MayRemove b number x
