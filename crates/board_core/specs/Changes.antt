use Rattle.std.specs.Prelude.{◌≡◌, ℕ, ◌+◌, ◌-◌, ◌<◌, ◌++◌, List, [], ◌∷◌, map, Some, slice_get, slice_set}
use Rattle.ride_base.specs.declared.numbers.RequestNo.{RequestNo}
use Rattle.ride_base.specs.declared.numbers.VehicleNo.{VehicleNo}
use Rattle.road_graph.specs.declared.road.NodeNo.{NodeNo}
use Rattle.road_graph.specs.Graphs.{IsGraph}
use Rattle.road_graph.specs.Roads.{Roads, IsNode}
use Rattle.road_graph.specs.Walks.{IsWalk}
use Rattle.stop_schedule.specs.declared.stop.Front.{Front}
use Rattle.stop_schedule.specs.declared.stop.Stop.{Stop}
use Rattle.stop_schedule.specs.declared.stop.StopKind.{StopKind}
use Rattle.stop_schedule.specs.Fleets.{Car, Cars, Fitting, FitsChanged, IsChange, OfCar, plans_of}
use Rattle.stop_schedule.specs.Fronts.{front_of}
use Rattle.stop_schedule.specs.Plans.{Plan}
use Rattle.stop_schedule.specs.Rates.{Rates}
use Rattle.stop_advance.specs.declared.served.Served.{Served}
use Rattle.stop_advance.specs.Advance.{served_by, advanced_in}
use Rattle.insertion_cost.specs.declared.decision.Assigned.{Assigned}
use Rattle.stop_removal.specs.declared.removal.Removal.{Removal}
use Rattle.insertion_cost.specs.declared.decision.Decision.TheVariants.{Assigned as IsAssigned}
use Rattle.board_core.specs.BoardKept.{IsKeptPlan, next_arrival}
use Rattle.board_core.specs.Boards.{Board, Waiting, waiting_of, answer_of}
use Rattle.board_core.specs.Steps.{taken_on, taken_off, moved_car, served_with}

-- What the parts of a board's calls give one another.

-- a vehicle of a fleet with another schedule, when it then reaches its next stop, and an index that fits wherever the old one did
pub record IsCarFor (Before After : Fitting) (nodes : ℕ) (fleet : Cars) (place : ℕ) (old new : Car) (next : ℕ) : Type 0 where
  pub next_is : next ≡ next_arrival fleet.rates new.plan
  pub fits : FitsChanged Before After fleet.rates place old.plan new.plan
  pub kept : IsKeptPlan nodes fleet.rates fleet.clock new.plan

-- the vehicle that stands in a place of a fleet goes on with another schedule
pub record IsChangedTo (Before After : Fitting) (fleet : Cars) (place : ℕ) (new : Plan) (at : ℕ) (car : Car) (next : ℕ) : Type 0 where
  pub there : at ≡ place
  pub is : OfCar fleet place (λ old. car ≡ record old { plan = new; stamp = fleet.version + 1 })
  pub next_is : next ≡ next_arrival fleet.rates new
  pub fits : OfCar fleet place (λ old. FitsChanged Before After fleet.rates place old.plan new)

-- a vehicle of a board takes in a request that waits
pub record IsTakenOn (Before After : Fitting) (b : Board) (number : RequestNo) (a : Assigned) (direct place : ℕ) (car : Car) (next : ℕ) : Type 0 where
  pub there : a.offer.place ≡ place
  pub waits : Waiting
  pub old : Car
  pub waiting : waiting_of b number ≡ Some waits
  pub stands : slice_get b.fleet.cars place ≡ Some old
  pub is : car ≡ taken_on b old waits.request direct a
  pub change : IsCarFor Before After b.nodes b.fleet place old car next

-- the vehicle that a number was given goes on without its riders
pub record IsTakenOff (Before After : Fitting) (b : Board) (number : RequestNo) (x : Removal) (place : ℕ) (car : Car) (next : ℕ) : Type 0 where
  pub assigned : Assigned
  pub old : Car
  pub answer : answer_of b number ≡ Some (IsAssigned assigned)
  pub there : assigned.offer.place ≡ place
  pub stands : slice_get b.fleet.cars place ≡ Some old
  pub is : car ≡ taken_off b old x
  pub change : IsCarFor Before After b.nodes b.fleet place old car next

-- a vehicle is at its front there, at the clock of its fleet
abbrev pub IsFrontAt : Cars → ℕ → Front → Type 0
IsFrontAt fleet place front = OfCar fleet place (λ car. front ≡ front_of car.plan fleet.clock)

-- both ends are nodes, and in a graph a walk leads from the one to the other
pub record IsJoinable (g : Roads) (ends : NodeNo × NodeNo) : Type 0 where
  pub from : IsNode g ends.0
  pub to : IsNode g ends.1
  pub way : IsGraph g → (nodes : List NodeNo) × (x : ℕ) × IsWalk g ends.0 ends.1 nodes x

abbrev pub AreJoinable : Roads → List (NodeNo × NodeNo) → Type 0
AreJoinable g [] = Unit {0}
AreJoinable g (ends ∷ more) = IsJoinable g ends × AreJoinable g more

-- what was walked over is a graph
abbrev pub IsGraphOf : Roads → List (NodeNo × NodeNo) → Type 0
IsGraphOf g [] = Unit {0}
IsGraphOf g (ends ∷ more) = IsGraph g

-- behind a position of a list, from 1, a stop of this kind and number stands at another one
pub record IsNextStop (stops : List Stop) (kind : StopKind) (number : RequestNo) (from at : ℕ) : Type 0 where
  pub stop : Stop
  pub behind : from < at
  pub stands : slice_get stops (at - 1) ≡ Some stop
  pub is_kind : stop.kind ≡ kind
  pub is_number : stop.no ≡ number

-- the number was given a vehicle
abbrev pub IsGiven : Board → RequestNo → Assigned → Type 0
IsGiven b number a = answer_of b number ≡ Some (IsAssigned a)

-- a vehicle's schedule may be moved to a later clock
abbrev pub MayAdvance : Fitting → Rates → (now place : ℕ) → Car → Type 0
MayAdvance Fits rates now place car = IsChange Fits rates place car.plan (advanced_in rates car.plan now)

-- a vehicle of a list at a later clock: the index goes along, and the stops that it reaches are told behind others
pub record IsReachedBy (Before After : Fitting) (rates : Rates) (now stamp place : ℕ) (old : Car) (cars cars' : List Car) (told told' : List (VehicleNo × Served)) : Type 0 where
  pub cars_are : cars' ≡ slice_set cars place (record old { plan = advanced_in rates old.plan now; stamp = stamp })
  pub told_are : told' ≡ told ++ served_with old.no (served_by rates old.plan now)
  pub fits : FitsChanged Before After rates place old.plan (advanced_in rates old.plan now)

-- the vehicles of a list at a later clock, and the next arrivals from before
pub record AreMovedFrom (rates : Rates) (now : ℕ) (cars : List Car) (arrivals : List ℕ) : Type 0 where
  pub version : ℕ
  pub old : List Car
  pub cars_are : cars ≡ map (moved_car rates version now) old
  pub next : arrivals ≡ map (λ (car : Car). next_arrival rates car.plan) old

-- wherever the one index fits a fleet's schedules, the other one fits them at a later clock
abbrev pub FitsLater : Fitting → Fitting → Cars → ℕ → Type 0
FitsLater Before After fleet now = (g : Roads) → Before g fleet.rates (plans_of fleet)
    → After g fleet.rates (map (λ (car : Car). car.plan) (map (moved_car fleet.rates (fleet.version + 1) now) fleet.cars))
