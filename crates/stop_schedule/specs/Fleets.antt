use Rattle.std.specs.Prelude.{◌≡◌, ℕ, suc, ◌<◌, ◌≤◌, true, List, map, Some, slice_get, slice_set}
use Rattle.ride_base.specs.declared.numbers.VehicleNo.{VehicleNo}
use Rattle.road_graph.specs.Roads.{Roads, IsNode}
use Rattle.stop_schedule.specs.declared.stop.Stop.{Stop}
use Rattle.stop_schedule.specs.Fronts.{IsAhead}
use Rattle.stop_schedule.specs.Keeping.{IsProper, HasLeastWalks, keeps}
use Rattle.stop_schedule.specs.Limits.{latest_moment}
use Rattle.stop_schedule.specs.Plans.{Plan}
use Rattle.stop_schedule.specs.Rates.{Rates}

-- a vehicle with its schedule, and the version of the board after the last entry that changed that schedule
pub record Car : Type 0 where
  pub no : VehicleNo
  pub plan : Plan
  pub stamp : ℕ

-- a fleet at one moment: what it is reckoned with, the clock, the version of the board, and the vehicles in their places
pub record Cars : Type 0 where
  pub rates : Rates
  pub clock : ℕ
  pub version : ℕ
  pub cars : List Car

-- the schedules in the places of their vehicles
abbrev pub plans_of : Cars → List Plan
plans_of fleet = map (λ (car : Car). car.plan) fleet.cars

-- A vehicle is good over a graph, at a clock and a version of its board: its stamp isn't past the version, its schedule stands in the
-- graph, is proper, keeps and has least walks, and its next stop isn't reached before the clock.
pub record IsGoodCar (g : Roads) (rates : Rates) (clock version : ℕ) (car : Car) : Type 0 where
  pub stamp : car.stamp ≤ version
  pub placed : IsNode g car.plan.place
  pub proper : IsProper car.plan
  pub kept : keeps rates car.plan ≡ true
  pub least_walks : HasLeastWalks g car.plan
  pub ahead : IsAhead car.plan clock

-- a fleet is good over a graph: the numbers of its vehicles rise with their places, and each vehicle is good
pub record IsGoodFleet (g : Roads) (fleet : Cars) : Type 0 where
  pub clock : fleet.clock ≤ latest_moment
  pub rising : (k : ℕ) (car next : Car) → slice_get fleet.cars k ≡ Some car → slice_get fleet.cars (suc k) ≡ Some next → car.no.0 < next.no.0
  pub each : (k : ℕ) (car : Car) → slice_get fleet.cars k ≡ Some car → IsGoodCar g fleet.rates fleet.clock fleet.version car

-- what is said of an index: the schedules that it fits, over a graph and with parameters
abbrev pub Fitting : Type 1
Fitting = Roads → Rates → List Plan → Type 0

-- a view is good over a graph: its fleet is, and its index fits the schedules
abbrev pub IsGoodView : Fitting → Roads → Cars → Type 0
IsGoodView Fits g fleet = IsGoodFleet g fleet × Fits g fleet.rates (plans_of fleet)

-- what is so of the vehicle in a place of a fleet
abbrev pub OfCar : Cars → ℕ → (Car → Type 0) → Type 0
OfCar fleet place P = (car : Car) → slice_get fleet.cars place ≡ Some car → P car

-- the schedule's place and its stops are nodes of the graph
pub record IsWithin (g : Roads) (p : Plan) : Type 0 where
  pub place : IsNode g p.place
  pub stops : (k : ℕ) (s : Stop) → slice_get p.stops k ≡ Some s → IsNode g s.node

-- One schedule of a list may be changed: the index fits the list over a graph, the old schedule stands in that place, both keep, and the
-- new one is within the graph.
pub record IsChange (Fits : Fitting) (rates : Rates) (place : ℕ) (old new : Plan) : Type 0 where
  pub graph : Roads
  pub plans : List Plan
  pub fits : Fits graph rates plans
  pub stands : slice_get plans place ≡ Some old
  pub kept : keeps rates old ≡ true
  pub keeps_on : keeps rates new ≡ true
  pub within : IsWithin graph new

-- wherever the one index fits with the old schedule in that place, the other fits with the new one there
abbrev pub FitsChanged : Fitting → Fitting → Rates → ℕ → Plan → Plan → Type 0
FitsChanged Before After rates place old new = (g : Roads) (plans : List Plan) → Before g rates plans → slice_get plans place ≡ Some old → After g rates (slice_set plans place new)
