use Rattle.std.specs.Prelude.{◌≡◌, ℕ, suc, ◌<◌, ◌≤◌, List, length, Some, slice_get}
use Rattle.road_graph.specs.Limits.{far}
use Rattle.road_graph.specs.Paths.{Path, length_of}
use Rattle.stop_schedule.specs.declared.stop.Stop.{Stop}
use Rattle.stop_schedule.specs.declared.vehicle.Vehicle.{Vehicle}
use Rattle.stop_schedule.specs.Limits.{latest_moment, latest_front, end_of_time, most_stops, most_riders, most_vehicles}
use Rattle.stop_schedule.specs.Plans.{Plan}

-- a stop's numbers are small enough for times before the end of time
pub record IsSmallStop (s : Stop) : Type 0 where
  pub ready : s.ready ≤ latest_moment
  pub limit : s.limit < end_of_time
  pub riders : s.riders ≤ most_riders
  pub spaces : s.spaces ≤ most_riders

abbrev pub AreSmallStops : List Stop → Type 0
AreSmallStops stops = (k : ℕ) (s : Stop) → slice_get stops k ≡ Some s → IsSmallStop s

-- each leg is shorter than the limit, as each least walk is
abbrev pub AreShortLegs : List Path → Type 0
AreShortLegs legs = (k : ℕ) (leg : Path) → slice_get legs k ≡ Some leg → length_of leg < far

-- What every schedule keeps: few stops with a leg for each, and numbers from which each time is before the end of time.
pub record IsBounded (p : Plan) : Type 0 where
  pub few : length p.stops ≤ most_stops
  pub as_many_legs : length p.legs ≡ length p.stops
  pub departure : p.departure ≤ latest_front
  pub until : p.until ≤ latest_moment
  pub stops : AreSmallStops p.stops
  pub legs : AreShortLegs p.legs

-- a vehicle's fields are in their ranges
pub record IsVehicle (nodes : ℕ) (v : Vehicle) : Type 0 where
  pub number : 1 ≤ v.no.0
  pub start_from_1 : 1 ≤ v.start.0
  pub start_to_last : v.start.0 ≤ nodes
  pub some_seat : 1 ≤ v.seats
  pub few_seats : v.seats ≤ most_riders
  pub few_spaces : v.spaces ≤ most_riders
  pub ordered : v.from ≤ v.until
  pub until : v.until ≤ latest_moment

-- a fleet's vehicles: their numbers rise, and each one's fields are in their ranges
pub record AreVehicles (nodes : ℕ) (vehicles : List Vehicle) : Type 0 where
  pub few : length vehicles ≤ most_vehicles
  pub each : (k : ℕ) (v : Vehicle) → slice_get vehicles k ≡ Some v → IsVehicle nodes v
  pub rising : (k : ℕ) (v w : Vehicle) → slice_get vehicles k ≡ Some v → slice_get vehicles (suc k) ≡ Some w → v.no.0 < w.no.0
