use Rattle.std.proofs.Common.{◌≡◌, ℕ, ◌<◌, List, Some, slice_get, suc}
use Rattle.stop_schedule.specs.declared.vehicle.Vehicle.{Vehicle}
use Rattle.stop_schedule.specs.Bounds.{IsVehicle}

-- What the vehicles that were looked at are.

abbrev pub IsVehicleAt : ℕ → List Vehicle → ℕ → Type 0
IsVehicleAt nodes vehicles k = (v : Vehicle) → slice_get vehicles k ≡ Some v → IsVehicle nodes v

-- the vehicle in a place has a greater number than the one before it
abbrev pub RisesTo : List Vehicle → ℕ → Type 0
RisesTo vehicles k = (j : ℕ) → suc j ≡ k → (v w : Vehicle) → slice_get vehicles j ≡ Some v → slice_get vehicles k ≡ Some w → v.no.0 < w.no.0

-- the first vehicles of a list are those of a fleet, and the last of them has this number
pub record AreFirst (nodes : ℕ) (vehicles : List Vehicle) (i last : ℕ) : Type 0 where
  pub each : (k : ℕ) → k < i → IsVehicleAt nodes vehicles k
  pub rising : (k : ℕ) → k < i → RisesTo vehicles k
  pub before : (k : ℕ) → suc k ≡ i → (v : Vehicle) → slice_get vehicles k ≡ Some v → v.no.0 ≡ last
