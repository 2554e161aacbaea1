use Rattle.std.specs.Prelude.{◌≡◌, ℕ, suc, ◌<◌, List, length, Some, slice_get, All, Contains}
use Rattle.std.specs.List.Sorted.{IsStrictlyIncreasing}
use Rattle.stop_schedule.specs.Fleets.{Car, Cars}
use Rattle.board_core.specs.declared.entry.Entry.{Entry}
use Rattle.board_core.specs.NamedVehicles.{IsNamedIn}
use Rattle.board_core.specs.NotedHistories.{entries_in}

-- Places of vehicles, as they are gathered from entries.

-- the numbers of a fleet's vehicles rise with their places
abbrev pub HasRisingNumbers : Cars → Type 0
HasRisingNumbers fleet = (k : ℕ) (car next : Car) → slice_get fleet.cars k ≡ Some car
    → slice_get fleet.cars (suc k) ≡ Some next → car.no.0 < next.no.0

-- each is the place of a vehicle
abbrev pub ArePlaces : Cars → List ℕ → Type 0
ArePlaces fleet places = All (λ (p : ℕ). p < length fleet.cars) places

-- The former places stay, and those of all vehicles of a kind are there; all are places of vehicles where the former ones were.
pub record Gathers (fleet : Cars) (IsSought : ℕ → Car → Type 0) (old new : List ℕ) : Type 0 where
  pub within : ArePlaces fleet old → ArePlaces fleet new
  pub kept : (p : ℕ) → Contains old p → Contains new p
  pub added : (p : ℕ) (car : Car) → slice_get fleet.cars p ≡ Some car → IsSought p car
      → Contains new p

-- The places rise, each is that of a vehicle, and those of all vehicles that one of the entries names are among them.
pub record HoldNamed (fleet : Cars) (noted : List (ℕ × Entry)) (places : List ℕ) : Type 0 where
  pub rising : IsStrictlyIncreasing places
  pub within : ArePlaces fleet places
  pub every : (p : ℕ) (car : Car) → slice_get fleet.cars p ≡ Some car
      → IsNamedIn (entries_in noted) p car.no → Contains places p
