use Rattle.std.specs.Prelude.{◌≡◌, ℕ, ◌<◌, List, Some, slice_get}
use Rattle.ride_base.specs.declared.numbers.VehicleNo.{VehicleNo}
use Rattle.road_graph.specs.Roads.{Roads}
use Rattle.stop_schedule.specs.Fleets.{Car, IsGoodFleet}
use Rattle.stop_advance.specs.declared.served.Served.{Served}
use Rattle.insertion_cost.specs.declared.decision.Decision.TheVariants.{Assigned as IsAssigned, Nobody}
use Rattle.board_core.specs.declared.entry.Advanced.TheVariants.{Moved, Back as Behind}
use Rattle.board_core.specs.declared.entry.Cancelled.TheVariants.{Removed, Refused as Declined}
use Rattle.board_core.specs.declared.entry.Entry.{Entry}
use Rattle.board_core.specs.declared.entry.Entry.TheVariants.{Submit, Claim, Back, Commit, Advance, Cancel, Shut}
use Rattle.board_core.specs.Boards.{Board}
use Rattle.board_core.specs.Histories.{Legal}

-- What entries say of which vehicles' schedules they changed.

-- The entry names the vehicle of a place and a number: it was assigned, riders were taken out of its list, or it reached a stop.
abbrev pub Names : Entry → (place : ℕ) → VehicleNo → Type 0
Names (Submit r submitted) place number = ⊥
Names (Claim n desk) place number = ⊥
Names (Back n) place number = ⊥
Names (Commit n (IsAssigned a)) place number = a.offer.place ≡ place
Names (Commit n Nobody) place number = ⊥
Names (Advance now (Moved served)) place number =
    (k : ℕ) × (s : Served) × (slice_get served k ≡ Some (number, s))
Names (Advance now (Behind clock)) place number = ⊥
Names (Cancel n (Removed x)) place number = x.no ≡ number
Names (Cancel n (Declined reason)) place number = ⊥
Names Shut place number = ⊥

-- one of the entries does
abbrev pub IsNamedIn : List Entry → (place : ℕ) → VehicleNo → Type 0
IsNamedIn history place number =
    (k : ℕ) × (e : Entry) × (slice_get history k ≡ Some e) × Names e place number

-- A vehicle whose schedule changed after a board of a legal history, as its stamp tells, is named by one of the entries since then; from
-- any good fleet on.
abbrev pub ChangedVehiclesAreNamed : Type 0
ChangedVehiclesAreNamed = (g : Roads) (first : Board) (before : List Entry) (middle : Board)
    (after : List Entry) (last : Board) (place : ℕ) (car : Car) → IsGoodFleet g first.fleet
    → Legal g first before middle → Legal g middle after last
    → slice_get last.fleet.cars place ≡ Some car → middle.fleet.version < car.stamp
    → IsNamedIn after place car.no
