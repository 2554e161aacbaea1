use Rattle.std.specs.Prelude.{ℕ, ◌+◌, ◌<◌, ◌≤◌, ◌==◌, cond, length}
use Rattle.stop_schedule.specs.declared.stop.Insertion.{Insertion}
use Rattle.stop_removal.specs.declared.removal.Removal.{Removal}
use Rattle.insertion_cost.specs.declared.decision.Assigned.{Assigned}
use Rattle.insertion_cost.specs.declared.decision.Decision.TheVariants.{Assigned as IsAssigned, Nobody}
use Rattle.board_core.specs.declared.entry.Cancelled.TheVariants.{Removed, Refused as Declined}
use Rattle.board_core.specs.declared.entry.Entry.{Entry}
use Rattle.board_core.specs.declared.entry.Entry.TheVariants.{Submit, Claim, Back, Commit, Advance, Cancel, Shut}

-- how many legs an insertion changes at most, which it does where a stop follows the dropoff, and else one fewer
abbrev pub most_changed : Insertion → ℕ
most_changed at = cond (at.i == at.j) 3 4

-- the pickup comes no later than the dropoff, and there are as many walks as changed legs
pub record IsPrintableOffer (a : Assigned) : Type 0 where
  pub order : a.offer.at.i ≤ a.offer.at.j
  pub enough : most_changed a.offer.at ≤ length a.walks + 1
  pub few : length a.walks ≤ most_changed a.offer.at

-- how many legs a removal joins at most
abbrev pub most_joined : (a b : ℕ) → ℕ
most_joined a b = cond (b == a + 1) 1 2

-- the positions are counted from 1, the pickup comes before the dropoff, and there are as many walks as joined legs
pub record IsPrintableRemoval (x : Removal) : Type 0 where
  pub from_first : 1 ≤ x.pickup
  pub order : x.pickup < x.dropoff
  pub enough : most_joined x.pickup x.dropoff ≤ length x.walks + 1
  pub few : length x.walks ≤ most_joined x.pickup x.dropoff

-- an entry that can be printed, as each lawful one can
abbrev pub IsPrintable : Entry → Type 0
IsPrintable (Submit r submitted) = Unit {0}
IsPrintable (Claim number desk) = Unit {0}
IsPrintable (Back number) = Unit {0}
IsPrintable (Commit number (IsAssigned a)) = IsPrintableOffer a
IsPrintable (Commit number Nobody) = Unit {0}
IsPrintable (Advance now advanced) = Unit {0}
IsPrintable (Cancel number (Removed x)) = IsPrintableRemoval x
IsPrintable (Cancel number (Declined reason)) = Unit {0}
IsPrintable Shut = Unit {0}
