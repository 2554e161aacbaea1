use Rattle.std.specs.Prelude.{ℕ, zero, suc, ◌==◌, Bool, false, [], ◌∷◌, Option, Some, None, is_some, refl}
use mathlib.Core.Path.{ap}
use mathlib.Core.Bool.{true≢false, false≢true}
use Rattle.ride_base.specs.declared.numbers.VehicleNo.{VehicleNo}
use Rattle.stop_advance.specs.declared.served.Served.{Served}
use Rattle.insertion_cost.specs.declared.decision.Decision.TheVariants.{Assigned as IsAssigned, Nobody}
use Rattle.board_core.specs.declared.entry.Advanced.TheVariants.{Moved}
use Rattle.board_core.specs.declared.entry.Cancelled.TheVariants.{Removed}
use Rattle.board_core.specs.declared.entry.Submitted.TheVariants.{Accepted}
use Rattle.board_core.specs.declared.entry.Entry.{Entry}
use Rattle.board_core.specs.declared.entry.Entry.TheVariants.{Submit, Commit, Advance, Cancel}
use Rattle.board_core.specs.NamedVehicles.{Names, IsNamedIn}
use Rattle.board_core.specs.Samples.{idle, other, one, two, taken, got_on}

-- Vehicle 1 stands in place 0, and vehicle 2 in place 1. The first request is given to vehicle 2, which picks it up; then its riders are
-- taken out of its list.

abbrev given : Entry
given = Commit one.no (IsAssigned taken)

abbrev moved : Entry
moved = Advance 60 (Moved ((other.no, got_on) ∷ []))

abbrev freed : Entry
freed = Cancel one.no (Removed (record { no = other.no; pickup = 1; dropoff = 2; walks = [] }))

given_second : Names given 1 other.no
given_second = refl

given_no_first : Names given 0 idle.no → ⊥
given_no_first e = true≢false (ap (λ (n : ℕ). n == 1) e)

moved_second : Names moved 1 other.no
moved_second = (0, got_on, refl)

abbrev is_second : Option (VehicleNo × Served) → Bool
is_second None = false
is_second (Some s) = s.0.0 == 2

moved_no_first : Names moved 0 idle.no → ⊥
moved_no_first (zero, s, e) = true≢false (ap is_second e)
moved_no_first (suc k, s, e) = false≢true (ap (λ (o : Option (VehicleNo × Served)). is_some o) e)

freed_second : Names freed 1 other.no
freed_second = refl

freed_no_first : Names freed 0 idle.no → ⊥
freed_no_first e = true≢false (ap (λ (n : VehicleNo). n.0 == 2) e)

-- who gets nobody names none
none_named : Names (Commit two.no Nobody) 1 other.no → ⊥
none_named e = e

named_later : IsNamedIn (Submit one Accepted ∷ Commit two.no Nobody ∷ given ∷ []) 1 other.no
named_later = (2, given, refl, refl)
