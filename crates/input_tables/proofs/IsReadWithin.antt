use Rattle.std.proofs.Common.{◌≡◌, ℕ, ◌≤◌, List, [], length, Option, Some, None, Result, Ok, Err, refl, sym, ap, arith, append-nil}
use Rattle.ride_base.specs.Reading.{TellsWhole}
use Rattle.ride_base.specs.Told.{WhereTold}
use Rattle.ride_base.specs.declared.lines.LineFault.{LineFault}
use Rattle.ride_base.specs.declared.lines.LineFault.TheVariants as line
use Rattle.input_tables.specs.declared.faults.FleetFault.{FleetFault}
use Rattle.input_tables.specs.declared.faults.FleetFault.TheVariants.{NoMemory}
use Rattle.input_tables.specs.Fleets.{largest_fleet_text}
use Rattle.input_tables.specs.Refusals.{IsReadWithin, fault_of_text}

-- a text that was read whole
pub within_whole : (old new : Option (List ℕ)) (bytes : List ℕ) → TellsWhole old largest_fleet_text (Ok bytes) new → length bytes ≤ largest_fleet_text → WhereTold old (λ text. IsReadWithin text new)
within_whole None new bytes tells short = tt
within_whole (Some text) new bytes tells short =
    let size : length bytes ≡ length text = ap length tells.0 in (text, [], tells.1, sym (append-nil text), omega (arith, size, short))

-- a text that memory was wanted for
pub within_lost : {X : Type 0} (old new : Option (List ℕ)) (fault : LineFault) (told : FleetFault) → told ≡ fault_of_text fault → ◌≡◌ {A = Result X FleetFault} (Err told) (Err NoMemory)
    → TellsWhole old largest_fleet_text (Err fault) new → WhereTold old (λ text. IsReadWithin text new)
within_lost None new fault told is memory tells = tt
within_lost (Some text) new line.Fault told is memory tells = cc
within_lost (Some text) new line.Large told is memory tells = cc
within_lost (Some text) new line.Long told is memory tells = absurd tells
within_lost (Some text) None line.NoMemory told is memory tells = absurd tells
within_lost (Some text) (Some after) line.NoMemory told is memory tells = (tells.0, after, refl, tells.2, tells.1)
