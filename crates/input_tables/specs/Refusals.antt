use Rattle.std.specs.Prelude.{◌≡◌, ℕ, ◌≤◌, ◌++◌, List, length, Option, Some, Result, Ok, Err}
use Rattle.ride_base.specs.declared.lines.LineFault.{LineFault}
use Rattle.ride_base.specs.declared.lines.LineFault.TheVariants as line
use Rattle.stop_schedule.specs.declared.vehicle.Vehicle.{Vehicle}
use Rattle.input_tables.specs.declared.faults.FleetFault.{FleetFault}
use Rattle.input_tables.specs.declared.faults.FleetFault.TheVariants.{Fault, Large, Header, Form, Range, Double, NoMemory}
use Rattle.input_tables.specs.Fleets.{largest_fleet_text, fleet_in, fleet_of}

-- a fault by which the text itself is refused
abbrev pub IsFleetRefusal : FleetFault → Type 0
IsFleetRefusal Fault = ⊥
IsFleetRefusal Large = Unit {0}
IsFleetRefusal Header = Unit {0}
IsFleetRefusal (Form row) = Unit {0}
IsFleetRefusal (Range row) = Unit {0}
IsFleetRefusal (Double row) = Unit {0}
IsFleetRefusal NoMemory = ⊥

-- where the shelf failed or memory was wanted, no byte past the limit was read of the text
abbrev pub IsReadWithin : (text : List ℕ) (left : Option (List ℕ)) → Type 0
IsReadWithin text left = (read rest : List ℕ) × (left ≡ Some rest) × (text ≡ read ++ rest) × (length read ≤ largest_fleet_text)

-- the text is a table of these vehicles, and it is refused by this fault
abbrev pub HasFleet : (nodes : ℕ) → List Vehicle → List ℕ → Type 0
HasFleet nodes vehicles text = fleet_of nodes text ≡ Ok vehicles

abbrev pub IsRefusedFor : (nodes : ℕ) → FleetFault → List ℕ → Type 0
IsRefusedFor nodes fault text = fleet_of nodes text ≡ Err fault

-- a fault that refuses the text is what the definition answers
abbrev pub RefusesFleet : {X : Type 0} → Result X FleetFault → FleetFault → Type 0
RefusesFleet answer fault = IsFleetRefusal fault → answer ≡ Err fault

-- the same for the records of a table over any number of nodes
abbrev pub RefusesRecords : List (List (List ℕ)) → FleetFault → Type 0
RefusesRecords records fault = IsFleetRefusal fault → (nodes : ℕ) → fleet_in nodes records ≡ Err fault

-- What the table's fault is where its text can't be read. A text that is read whole has no long line.
abbrev pub fault_of_text : LineFault → FleetFault
fault_of_text line.Fault = Fault
fault_of_text line.Long = NoMemory
fault_of_text line.Large = Large
fault_of_text line.NoMemory = NoMemory
