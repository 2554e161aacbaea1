use Rattle.std.specs.Prelude.{◌≡◌, ℕ, ◌+◌, ◌++◌, ◌⊎◌, true, List, [], ◌∷◌, length, Option, Result, Ok, Err}
use Rattle.ride_base.specs.Calls.{Call, Saying, Says, Began, TookNothing}
use Rattle.road_graph.specs.Graphs.{IsGraph}
use Rattle.road_graph.specs.Roads.{Roads}
use Rattle.dimacs_reader.specs.declared.faults.GraphFault.{GraphFault}
use Rattle.dimacs_reader.specs.Graphs.{graph_of}
use Rattle.dimacs_reader.specs.Refusals.{IsGraphRefusal, IsUndecided, refused_line}
use Rattle.stop_schedule.specs.declared.vehicle.Vehicle.{Vehicle}
use Rattle.stop_schedule.specs.Bounds.{AreVehicles}
use Rattle.input_tables.specs.declared.faults.FleetFault.{FleetFault}
use Rattle.input_tables.specs.declared.faults.FleetFault.TheVariants.{Fault, Large, Header, Form, Range, Double, NoMemory as FleetNoMemory}
use Rattle.input_tables.specs.Fleets.{fleet_of}
use Rattle.input_tables.specs.Refusals.{IsReadWithin, IsFleetRefusal}
use Rattle.dispatch_top.specs.declared.status.Status.{Status}
use Rattle.dispatch_top.specs.declared.status.Status.TheVariants as status
use Rattle.dispatch_top.specs.Forms.{Stage, GraphText, FleetText}

-- The texts that are read whole, in their order, whatever is answered behind them: what they say, and how a run ends at one of them.

-- what was read; where a form has no fleet, any
pub record Read : Type 0 where
  pub roads : Roads
  pub vehicles : List Vehicle

-- what one text says
abbrev pub IsReadAs : Saying → Read → Stage → Type 0
IsReadAs Of read (GraphText name) = IsGraph read.roads × Of name (λ text. graph_of text ≡ Ok read.roads)
IsReadAs Of read (FleetText name) = AreVehicles read.roads.nodes read.vehicles × Of name (λ text. fleet_of read.roads.nodes text ≡ Ok read.vehicles)

abbrev pub AreRead : Saying → Read → List Stage → Type 0
AreRead Of read [] = Unit {0}
AreRead Of read (stage ∷ stages) = IsReadAs Of read stage × AreRead Of read stages

abbrev pub row_of : FleetFault → ℕ
row_of Fault = 0
row_of Large = 0
row_of Header = 0
row_of (Form row) = row
row_of (Range row) = row
row_of (Double row) = row
row_of FleetNoMemory = 0

-- the first bad line of a graph by what its text says, and the first bad row of a fleet
abbrev pub IsBadAt : Result Roads GraphFault → (line : ℕ) → Type 0
IsBadAt said line = (fault : GraphFault) × (said ≡ Err fault) × IsGraphRefusal fault × (refused_line fault ≡ line)

abbrev pub IsBadAtRow : Result (List Vehicle) FleetFault → (row : ℕ) → Type 0
IsBadAtRow said row = (fault : FleetFault) × (said ≡ Err fault) × IsFleetRefusal fault × (row_of fault ≡ row)

-- the text is refused, and the status tells where
abbrev pub IsRefusedAs : Saying → Read → Stage → Status → Type 0
IsRefusedAs Of read (GraphText name) (status.GraphText line) = Of name (λ text. IsBadAt (graph_of text) line)
IsRefusedAs Of read (FleetText name) (status.FleetText row) = Of name (λ text. IsBadAtRow (fleet_of read.roads.nodes text) row)
IsRefusedAs Of read stage status = ⊥

-- what was read of the text doesn't show that it is bad
abbrev pub IsOpen : Saying → Read → Stage → (left : Option (List ℕ)) → Type 0
IsOpen Of read (GraphText name) left = Of name (λ text. IsUndecided (graph_of text) text left)
IsOpen Of read (FleetText name) left = Of name (λ text. IsReadWithin text left)

-- The texts before one stage were read, so many names were begun, and nothing was taken.
pub record StopsAt (names : List (List ℕ)) (stages : List Stage) (read : Read) (stage : Stage) (begun : ℕ → ℕ) (c : Call) : Type 0 where
  pub before : List Stage
  pub after : List Stage
  pub stands : stages ≡ before ++ stage ∷ after
  pub are_read : AreRead (Says c.old.shelf) read before
  pub began : Began names (begun (length before)) c
  pub took : TookNothing c

-- the stage's own name is the last one that was begun, or it isn't begun yet
abbrev pub with_its_name : ℕ → ℕ
with_its_name before = before + 1

abbrev pub without_its_name : ℕ → ℕ
without_its_name before = before

abbrev pub Refuses : List (List ℕ) → List Stage → Status → Call → Type 0
Refuses names stages status c = (read : Read) × (stage : Stage) × StopsAt names stages read stage with_its_name c × IsRefusedAs (Says c.old.shelf) read stage status

abbrev pub FailsReading : List (List ℕ) → List Stage → Call → Type 0
FailsReading names stages c = (read : Read) × (stage : Stage) × StopsAt names stages read stage with_its_name c
    × (c.new.shelf.begun ≡ true → IsOpen (Says c.old.shelf) read stage c.new.shelf.left)

-- memory was wanted for one of the texts, or for its name
abbrev pub LacksMemory : List (List ℕ) → List Stage → Call → Type 0
LacksMemory names stages c = (read : Read) × (stage : Stage) × (StopsAt names stages read stage with_its_name c ⊎ StopsAt names stages read stage without_its_name c)

-- how a run ends while these texts are read
abbrev pub EndsReading : List (List ℕ) → List Stage → Status → Call → Type 0
EndsReading names stages (status.GraphText line) c = Refuses names stages (status.GraphText line) c
EndsReading names stages (status.FleetText row) c = Refuses names stages (status.FleetText row) c
EndsReading names stages status.ReadFault c = FailsReading names stages c
EndsReading names stages status.NoMemory c = LacksMemory names stages c
EndsReading names stages status.Done c = ⊥
EndsReading names stages status.NotYet c = ⊥
EndsReading names stages status.Usage c = ⊥
EndsReading names stages (status.StreamText line) c = ⊥
EndsReading names stages status.WriteFault c = ⊥
