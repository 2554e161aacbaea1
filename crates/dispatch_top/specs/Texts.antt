use Rattle.std.specs.Prelude.{◌≡◌, ◌⊎◌, ℕ, true, List, [], ◌∷◌, ◌++◌, Option, Result, Ok, Err}
use Rattle.command_words.specs.Commands.{Word}
use Rattle.ride_base.specs.Calls.{Says, call_of}
use Rattle.ride_base.specs.Outside.{AddsName, ShelfState, SinkState}
use Rattle.road_graph.specs.Graphs.{IsGraph}
use Rattle.road_graph.specs.Roads.{Roads}
use Rattle.dimacs_reader.specs.Graphs.{graph_of}
use Rattle.dimacs_reader.specs.Refusals.{IsUndecided}
use Rattle.stop_schedule.specs.declared.vehicle.Vehicle.{Vehicle}
use Rattle.stop_schedule.specs.Bounds.{AreVehicles}
use Rattle.input_tables.specs.Fleets.{fleet_of}
use Rattle.input_tables.specs.Refusals.{IsReadWithin}
use Rattle.dispatch_top.specs.declared.status.Status.TheVariants as status
use Rattle.dispatch_top.specs.declared.stops.ReadingStop.{ReadingStop}
use Rattle.dispatch_top.specs.declared.stops.TextStop.{TextStop}
use Rattle.dispatch_top.specs.declared.stops.TextStop.TheVariants.{Refused, ReadFault, NoMemory}
use Rattle.dispatch_top.specs.Forms.{GraphText, FleetText}
use Rattle.dispatch_top.specs.Reading.{AreRead, EndsReading, IsBadAt, IsBadAtRow}
use Rattle.dispatch_top.specs.Stops.{status_of_reading}

-- What the reading of texts says, where `old` and `new` are the shelf before and after it.

abbrev pub IsGraphOf : ShelfState → (name : Word) → Roads → Type 0
IsGraphOf shelf name roads = IsGraph roads × Says shelf name (λ text. graph_of text ≡ Ok roads)

abbrev pub IsFleetOf : ShelfState → (name : Word) → (nodes : ℕ) → List Vehicle → Type 0
IsFleetOf shelf name nodes vehicles = AreVehicles nodes vehicles × Says shelf name (λ text. fleet_of nodes text ≡ Ok vehicles)

-- The text of a name wasn't read, where `IsBad` tells at which place it is refused, and `IsOpen` that what was read of it doesn't show
-- that it is bad.
abbrev pub StopsText : (IsBad : ℕ → List ℕ → Type 0) → (IsOpen : Option (List ℕ) → List ℕ → Type 0) → (name : Word) → (old new : ShelfState) → TextStop → Type 0
StopsText IsBad IsOpen name old new (Refused place) = AddsName old name new × Says old name (IsBad place)
StopsText IsBad IsOpen name old new ReadFault = AddsName old name new × (new.begun ≡ true → Says old name (IsOpen new.left))
StopsText IsBad IsOpen name old new NoMemory = AddsName old name new ⊎ (new.names ≡ old.names)

abbrev pub StopsGraph : (name : Word) → (old new : ShelfState) → TextStop → Type 0
StopsGraph name old new stop = StopsText (λ line text. IsBadAt (graph_of text) line) (λ left text. IsUndecided (graph_of text) text left) name old new stop

abbrev pub StopsFleet : (nodes : ℕ) → (name : Word) → (old new : ShelfState) → TextStop → Type 0
StopsFleet nodes name old new stop = StopsText (λ row text. IsBadAtRow (fleet_of nodes text) row) (λ left text. IsReadWithin text left) name old new stop

-- the texts of a graph and of a fleet were read, and both names begun
pub record AreTexts (graph fleet : Word) (old new : ShelfState) (roads : Roads) (vehicles : List Vehicle) : Type 0 where
  pub are_read : AreRead (Says old) (record { roads = roads; vehicles = vehicles }) (GraphText graph ∷ FleetText fleet ∷ [])
  pub began : new.names ≡ old.names ++ graph ∷ fleet ∷ []

-- one of them wasn't, whatever is read behind them, and whatever was taken before
abbrev pub StopsTexts : (graph fleet : Word) → (old new : ShelfState) → ReadingStop → Type 0
StopsTexts graph fleet old new stop =
    (more : List Word) (sink : SinkState) → EndsReading (graph ∷ fleet ∷ more) (GraphText graph ∷ FleetText fleet ∷ []) (status_of_reading stop) (call_of old sink new sink)

-- one of them wasn't, by a fault of the shelf
abbrev pub FailsTexts : {T : Type 0} → Result T ReadingStop → Type 0
FailsTexts (Ok texts) = ⊥
FailsTexts (Err stop) = status_of_reading stop ≡ status.ReadFault
