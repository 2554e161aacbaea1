use Rattle.std.specs.Prelude.{◌≡◌, ℕ, ◌+◌, ◌++◌, List, [], ◌∷◌, length, Option, Result, Ok, Err, codes}
use Rattle.ride_base.specs.Calls.{Call, Took, TookPrefix, TookNothing}
use Rattle.ride_base.specs.Outside.{Takes, TakesPrefix}
use Rattle.road_graph.specs.Roads.{Roads}
use Rattle.stop_schedule.specs.declared.vehicle.Vehicle.{Vehicle}
use Rattle.stop_schedule.specs.Rates.{Rates, usual}
use Rattle.input_tables.specs.declared.lines.StreamLine.{StreamLine}
use Rattle.city_gen.specs.declared.cities.City.{City}
use Rattle.city_gen.specs.Cities.{city_of}
use Rattle.upward_search.specs.Hierarchies.{Ranking, Fits}
use Rattle.board_core.specs.Histories.{Event}
use Rattle.dispatch_top.specs.declared.gen_mode.Summary.{Summary}
use Rattle.dispatch_top.specs.declared.status.Status.{Status}
use Rattle.dispatch_top.specs.declared.status.Status.TheVariants.{Done, NotYet, Usage, GraphText, FleetText, StreamText, ReadFault, WriteFault, NoMemory}
use Rattle.dispatch_top.specs.declared.stops.OutputStop.{OutputStop}
use Rattle.dispatch_top.specs.declared.stops.OutputStop.TheVariants as output
use Rattle.dispatch_top.specs.declared.sums.Sums.{Sums}
use Rattle.dispatch_top.specs.Histories.{IsHistoryOf}
use Rattle.dispatch_top.specs.Streams.{events_said}
use Rattle.dispatch_top.specs.Sums.{sums_of, sum_line, sums_text}

-- What is printed of a made city: how large it is, what its rides came to, and how many arcs a hierarchy of its roads has.

abbrev pub roads_of : City → Roads
roads_of city = record { nodes = city.nodes; roads = city.roads }

-- the events of lines, in their order
abbrev pub lines_asked : List StreamLine → List Event
lines_asked [] = []
lines_asked (said ∷ lines) = events_said said ++ lines_asked lines

-- They are the sums of a legal history that keeps each promise, in which these events came in order and each request that was accepted
-- was answered at once: of a history that a run over a stream of these events may print.
pub record AreSumsOf (roads : Roads) (rates : Rates) (vehicles : List Vehicle) (events : List Event) (sums : Sums) : Type 0 where
  pub printed : List ℕ
  pub account : IsHistoryOf roads rates vehicles events printed
  pub counts : sums ≡ sums_of account.history

-- some hierarchy that fits the graph has so many arcs, climbing and falling
abbrev pub HasArcs : Roads → ℕ → Type 0
HasArcs roads arcs = (h : Ranking) × Fits roads h × (arcs ≡ length h.climbing + length h.falling)

-- what came of a city, whose lines are answered by the usual rates
pub record IsSummary (number : ℕ) (made : City) (summary : Summary) : Type 0 where
  pub city : summary.city ≡ number
  pub nodes : summary.nodes ≡ made.nodes
  pub roads : summary.roads ≡ length made.roads
  pub vehicles : summary.vehicles ≡ length made.fleet
  pub sums : AreSumsOf (roads_of made) usual made.fleet (lines_asked made.lines) summary.sums
  pub shortcuts : HasArcs (roads_of made) summary.shortcuts

abbrev pub summary_text : Summary → List ℕ
summary_text s = sum_line (codes "city") s.city ++ sum_line (codes "nodes") s.nodes ++ sum_line (codes "roads") s.roads ++ sum_line (codes "vehicles") s.vehicles
    ++ sums_text s.sums ++ sum_line (codes "shortcuts") s.shortcuts

-- so much was taken of the text of what came of the city of a number
abbrev pub PrintsSummary : (number : ℕ) → (List ℕ → Type 0) → Type 0
PrintsSummary number Taken = (summary : Summary) × IsSummary number (city_of number) summary × Taken (summary_text summary)

-- how that text is written
abbrev pub WritesSummary : (number : ℕ) → Result (Unit {0}) OutputStop → (old new : Option (List ℕ)) → Type 0
WritesSummary number (Ok done) old new = PrintsSummary number (Takes old new)
WritesSummary number (Err output.WriteFault) old new = PrintsSummary number (TakesPrefix old new)
WritesSummary number (Err output.NoMemory) old new = new ≡ old

abbrev pub EndsGen : (number : ℕ) → Status → Call → Type 0
EndsGen number Done c = PrintsSummary number (Took c)
EndsGen number WriteFault c = PrintsSummary number (TookPrefix c)
EndsGen number NoMemory c = TookNothing c
EndsGen number NotYet c = ⊥
EndsGen number Usage c = ⊥
EndsGen number (GraphText line) c = ⊥
EndsGen number (FleetText row) c = ⊥
EndsGen number (StreamText line) c = ⊥
EndsGen number ReadFault c = ⊥
