use Rattle.std.specs.Prelude.{◌≡◌, ℕ, ◌++◌, List, [], ◌∷◌, Option, Some, None, Result, Ok, Err, codes}
use Rattle.ride_base.specs.Calls.{Call, Took, TookPrefix, TookNothing}
use Rattle.ride_base.specs.Outside.{Takes, TakesPrefix}
use Rattle.road_graph.specs.declared.road.NodeNo.{NodeNo}
use Rattle.road_graph.specs.Paths.{Path, length_of}
use Rattle.road_graph.specs.Roads.{Roads}
use Rattle.road_graph.specs.Walks.{IsLeastWalk, NoWalk}
use Rattle.journal_text.specs.Groups.{numbers_line, walk_lines}
use Rattle.dispatch_top.specs.declared.status.Status.{Status}
use Rattle.dispatch_top.specs.declared.status.Status.TheVariants.{Done, NotYet, Usage, GraphText, FleetText, StreamText, ReadFault, WriteFault, NoMemory}
use Rattle.dispatch_top.specs.declared.stops.OutputStop.{OutputStop}
use Rattle.dispatch_top.specs.declared.stops.OutputStop.TheVariants as output
use Rattle.dispatch_top.specs.Reading.{Read}

-- what a search for a least walk found; none exactly where there is no walk, as from or to a node that the graph hasn't
abbrev pub IsFound : Roads → (from to : NodeNo) → Option Path → Type 0
IsFound g from to None = NoWalk g from to
IsFound g from to (Some walk) = IsLeastWalk g from to walk

-- the length of a walk and the walk as leg 0, or `none`
abbrev pub walk_text : Option Path → List ℕ
walk_text None = codes "none" ++ 10 ∷ []
walk_text (Some walk) = numbers_line 100 (length_of walk ∷ []) ++ walk_lines 0 walk.nodes

-- so much was taken of the text of what was found
abbrev pub PrintsWalk : Roads → (from to : NodeNo) → (List ℕ → Type 0) → Type 0
PrintsWalk g from to Taken = (found : Option Path) × IsFound g from to found × Taken (walk_text found)

-- how the text of a walk is written
abbrev pub WritesWalk : Roads → (from to : NodeNo) → Result (Unit {0}) OutputStop → (old new : Option (List ℕ)) → Type 0
WritesWalk g from to (Ok done) old new = PrintsWalk g from to (Takes old new)
WritesWalk g from to (Err output.WriteFault) old new = PrintsWalk g from to (TakesPrefix old new)
WritesWalk g from to (Err output.NoMemory) old new = new ≡ old

abbrev pub EndsWalk : (from to : ℕ) → Read → Status → Call → Type 0
EndsWalk from to read Done c = PrintsWalk read.roads (record { 0 = from }) (record { 0 = to }) (Took c)
EndsWalk from to read WriteFault c = PrintsWalk read.roads (record { 0 = from }) (record { 0 = to }) (TookPrefix c)
EndsWalk from to read NoMemory c = TookNothing c
EndsWalk from to read NotYet c = ⊥
EndsWalk from to read Usage c = ⊥
EndsWalk from to read (GraphText line) c = ⊥
EndsWalk from to read (FleetText row) c = ⊥
EndsWalk from to read (StreamText line) c = ⊥
EndsWalk from to read ReadFault c = ⊥
