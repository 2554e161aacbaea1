use Rattle.std.specs.Prelude.{◌≡◌, ℕ, ℤ, ◌+◌, ◌<◌, ◌^◌, Bool, true, false, cond, List, [], ◌++◌, length, get_or, Option, Result, Ok, Err, IfErr}
use Rattle.std.specs.Option.{option_map, option_to_list}
use Rattle.ride_base.specs.Fields.{capped}
use Rattle.ride_base.specs.Outside.{ShelfState}
use Rattle.ride_base.specs.Pieces.{largest_text}
use Rattle.ride_base.specs.Prefixes.{IsReadNear}
use Rattle.ride_base.specs.Reader.{Reader}
use Rattle.ride_base.specs.Told.{WhereTold, ahead}
use Rattle.ride_base.specs.declared.lines.Line.{Line}
use Rattle.road_graph.specs.declared.road.Road.{Road}
use Rattle.road_graph.specs.Roads.{Roads}
use Rattle.dimacs_reader.specs.declared.faults.GraphFault.{GraphFault}
use Rattle.dimacs_reader.specs.declared.forms.Coordinate.{Coordinate as ReadCoordinate}
use Rattle.dimacs_reader.specs.declared.graphs.SaidCounts.{SaidCounts}
use Rattle.dimacs_reader.specs.declared.places.Coordinates.{Coordinates}
use Rattle.dimacs_reader.specs.declared.places.Placing.{Placing}
use Rattle.dimacs_reader.specs.Forms.{graph_line, place_line}
use Rattle.dimacs_reader.specs.Graphs.{graph_of, first_line, arc_line, road_and, onto, over_nodes}
use Rattle.dimacs_reader.specs.Places.{Placed, AreCoordinates, places_of, opening_line, later_line, place_and}
use Rattle.dimacs_reader.specs.Reading.{GivesLine, IsPlaceTable, by_answer, by_value, graph_ahead, roads_ahead, places_ahead, placed_ahead, placed_by, placed_and, read_coordinate}
use Rattle.dimacs_reader.specs.Refusals.{IsGraphRefusal, IsUndecided, IsReadFrom, IsReadBehind, IsUnfinished, StandsBehind, refused_line}

-- What the calls promise. `old` and `shelf` are the reader and what is seen of the shelf before a call, `new` and `shelf'` after it.

-- Calls on the text that is begun.

-- the graph is what the text says, where it is told
abbrev pub IsGraphSaid : Option (List ℕ) → Roads → Type 0
IsGraphSaid text g = WhereTold text (λ told. graph_of told ≡ Ok g)

-- the coordinates are those that the text says of so many nodes, where it is told
abbrev pub ArePlacesOf : (nodes : ℕ) → Option (List ℕ) → List (ℤ × ℤ) → Type 0
ArePlacesOf nodes text coordinates = WhereTold text (λ told. (placed : List Placed) × (places_of nodes told ≡ Ok placed) × AreCoordinates nodes placed coordinates)

-- a refusal is what the text says, where it is told
abbrev pub RefusesText : {X Y : Type 0} → (says : List ℕ → Result Y GraphFault) → Option (List ℕ) → Result X GraphFault → Type 0
RefusesText says text answer = IfErr answer (λ e. IsGraphRefusal e → WhereTold text (λ told. says told ≡ Err e))

-- what was read doesn't say by which line the text is refused
abbrev pub LeavesUndecided : {X : Type 0} → (says : List ℕ → Result X GraphFault) → ShelfState → ShelfState → Type 0
LeavesUndecided says shelf shelf' = WhereTold shelf.left (λ text. IsUndecided (says text) text shelf'.left)

-- where the text is refused, at most one read past the line that refuses it was read
abbrev pub RefusesTextNear : {X : Type 0} → ShelfState → Result X GraphFault → ShelfState → Type 0
RefusesTextNear shelf answer shelf' = IfErr answer (λ e. IsGraphRefusal e → WhereTold shelf.left (λ text. IsReadNear (refused_line e) largest_text text shelf'.left))

-- memory was wanted, and no line that was given refuses the text
abbrev pub LeavesUnfinished : {X : Type 0} → (says : List ℕ → Result X GraphFault) → ShelfState → ShelfState → Type 0
LeavesUnfinished says shelf shelf' = WhereTold shelf.left (λ text. IsUnfinished (says text) text shelf'.left)

-- Calls on a reader. What they say is about what is ahead of it.

-- the answer is what is said, where that is told
abbrev pub IsSaid : {X : Type 0} → Option (Result X GraphFault) → X → Type 0
IsSaid said x = WhereTold said (λ answer. answer ≡ Ok x)

-- a refusal is what is said, where that is told
abbrev pub RefusesSaid : {X Y : Type 0} → Option (Result Y GraphFault) → Result X GraphFault → Type 0
RefusesSaid said answer = IfErr answer (λ e. IsGraphRefusal e → WhereTold said (λ s. s ≡ Err e))

-- the answer for the next line
abbrev pub GivesNext : Reader → ShelfState → Result Bool GraphFault → Line → Reader → ShelfState → Type 0
GivesNext old shelf answer line new shelf' = GivesLine old.given (ahead old shelf.left) answer line (ahead new shelf'.left)

-- of whichever text the reader gave exactly the lines that it counted, it still did so
abbrev pub StaysReadFrom : Reader → ShelfState → Reader → ShelfState → Type 0
StaysReadFrom old shelf new shelf' = (text : List ℕ) → IsReadFrom text old shelf.left → IsReadFrom text new shelf'.left

-- of whichever text the reader gave exactly the lines that it counted, no other line is ended among what was read
abbrev pub HasReadNoMore : Reader → ShelfState → ShelfState → Type 0
HasReadNoMore old shelf shelf' = (text : List ℕ) → IsReadFrom text old shelf.left → IsReadBehind text shelf'.left old.given

-- of whichever text the reader gave exactly the lines that it counted, at most one read past the next line was read
abbrev pub ReadsNear : Reader → ShelfState → ShelfState → Type 0
ReadsNear old shelf shelf' = (text : List ℕ) → IsReadFrom text old shelf.left → IsReadNear (old.given + 1) largest_text text shelf'.left

-- of whichever text the reader gave exactly the lines that it counted, it stands behind them
abbrev pub StaysBehind : Reader → ShelfState → ShelfState → Type 0
StaysBehind old shelf shelf' = (text : List ℕ) → IsReadFrom text old shelf.left → StandsBehind text shelf'.left old.given

-- a refusal names the line behind those that were given
abbrev pub RefusesNext : {X : Type 0} → Reader → Result X GraphFault → Type 0
RefusesNext old answer = IfErr answer (λ e. IsGraphRefusal e → refused_line e ≡ old.given + 1)

-- of whichever text the reader gave exactly the lines that it counted, at most one read past the line that refuses it was read
abbrev pub RefusesNear : {X : Type 0} → Reader → ShelfState → Result X GraphFault → ShelfState → Type 0
RefusesNear old shelf answer shelf' =
    IfErr answer (λ e. IsGraphRefusal e → (text : List ℕ) → IsReadFrom text old shelf.left → IsReadNear (refused_line e) largest_text text shelf'.left)

-- of whichever text the reader gave exactly the lines that it counted, no line that was given refuses it
abbrev pub StaysUnfinished : {X : Type 0} → (says : Reader → Option (List ℕ) → Option (Result X GraphFault)) → Reader → ShelfState → ShelfState → Type 0
StaysUnfinished says old shelf shelf' =
    (text : List ℕ) → IsReadFrom text old shelf.left → WhereTold (says old shelf.left) (λ said. IsUnfinished said text shelf'.left)

-- of whichever text the reader gave exactly the lines that it counted, what was read doesn't say by which line it is refused
abbrev pub StaysUndecided : {X : Type 0} → (says : Reader → Option (List ℕ) → Option (Result X GraphFault)) → Reader → ShelfState → ShelfState → Type 0
StaysUndecided says old shelf shelf' =
    (text : List ℕ) → IsReadFrom text old shelf.left → WhereTold (says old shelf.left) (λ said. IsUndecided said text shelf'.left)

-- the roads ahead, of which the problem line said so many
abbrev pub said_roads : SaidCounts → Reader → Option (List ℕ) → Option (Result (List Road) GraphFault)
said_roads said reader left = roads_ahead said.nodes said.roads 0 reader left

-- what was ahead as a graph is what is ahead as its roads
abbrev pub IsProblemAhead : Reader → ShelfState → Reader → ShelfState → SaidCounts → Type 0
IsProblemAhead old shelf new shelf' said = graph_ahead old shelf.left ≡ option_map (over_nodes said.nodes) (said_roads said new shelf'.left)

-- what was ahead as places is what is ahead as places behind the header
abbrev pub IsHeaderAhead : (nodes : ℕ) → Reader → ShelfState → Reader → ShelfState → Type 0
IsHeaderAhead nodes old shelf new shelf' = places_ahead nodes old shelf.left ≡ placed_ahead nodes [] new shelf'.left

-- the coordinates are those of the places that are said, where they are told
abbrev pub AreSaidPlaces : (nodes : ℕ) → Option (Result (List Placed) GraphFault) → List (ℤ × ℤ) → Type 0
AreSaidPlaces nodes said coordinates = WhereTold said (λ answer. (placed : List Placed) × (answer ≡ Ok placed) × AreCoordinates nodes placed coordinates)

-- Calls on a line that was read. They say what the line says, whatever the lines behind it say.

-- a line before the problem line
abbrev pub SaysProblem : Line → Result (Option SaidCounts) GraphFault → Type 0
SaysProblem line answer = (skipped : Result Roads GraphFault) (behind : ℕ → ℕ → Result (List Road) GraphFault)
    → first_line line.number (graph_line line.bytes) skipped behind ≡ by_answer answer skipped (λ said. over_nodes said.nodes (behind said.nodes said.roads))

-- a line behind the problem line, where so many roads were found before it
abbrev pub SaysArc : SaidCounts → (found : ℕ) → Line → Result (Option Road) GraphFault → Type 0
SaysArc said found line answer = (skipped another : Result (List Road) GraphFault)
    → arc_line said.nodes said.roads found line.number (graph_line line.bytes) skipped another ≡ by_answer answer skipped (λ road. onto road another)

-- the ends and the weight of a road, on the line of that number
abbrev pub SaysRoad : (nodes line from to weight : ℕ) → Result Road GraphFault → Type 0
SaysRoad nodes line from to weight answer = (another : Result (List Road) GraphFault)
    → road_and nodes line from to weight another ≡ by_value answer (λ road. onto road another)

-- a line before the header
abbrev pub SaysHeader : (nodes : ℕ) → Line → Result Bool GraphFault → Type 0
SaysHeader nodes line answer = (skipped behind : Result (List Placed) GraphFault)
    → opening_line nodes line.number (place_line line.bytes) skipped behind ≡ by_value answer (λ header. cond header behind skipped)

-- the table holds these places, in their order
abbrev pub HoldsPlaces : (nodes : ℕ) → List Placed → Coordinates → Type 0
HoldsPlaces nodes places table = IsPlaceTable nodes places table.held.items table.placed.items table.count

-- a line behind the header, where the table holds the places before it
abbrev pub SaysPlace : (nodes : ℕ) → Coordinates → Line → Result (Option Placing) GraphFault → Type 0
SaysPlace nodes table line answer = (before : List Placed) → HoldsPlaces nodes before table
    → (skipped : Result (List Placed) GraphFault) (another : Placed → Result (List Placed) GraphFault)
    → later_line nodes line.number before (place_line line.bytes) skipped another ≡ by_answer answer skipped (placed_and another)

-- the node and the coordinates of a place as they were read, on the line of that number
abbrev pub SaysPlacing : Coordinates → (line node : ℕ) → (x y : ReadCoordinate) → Result Placing GraphFault → Type 0
SaysPlacing table line node x y answer = (nodes : ℕ) (before : List Placed) → nodes < 2 ^ 32 → HoldsPlaces nodes before table
    → (number : ℕ) (east north : ℤ) → node ≡ capped number → x ≡ read_coordinate east → y ≡ read_coordinate north
    → (another : Placed → Result (List Placed) GraphFault)
    → place_and nodes line before (record { node = number; x = east; y = north }) (another (record { node = number; x = east; y = north })) ≡ by_value answer (placed_and another)

-- the node at that index has no place
abbrev pub IsFreeAt : Coordinates → ℕ → Type 0
IsFreeAt table i = (i < length table.placed.items) × (get_or table.placed.items i false ≡ false)

-- the node of that number is none that has no place
abbrev pub IsNoneFree : Coordinates → (node : ℕ) → Type 0
IsNoneFree table node = (i : ℕ) → node ≡ i + 1 → i < length table.placed.items → get_or table.placed.items i false ≡ true

-- the table holds one place more, where one was to be put
abbrev pub HoldsMore : Coordinates → Option Placing → Coordinates → Type 0
HoldsMore old placing new = (nodes : ℕ) (before : List Placed) → HoldsPlaces nodes before old
    → HoldsPlaces nodes (before ++ option_to_list (option_map placed_by placing)) new
