use Rattle.std.specs.Prelude.{◌≡◌, ℕ, ℤ, ◌+◌, ◌-◌, ◌<◌, ◌≤◌, cond, Bool, true, false, List, [], ◌∷◌, length, Option, Some, None, Result, Ok, Err, slice_get, get_or}
use Rattle.std.specs.Option.{option_map}
use Rattle.ride_base.specs.Fields.{capped}
use Rattle.ride_base.specs.Pieces.{Piece, Whole, IsRefused}
use Rattle.ride_base.specs.Reader.{Reader}
use Rattle.ride_base.specs.Told.{ahead}
use Rattle.ride_base.specs.declared.lines.Line.{Line}
use Rattle.ride_base.specs.declared.lines.LineFault.{LineFault}
use Rattle.ride_base.specs.declared.lines.LineFault.TheVariants.{Fault as LineFaultOfShelf, Long, Large, NoMemory as LineNoMemory}
use Rattle.road_graph.specs.declared.road.Road.{Road}
use Rattle.road_graph.specs.Roads.{Roads}
use Rattle.dimacs_reader.specs.declared.faults.GraphFault.{GraphFault}
use Rattle.dimacs_reader.specs.declared.faults.GraphFault.TheVariants.{Fault, Form, Count, Node, Weight, Limit, NoMemory}
use Rattle.dimacs_reader.specs.declared.forms.GraphLine.{GraphLine}
use Rattle.dimacs_reader.specs.declared.forms.GraphLine.TheVariants as graph
use Rattle.dimacs_reader.specs.declared.forms.PlaceLine.{PlaceLine}
use Rattle.dimacs_reader.specs.declared.forms.PlaceLine.TheVariants as place
use Rattle.dimacs_reader.specs.declared.forms.Coordinate.{Coordinate}
use Rattle.dimacs_reader.specs.declared.forms.Coordinate.TheVariants.{Within, Outside}
use Rattle.dimacs_reader.specs.Forms.{GraphForm, Skipped, Problem, Arc, Formless, PlaceForm, Header, Place, is_signed, signed_of}
use Rattle.dimacs_reader.specs.declared.places.Placing.{Placing}
use Rattle.dimacs_reader.specs.Graphs.{graph_in, roads_in, onto}
use Rattle.dimacs_reader.specs.Places.{Placed, is_coordinate, places_in, places_behind, stood_before}

-- What the calls that read a line at a time say of the whole text.

-- a line of a graph as it is read
abbrev pub read_graph_line : GraphForm → GraphLine
read_graph_line Skipped = graph.Skipped
read_graph_line (Problem nodes roads) = graph.Problem (capped nodes) (capped roads)
read_graph_line (Arc from to weight) = graph.Arc (capped from) (capped to) (capped weight)
read_graph_line Formless = graph.Formless

-- a coordinate as it is read
abbrev pub read_coordinate : ℤ → Coordinate
read_coordinate z = cond (is_coordinate z) (Within z) Outside

-- the coordinate that a field spells, where it spells one
abbrev pub coordinate_of : List ℕ → Option Coordinate
coordinate_of field = cond (is_signed field) (Some (read_coordinate (signed_of field))) None

-- a line of places as it is read
abbrev pub read_place_line : PlaceForm → PlaceLine
read_place_line Skipped = place.Skipped
read_place_line (Header nodes) = place.Header (capped nodes)
read_place_line (Place node x y) = place.Place (capped node) (read_coordinate x) (read_coordinate y)
read_place_line Formless = place.Formless

-- why no line with that number is given
abbrev pub fault_at : ℕ → LineFault → GraphFault
fault_at line LineFaultOfShelf = Fault
fault_at line Long = Limit line
fault_at line Large = Limit line
fault_at line LineNoMemory = NoMemory

-- What the answer for the next line says of the pieces ahead before and after, where so many lines were given before. After an
-- error nothing is said of what is ahead.
abbrev pub GivesLine : ℕ → Option (List Piece) → Result Bool GraphFault → Line → Option (List Piece) → Type 0
GivesLine given None (Ok read) line after = after ≡ None
GivesLine given None (Err error) line after = Unit {0}
GivesLine given (Some before) (Ok false) line after = (before ≡ []) × (after ≡ Some [])
GivesLine given (Some before) (Ok true) line None = ⊥
GivesLine given (Some before) (Ok true) line (Some after) = before ≡ Whole line.bytes ∷ after
GivesLine given (Some before) (Err Fault) line after = Unit {0}
GivesLine given (Some before) (Err (Form bad)) line after = ⊥
GivesLine given (Some before) (Err (Count bad said found)) line after = ⊥
GivesLine given (Some before) (Err (Node bad)) line after = ⊥
GivesLine given (Some before) (Err (Weight bad)) line after = ⊥
GivesLine given (Some before) (Err (Limit bad)) line after = (bad ≡ given + 1) × IsRefused before
GivesLine given (Some before) (Err NoMemory) line after = Unit {0}

-- what the answer for the next line says of the count of lines
abbrev pub CountsLine : Reader → Result Bool GraphFault → Line → Reader → Type 0
CountsLine old (Ok false) line new = new.given ≡ old.given
CountsLine old (Ok true) line new = (line.number ≡ old.given + 1) × (new.given ≡ old.given + 1) × (new.room < old.room)
CountsLine old (Err error) line new = new.given ≡ old.given

-- what the pieces ahead of a reader say as a graph, where they are told
abbrev pub graph_ahead : Reader → (left : Option (List ℕ)) → Option (Result Roads GraphFault)
graph_ahead reader left = option_map (graph_in (reader.given + 1)) (ahead reader left)

-- what the pieces ahead say as roads behind the problem line
abbrev pub roads_ahead : (nodes said found : ℕ) → Reader → (left : Option (List ℕ)) → Option (Result (List Road) GraphFault)
roads_ahead nodes said found reader left = option_map (roads_in nodes said found (reader.given + 1)) (ahead reader left)

-- what the pieces ahead say as places of so many nodes
abbrev pub places_ahead : (nodes : ℕ) → Reader → (left : Option (List ℕ)) → Option (Result (List Placed) GraphFault)
places_ahead nodes reader left = option_map (places_in nodes (reader.given + 1)) (ahead reader left)

-- what the pieces ahead say as places behind the header, where these were found before
abbrev pub placed_ahead : (nodes : ℕ) → List Placed → Reader → (left : Option (List ℕ)) → Option (Result (List Placed) GraphFault)
placed_ahead nodes before reader left = option_map (places_behind nodes (reader.given + 1) before) (ahead reader left)

-- what a line says, by what was made of it
abbrev pub by_value : {X Y : Type 0} → Result X GraphFault → (X → Result Y GraphFault) → Result Y GraphFault
by_value (Ok x) f = f x
by_value (Err fault) f = Err fault

-- the same where it may have been skipped
abbrev pub by_answer : {X Y : Type 0} → Result (Option X) GraphFault → (skipped : Result Y GraphFault) → (X → Result Y GraphFault) → Result Y GraphFault
by_answer (Ok None) skipped f = skipped
by_answer (Ok (Some x)) skipped f = f x
by_answer (Err fault) skipped f = Err fault

-- the place that is to be put
abbrev pub placed_by : Placing → Placed
placed_by placing = record { node = placing.index + 1; x = placing.x; y = placing.y }

-- the place that is to be put, and then what stands behind it
abbrev pub placed_and : (Placed → Result (List Placed) GraphFault) → Placing → Result (List Placed) GraphFault
placed_and another placing = onto (placed_by placing) (another (placed_by placing))

-- A table of places in their order: the coordinates of each node from node 1 on, which of the nodes were placed, and how many.
pub record IsPlaceTable (nodes : ℕ) (places : List Placed) (held : List (ℤ × ℤ)) (marks : List Bool) (count : ℕ) : Type 0 where
  pub all : length held ≡ nodes
  pub marked : length marks ≡ nodes
  pub counted : count ≡ length places
  pub marks_are : (i : ℕ) → i < nodes → get_or marks i false ≡ stood_before places (i + 1)
  pub each : (k : ℕ) (p : Placed) → slice_get places k ≡ Some p → (1 ≤ p.node) × (slice_get held (p.node - 1) ≡ Some (p.x, p.y))
