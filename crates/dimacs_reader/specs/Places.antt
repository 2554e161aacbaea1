use Rattle.std.specs.Prelude.{◌≡◌, ℕ, ℤ, ◌+◌, ◌-◌, ◌==◌, ◌&&◌, nat_le, nat_abs, not, Bool, cond, List, [], ◌∷◌, ◌++◌, length, Some, slice_get, Result, Ok, Err}
use Rattle.std.specs.List.{list_any}
use Rattle.ride_base.specs.Pieces.{Piece, Whole, TooLong, TooLarge, pieces, largest_text}
use Rattle.road_graph.specs.Roads.{is_node, node}
use Rattle.road_graph.specs.Limits.{most_nodes}
use Rattle.dimacs_reader.specs.declared.faults.GraphFault.{GraphFault}
use Rattle.dimacs_reader.specs.declared.faults.GraphFault.TheVariants.{Form, Count, Node, Weight, Limit}
use Rattle.dimacs_reader.specs.Forms.{PlaceForm, Skipped, Header, Place, Formless, place_line}
use Rattle.dimacs_reader.specs.Graphs.{onto}

-- What a text says as places of so many nodes: where each node lies, or its first bad line and why it is bad.

-- a node and where it lies
pub record Placed : Type 0 where
  pub node : ℕ
  pub x : ℤ
  pub y : ℤ

abbrev pub largest_coordinate : ℕ
largest_coordinate = 2147483647

abbrev pub is_coordinate : ℤ → Bool
is_coordinate z = nat_le (nat_abs z) largest_coordinate

-- the node has a place already
abbrev pub stood_before : List Placed → ℕ → Bool
stood_before before n = list_any (λ (p : Placed). p.node == n) before

-- a place of this line, behind those before it, and then the places of the lines behind it
abbrev pub place_and : (nodes line : ℕ) → List Placed → Placed → Result (List Placed) GraphFault → Result (List Placed) GraphFault
place_and nodes line before place rest =
    cond (is_node nodes (node place.node) && not (stood_before before place.node))
    (cond (is_coordinate place.x && is_coordinate place.y) (onto place rest) (Err (Weight line)))
    (Err (Node line))

-- what a line of that form says behind the header, where these places were found before it
abbrev pub later_line : (nodes line : ℕ) → List Placed → PlaceForm → (skipped : Result (List Placed) GraphFault) → (Placed → Result (List Placed) GraphFault) → Result (List Placed) GraphFault
later_line nodes line before Skipped skipped another = skipped
later_line nodes line before (Header n) skipped another = Err (Form line)
later_line nodes line before (Place n x y) skipped another =
    cond (length before == nodes) (Err (Count line nodes (nodes + 1)))
    (place_and nodes line before (record { node = n; x = x; y = y }) (another (record { node = n; x = x; y = y })))
later_line nodes line before Formless skipped another = Err (Form line)

-- the places of the lines behind the header, from line number `line` on
abbrev pub places_behind : (nodes line : ℕ) → List Placed → List Piece → Result (List Placed) GraphFault
places_behind nodes line before [] = cond (length before == nodes) (Ok []) (Err (Count line nodes (length before)))
places_behind nodes line before (Whole bytes ∷ more) =
    later_line nodes line before (place_line bytes) (places_behind nodes (line + 1) before more) (λ place. places_behind nodes (line + 1) (before ++ place ∷ []) more)
places_behind nodes line before (TooLong ∷ more) = Err (Limit line)
places_behind nodes line before (TooLarge ∷ more) = Err (Limit line)

-- what a line of that form says where no header came before it
abbrev pub opening_line : (nodes line : ℕ) → PlaceForm → (skipped behind : Result (List Placed) GraphFault) → Result (List Placed) GraphFault
opening_line nodes line Skipped skipped behind = skipped
opening_line nodes line (Header n) skipped behind = cond (nat_le n most_nodes) (cond (n == nodes) behind (Err (Count line n nodes))) (Err (Limit line))
opening_line nodes line (Place n x y) skipped behind = Err (Form line)
opening_line nodes line Formless skipped behind = Err (Form line)

-- the places of the lines of a text, from line number `line` on
abbrev pub places_in : (nodes line : ℕ) → List Piece → Result (List Placed) GraphFault
places_in nodes line [] = Err (Form line)
places_in nodes line (Whole bytes ∷ more) = opening_line nodes line (place_line bytes) (places_in nodes (line + 1) more) (places_behind nodes (line + 1) [] more)
places_in nodes line (TooLong ∷ more) = Err (Limit line)
places_in nodes line (TooLarge ∷ more) = Err (Limit line)

-- the places that a text says of so many nodes, in the order of its lines, or its first bad line
abbrev pub places_of : (nodes : ℕ) → List ℕ → Result (List Placed) GraphFault
places_of nodes text = places_in nodes 1 (pieces largest_text text)

-- the coordinates of each node, from node 1 on, are those that were placed
pub record AreCoordinates (nodes : ℕ) (placed : List Placed) (coordinates : List (ℤ × ℤ)) : Type 0 where
  pub all : length coordinates ≡ nodes
  pub each : (k : ℕ) (p : Placed) → slice_get placed k ≡ Some p → slice_get coordinates (p.node - 1) ≡ Some (p.x, p.y)
