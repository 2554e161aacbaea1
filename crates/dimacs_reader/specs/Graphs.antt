use Rattle.std.specs.Prelude.{ℕ, ◌+◌, ◌==◌, ◌&&◌, nat_le, cond, List, [], ◌∷◌, Result, Ok, Err}
use Rattle.ride_base.specs.Fields.{largest_32}
use Rattle.ride_base.specs.Pieces.{Piece, Whole, TooLong, TooLarge, pieces, largest_text}
use Rattle.road_graph.specs.declared.road.Road.{Road}
use Rattle.road_graph.specs.Roads.{Roads, is_node, node}
use Rattle.road_graph.specs.Limits.{most_nodes, most_roads}
use Rattle.dimacs_reader.specs.declared.faults.GraphFault.{GraphFault}
use Rattle.dimacs_reader.specs.declared.faults.GraphFault.TheVariants.{Form, Count, Node, Weight, Limit}
use Rattle.dimacs_reader.specs.Forms.{GraphForm, Skipped, Problem, Arc, Formless, graph_line}

-- What a text says as a graph: its nodes and its roads in their order, or its first bad line and why it is bad.

abbrev pub largest_weight : ℕ
largest_weight = largest_32

-- what a value becomes, where there is one
abbrev pub map_ok : {X Y : Type 0} → (X → Y) → Result X GraphFault → Result Y GraphFault
map_ok f (Ok x) = Ok (f x)
map_ok f (Err fault) = Err fault

-- one more in front
abbrev pub onto : {X : Type 0} → X → Result (List X) GraphFault → Result (List X) GraphFault
onto x rest = map_ok (λ xs. x ∷ xs) rest

-- a road of this line, among so many nodes, and then the roads of the lines behind it
abbrev pub road_and : (nodes line from to weight : ℕ) → Result (List Road) GraphFault → Result (List Road) GraphFault
road_and nodes line from to weight rest =
    cond (is_node nodes (node from) && is_node nodes (node to))
    (cond (nat_le weight largest_weight) (onto (record { from = node from; to = node to; weight = weight }) rest) (Err (Weight line)))
    (Err (Node line))

-- what a line of that form says behind the problem line, where so many roads were said and so many were found before it
abbrev pub arc_line : (nodes said found line : ℕ) → GraphForm → (skipped another : Result (List Road) GraphFault) → Result (List Road) GraphFault
arc_line nodes said found line Skipped skipped another = skipped
arc_line nodes said found line (Problem n m) skipped another = Err (Form line)
arc_line nodes said found line (Arc from to weight) skipped another = cond (found == said) (Err (Count line said (found + 1))) (road_and nodes line from to weight another)
arc_line nodes said found line Formless skipped another = Err (Form line)

-- the roads of the lines behind the problem line, from line number `line` on
abbrev pub roads_in : (nodes said found line : ℕ) → List Piece → Result (List Road) GraphFault
roads_in nodes said found line [] = cond (found == said) (Ok []) (Err (Count line said found))
roads_in nodes said found line (Whole bytes ∷ more) = arc_line nodes said found line (graph_line bytes) (roads_in nodes said found (line + 1) more) (roads_in nodes said (found + 1) (line + 1) more)
roads_in nodes said found line (TooLong ∷ more) = Err (Limit line)
roads_in nodes said found line (TooLarge ∷ more) = Err (Limit line)

abbrev pub over_nodes : ℕ → Result (List Road) GraphFault → Result Roads GraphFault
over_nodes nodes rest = map_ok (λ roads. record { nodes = nodes; roads = roads }) rest

-- what a line of that form says where no problem line came before it
abbrev pub first_line : (line : ℕ) → GraphForm → (skipped : Result Roads GraphFault) → (ℕ → ℕ → Result (List Road) GraphFault) → Result Roads GraphFault
first_line line Skipped skipped behind = skipped
first_line line (Problem nodes said) skipped behind = cond (nat_le nodes most_nodes && nat_le said most_roads) (over_nodes nodes (behind nodes said)) (Err (Limit line))
first_line line (Arc from to weight) skipped behind = Err (Form line)
first_line line Formless skipped behind = Err (Form line)

-- the graph of the lines of a text, from line number `line` on
abbrev pub graph_in : (line : ℕ) → List Piece → Result Roads GraphFault
graph_in line [] = Err (Form line)
graph_in line (Whole bytes ∷ more) = first_line line (graph_line bytes) (graph_in (line + 1) more) (λ nodes said. roads_in nodes said 0 (line + 1) more)
graph_in line (TooLong ∷ more) = Err (Limit line)
graph_in line (TooLarge ∷ more) = Err (Limit line)

-- the graph of a text, or its first bad line
abbrev pub graph_of : List ℕ → Result Roads GraphFault
graph_of text = graph_in 1 (pieces largest_text text)
