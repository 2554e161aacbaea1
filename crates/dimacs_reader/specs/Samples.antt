use Rattle.std.specs.Prelude.{◌≡◌, ℕ, List, [], ◌∷◌, ◌++◌, Ok, Err, pos, negsuc, codes, refl}
use Rattle.ride_base.specs.Pieces.{with_line_end as line}
use Rattle.road_graph.specs.Roads.{node}
use Rattle.dimacs_reader.specs.declared.faults.GraphFault.TheVariants.{Form, Count, Node, Weight, Limit}
use Rattle.dimacs_reader.specs.Graphs.{graph_of}
use Rattle.dimacs_reader.specs.Places.{places_of}

one_road : graph_of (line (codes "p sp 2 1") ++ line (codes "a 1 2 10")) ≡ Ok (record { nodes = 2; roads = record { from = node 1; to = node 2; weight = 10 } ∷ [] })
one_road = refl

-- comments, blank lines, blanks between fields, zeros before numbers, a CR before the end and no last end
lenient : graph_of (line (codes "  c é") ++ line [] ++ codes "p  sp" ++ 9 ∷ (codes "02 1" ++ 13 ∷ 10 ∷ []) ++ codes " a 1 002 7 ") ≡ Ok (record { nodes = 2; roads = record { from = node 1; to = node 2; weight = 7 } ∷ [] })
lenient = refl

no_road : graph_of (codes "p sp 0 0") ≡ Ok (record { nodes = 0; roads = [] })
no_road = refl

no_line : graph_of [] ≡ Err (Form 1)
no_line = refl

no_problem_line : graph_of (line (codes "c") ++ line []) ≡ Err (Form 3)
no_problem_line = refl

one_too_few : graph_of (line (codes "p sp 2 2") ++ line (codes "a 1 2 10")) ≡ Err (Count 3 2 1)
one_too_few = refl

one_too_many : graph_of (line (codes "p sp 2 0") ++ line (codes "c") ++ line (codes "a 9 9 10")) ≡ Err (Count 3 0 1)
one_too_many = refl

second_problem_line : graph_of (line (codes "p sp 2 0") ++ line (codes "p sp 2 0")) ≡ Err (Form 2)
second_problem_line = refl

early_arc : graph_of (line (codes "a 1 2 10") ++ line (codes "p sp 2 1")) ≡ Err (Form 1)
early_arc = refl

no_node_3 : graph_of (line (codes "p sp 2 1") ++ line (codes "a 1 3 99999999999")) ≡ Err (Node 2)
no_node_3 = refl

too_heavy : graph_of (line (codes "p sp 2 1") ++ line (codes "a 1 2 4294967296")) ≡ Err (Weight 2)
too_heavy = refl

too_many_nodes : graph_of (line (codes "p sp 2097153 0")) ≡ Err (Limit 1)
too_many_nodes = refl

no_number : graph_of (line (codes "p sp 2 -1")) ≡ Err (Form 1)
no_number = refl

one_place : places_of 1 (line (codes "p aux sp co 1") ++ line (codes "v 1 -5 7")) ≡ Ok (record { node = 1; x = negsuc 4; y = pos 7 } ∷ [])
one_place = refl

placed_twice : places_of 2 (line (codes "p aux sp co 2") ++ line (codes "v 1 -0 7") ++ line (codes "v 1 0 7")) ≡ Err (Node 3)
placed_twice = refl

other_count : places_of 1 (line (codes "c") ++ line (codes "p aux sp co 2")) ≡ Err (Count 2 2 1)
other_count = refl

one_place_too_few : places_of 1 (line (codes "p aux sp co 1")) ≡ Err (Count 2 1 0)
one_place_too_few = refl

too_far : places_of 1 (line (codes "p aux sp co 1") ++ line (codes "v 1 -2147483648 7")) ≡ Err (Weight 2)
too_far = refl
