use Rattle.std.proofs.Common.{◌≡◌, ℕ, suc, ◌+◌, ◌-◌, ◌<◌, ◌≤◌, ◌^◌, Bool, true, false, cond, List, [], ◌∷◌, length, Option, None, Result, Err, refl, sym, ap, ◌∙◌, arith}
use Rattle.std.specs.Prelude.{◌&&◌, ◌==◌, nat_le, not}
use Rattle.std.specs.List.{list_all, position_or_len}
use Rattle.std.specs.Option.{option_map}
use Rattle.std.proofs.lemmas.Grind.{common_steps}
use Rattle.std.proofs.lemmas.Bool.Decides.{nat_tests}
use Rattle.ride_base.specs.Fields.{capped}
use Rattle.ride_base.specs.Pieces.{Piece, pieces}
use Rattle.road_graph.specs.declared.road.Road.{Road}
use Rattle.road_graph.specs.Faults.{first_outside, fault_in}
use Rattle.road_graph.specs.Roads.{is_node, is_within, node}
use Rattle.road_graph.specs.Limits.{most_nodes, most_roads}
use Rattle.dimacs_reader.specs.declared.faults.GraphFault.{GraphFault}
use Rattle.dimacs_reader.specs.declared.faults.GraphFault.TheVariants.{Count, Node, Weight}
use Rattle.dimacs_reader.specs.declared.forms.GraphLine.TheVariants.{Arc as ReadArc}
use Rattle.dimacs_reader.specs.Forms.{GraphForm, Skipped, Problem, Arc, Formless}
use Rattle.dimacs_reader.specs.Graphs.{arc_line, road_and, roads_in, onto, largest_weight}
use Rattle.dimacs_reader.specs.Reading.{read_graph_line, by_value}
use Rattle.dimacs_reader.proofs.AllOnto.{all_onto}

cut_small : (n limit : ℕ) → limit < 2 ^ 64 - 1 → nat_le (capped n) limit ≡ nat_le n limit
cut_small n limit h = grind (arith, common_steps)

cut_some : (n : ℕ) → nat_le 1 (capped n) ≡ nat_le 1 n
cut_some n = grind (arith, common_steps)

is_uncut : (n limit : ℕ) → limit < 2 ^ 64 - 1 → nat_le n limit ≡ true → capped n ≡ n
is_uncut n limit h e = grind (arith, common_steps)

cut_node : (nodes n : ℕ) → nodes < 2 ^ 64 - 1 → is_node nodes (node (capped n)) ≡ is_node nodes (node n)
cut_node nodes n h = ap (λ (b : Bool). b && nat_le (capped n) nodes) (cut_some n) ∙ ap (λ (b : Bool). nat_le 1 n && b) (cut_small n nodes h)

-- the road of numbers that are cut
road_cut : (nodes line from to weight : ℕ) (rest : Result (List Road) GraphFault) → nodes < 2 ^ 64 - 1 → road_and nodes line (capped from) (capped to) (capped weight) rest ≡ road_and nodes line from to weight rest
road_cut nodes line from to weight rest h =
    rw (cut_node nodes from h, cut_node nodes to h, cut_small weight largest_weight (omega arith))
    (on (nat_le 1 from) (nat_le from nodes) (nat_le 1 to) (nat_le to nodes) (nat_le weight largest_weight) (is_uncut from nodes h) (is_uncut to nodes h) (is_uncut weight largest_weight (omega arith)))
  where
    on : (f1 f2 t1 t2 w : Bool) → (f2 ≡ true → capped from ≡ from) → (t2 ≡ true → capped to ≡ to) → (w ≡ true → capped weight ≡ weight)
        → cond ((f1 && f2) && (t1 && t2)) (cond w (onto (record { from = node (capped from); to = node (capped to); weight = capped weight }) rest) (Err (Weight line))) (Err (Node line))
        ≡ cond ((f1 && f2) && (t1 && t2)) (cond w (onto (record { from = node from; to = node to; weight = weight }) rest) (Err (Weight line))) (Err (Node line))
    on true true true true true ef et ew = rw (ef refl, et refl, ew refl) refl
    on true true true true false ef et ew = refl
    on true true true false w ef et ew = refl
    on true true false t2 w ef et ew = refl
    on true false t1 t2 w ef et ew = refl
    on false f2 t1 t2 w ef et ew = refl

-- what an arc says behind the problem line, where not all roads were found
pub arc_says : (g : GraphForm) (f t w nodes said found line : ℕ) (answer : Result Road GraphFault) → read_graph_line g ≡ ReadArc f t w → found < said → nodes < 2 ^ 32
    → ((another : Result (List Road) GraphFault) → road_and nodes line f t w another ≡ by_value answer (λ road. onto road another))
    → (skipped another : Result (List Road) GraphFault) → arc_line nodes said found line g skipped another ≡ by_value answer (λ road. onto road another)
arc_says Skipped f t w nodes said found line answer e l n h skipped another = cc
arc_says (Problem a b) f t w nodes said found line answer e l n h skipped another = cc
arc_says (Arc from to weight) f t w nodes said found line answer e l n h skipped another =
    let fewer : (found == said) ≡ false = grind (arith, nat_tests) in
    let ef : capped from ≡ f = cc in
    let et : capped to ≡ t = cc in
    let ew : capped weight ≡ w = cc in
    ap (λ (b : Bool). cond b (Err (Count line said (found + 1))) (road_and nodes line from to weight another)) fewer
    ∙ sym (road_cut nodes line from to weight another (omega arith)) ∙ rw (ef, et, ew) (h another)
arc_says Formless f t w nodes said found line answer e l n h skipped another = cc

-- the roads that were read, and those that the pieces ahead say
abbrev pub roads_said : (nodes said : ℕ) → List Road → (given : ℕ) → Option (List Piece) → Option (Result (List Road) GraphFault)
roads_said nodes said done given pieces = option_map (λ more. all_onto done (roads_in nodes said (length done) (given + 1) more)) pieces

all_inside : (nodes : ℕ) (roads : List Road) → list_all (is_within nodes) roads ≡ true → position_or_len (λ (road : Road). not (is_within nodes road)) roads ≡ length roads
all_inside nodes [] h = refl
all_inside nodes (road ∷ roads) h = on (is_within nodes road) h (all_inside nodes roads)
  where
    on : (b : Bool) → (b && list_all (is_within nodes) roads) ≡ true → (list_all (is_within nodes) roads ≡ true → position_or_len (λ (r : Road). not (is_within nodes r)) roads ≡ length roads)
        → cond (not (not b)) (1 + position_or_len (λ (r : Road). not (is_within nodes r)) roads) 0 ≡ suc (length roads)
    on true h rec = let r : position_or_len (λ (r : Road). not (is_within nodes r)) roads ≡ length roads = rec h in omega arith
    on false h rec = cc

-- roads between the nodes are a graph's
pub sound_roads : (nodes : ℕ) (roads : List Road) → nodes ≤ most_nodes → length roads ≤ most_roads → list_all (is_within nodes) roads ≡ true → fault_in nodes roads ≡ None
sound_roads nodes roads n r h =
    let e : position_or_len (λ (road : Road). not (is_within nodes road)) roads ≡ length roads = all_inside nodes roads h in
    let p : first_outside nodes roads ≡ None = grind (arith, common_steps) in
    rw p (grind (arith, common_steps))
