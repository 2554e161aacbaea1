use Rattle.std.proofs.Common.{◌≡◌, ◌≢◌, ℕ, ℤ, ◌+◌, ◌-◌, ◌<◌, ◌≤◌, ◌^◌, Bool, true, false, cond, List, [], ◌∷◌, ◌++◌, length, get_or, Option, Some, None, Result, Ok, Err, refl, sym, ap, subst, ◌∙◌, arith, length-append, append-nil, append_assoc, inl, inr, eq-eqb}
use Rattle.std.specs.Prelude.{◌&&◌, ◌||◌, ◌==◌, ◌⊎◌, nat_lt, not, slice_get, set, IfSome}
use Rattle.std.specs.Option.{option_map, option_to_list}
use Rattle.std.proofs.Math.ListN.{get_or-append, length-set}
use Rattle.std.proofs.Math.Seq.{get_or-append_seam}
use Rattle.std.proofs.lemmas.Grind.{common_steps}
use Rattle.std.proofs.lemmas.Bool.Decides.{nat_tests}
use Rattle.std.proofs.lemmas.List.{get_or-set_same, get_or-set_other}
use Rattle.std.proofs.lemmas.List.Folds.{list_any-append, list_any_at}
use Rattle.std.proofs.lemmas.Option.{slice_get-get_or, slice_get_within, get_or_from_slice_get}
use Rattle.ride_base.specs.Fields.{capped}
use Rattle.ride_base.specs.Pieces.{Piece}
use Rattle.ride_base.specs.declared.lines.Line.{Line}
use Rattle.road_graph.specs.Roads.{is_node, node}
use Rattle.dimacs_reader.specs.declared.faults.GraphFault.{GraphFault}
use Rattle.dimacs_reader.specs.declared.faults.GraphFault.TheVariants.{Weight, Node}
use Rattle.dimacs_reader.specs.declared.places.Placing.{Placing}
use Rattle.dimacs_reader.specs.Forms.{place_line}
use Rattle.dimacs_reader.specs.Graphs.{onto}
use Rattle.dimacs_reader.specs.Places.{Placed, places_behind, later_line, place_and, stood_before, is_coordinate}
use Rattle.dimacs_reader.specs.Reading.{GivesLine, IsPlaceTable, placed_by, placed_and, by_answer}
use Rattle.dimacs_reader.proofs.AllOnto.{all_onto}

-- where each of so many nodes that has the number has a place, the line names no node without one
pub no_place : (nodes number line : ℕ) (before : List Placed) (held : List (ℤ × ℤ)) (marks : List Bool) (count : ℕ) (x y : ℤ) (rest : Result (List Placed) GraphFault) → nodes < 2 ^ 32
    → IsPlaceTable nodes before held marks count → ((i : ℕ) → capped number ≡ i + 1 → i < length marks → get_or marks i false ≡ true)
    → place_and nodes line before (record { node = number; x = x; y = y }) rest ≡ Err (Node line)
no_place nodes number line before held marks count x y rest n kept stands = on (is_node nodes (node number)) refl
  where
    on : (b : Bool) → is_node nodes (node number) ≡ b
        → cond (b && not (stood_before before number)) (cond (is_coordinate x && is_coordinate y) (onto (record { node = number; x = x; y = y }) rest) (Err (Weight line))) (Err (Node line)) ≡ Err (Node line)
    on false e = refl
    on true e =
        let low : 1 ≤ number = grind (arith, nat_tests, common_steps) in
        let high : number ≤ nodes = grind (arith, nat_tests, common_steps) in
        let up : number - 1 + 1 ≡ number = omega arith in
        let stood : stood_before before number ≡ true =
        subst (λ (k : ℕ). stood_before before k ≡ true) up (sym (kept.marks_are (number - 1) (omega arith)) ∙ stands (number - 1) (omega arith) (omega (arith, kept.marked))) in
        rw stood refl

-- the places that were read, and those that the pieces ahead say
abbrev pub places_said : (nodes : ℕ) → List Placed → (given : ℕ) → Option (List Piece) → Option (Result (List Placed) GraphFault)
places_said nodes done given pieces = option_map (λ more. all_onto done (places_behind nodes (given + 1) done more)) pieces

-- an element of a list with one more at its end
at_append : (done : List Placed) (p q : Placed) (k : ℕ) → slice_get (done ++ p ∷ []) k ≡ Some q → (slice_get done k ≡ Some q) ⊎ (q ≡ p)
at_append done p q k h = on (nat_lt k (length done)) refl
  where
    is : get_or (done ++ p ∷ []) k p ≡ q
    is = get_or_from_slice_get (done ++ p ∷ []) k q p h

    within : k < length done + 1
    within = let w = slice_get_within (done ++ p ∷ []) k q h in omega (arith, length-append done (p ∷ []))

    on : (b : Bool) → nat_lt k (length done) ≡ b → (slice_get done k ≡ Some q) ⊎ (q ≡ p)
    on true e =
        let lt : k < length done = grind (arith, nat_tests) in
        inl (slice_get-get_or done k p lt ∙ ap Some (sym (get_or-append done (p ∷ []) p k lt) ∙ is))
    on false e =
        let w = within in
        let last : k ≡ length done = grind (arith, nat_tests) in
        inr (sym is ∙ ap (λ (i : ℕ). get_or (done ++ p ∷ []) i p) last ∙ get_or-append_seam done p [] p)

-- a place of the list has its node
stands_in : (done : List Placed) (k : ℕ) (q : Placed) → slice_get done k ≡ Some q → stood_before done q.node ≡ true
stands_in done k q h =
    let same : (get_or done k q).node ≡ q.node = ap (λ (p : Placed). p.node) (get_or_from_slice_get done k q q h) in
    list_any_at (λ (p : Placed). p.node == q.node) done k q (slice_get_within done k q h) (eq-eqb (get_or done k q).node q.node same)

stood_more : (done : List Placed) (p : Placed) (n : ℕ) → stood_before (done ++ p ∷ []) n ≡ (stood_before done n || (p.node == n || false))
stood_more done p n = list_any-append (λ (q : Placed). q.node == n) done (p ∷ [])

set_same : (held : List (ℤ × ℤ)) (i : ℕ) (z : ℤ × ℤ) → i < length held → slice_get (set held i z) i ≡ Some z
set_same held i z h = slice_get-get_or (set held i z) i z (omega (arith, length-set held i z)) ∙ ap Some (get_or-set_same held i z z h)

set_other : (held : List (ℤ × ℤ)) (i j : ℕ) (y z : ℤ × ℤ) → j ≢ i → slice_get held j ≡ Some z → slice_get (set held i y) j ≡ Some z
set_other held i j y z other h =
    let within = slice_get_within held j z h in
    slice_get-get_or (set held i y) j z (omega (arith, length-set held i y)) ∙ ap Some (get_or-set_other held i j y z other ∙ get_or_from_slice_get held j z z h)

or_true : (b : Bool) → (b || true) ≡ true
or_true true = refl
or_true false = refl

or_false : (b : Bool) → (b || false) ≡ b
or_false true = refl
or_false false = refl

-- one place more
pub kept_more : (nodes : ℕ) (done : List Placed) (held : List (ℤ × ℤ)) (marks : List Bool) (count : ℕ) (placing : Placing) → IsPlaceTable nodes done held marks count
    → placing.index < length marks → get_or marks placing.index false ≡ false
    → IsPlaceTable nodes (done ++ placed_by placing ∷ []) (set held placing.index (placing.x, placing.y)) (set marks placing.index true) (count + 1)
kept_more nodes done held marks count placing kept inside free =
    let n = kept.marked in
    let m = kept.all in
    record {
      all = length-set held placing.index (placing.x, placing.y) ∙ kept.all;
      marked = length-set marks placing.index true ∙ kept.marked;
      counted = omega (arith, kept.counted, length-append done (placed_by placing ∷ []));
      marks_are = λ i below. mark (i == placing.index) i refl below;
      each = λ k p is. elim (at_append done (placed_by placing) p k is) [
        | inl e ↦ ((kept.each k p e).0, set_other held placing.index (p.node - 1) (placing.x, placing.y) (p.x, p.y) (λ same. apart k p e same) (kept.each k p e).1)
        | inr e ↦ (let q : p.node ≡ placing.index + 1 = ap (λ (r : Placed). r.node) e in omega arith, last p e)
      ];
    }
  where
    new : stood_before done (placing.index + 1) ≡ false
    new = let n = kept.marked in sym (kept.marks_are placing.index (omega arith)) ∙ free

    apart : (k : ℕ) (p : Placed) → slice_get done k ≡ Some p → p.node - 1 ≡ placing.index → ⊥
    apart k p e same =
        let low : 1 ≤ p.node = (kept.each k p e).0 in
        let is : p.node ≡ placing.index + 1 = omega arith in
        let stands : stood_before done (placing.index + 1) ≡ true = subst (λ (n : ℕ). stood_before done n ≡ true) is (stands_in done k p e) in
        let f = new in cc

    last : (p : Placed) → p ≡ placed_by placing → slice_get (set held placing.index (placing.x, placing.y)) (p.node - 1) ≡ Some (p.x, p.y)
    last p e =
        let at : p.node - 1 ≡ placing.index = (let q : p.node ≡ placing.index + 1 = ap (λ (r : Placed). r.node) e in omega arith) in
        let m = kept.all in
        let n = kept.marked in
        rw at (set_same held placing.index (placing.x, placing.y) (omega arith) ∙ ap (λ (r : Placed). Some (r.x, r.y)) (sym e))

    mark : (b : Bool) (i : ℕ) → (i == placing.index) ≡ b → i < nodes → get_or (set marks placing.index true) i false ≡ stood_before (done ++ placed_by placing ∷ []) (i + 1)
    mark true i e below =
        let at : i ≡ placing.index = grind (arith, nat_tests) in
        let stood : (placing.index + 1 == i + 1) ≡ true = grind (arith, nat_tests) in
        let first : get_or (set marks placing.index true) placing.index false ≡ true = get_or-set_same marks placing.index true false inside in
        let f = new in
        subst (λ (j : ℕ). get_or (set marks placing.index true) j false ≡ true) (sym at) first
        ∙ sym (stood_more done (placed_by placing) (i + 1) ∙ rw stood (or_true (stood_before done (i + 1))))
    mark false i e below =
        let other : i ≢ placing.index = grind (arith, nat_tests) in
        let unstood : (placing.index + 1 == i + 1) ≡ false = grind (arith, nat_tests) in
        get_or-set_other marks placing.index i true false other ∙ kept.marks_are i below
        ∙ sym (stood_more done (placed_by placing) (i + 1) ∙ rw unstood (or_false (stood_before done (i + 1))))

onto-all_onto : (done : List Placed) (p : Placed) (rest : Result (List Placed) GraphFault) → all_onto done (onto p rest) ≡ all_onto (done ++ p ∷ []) rest
onto-all_onto done p (Ok rest) = ap Ok (sym (append_assoc done (p ∷ []) rest))
onto-all_onto done p (Err error) = refl

-- the place of a line, if it says one
abbrev pub placed_of : Option Placing → List Placed
placed_of placing = option_to_list (option_map placed_by placing)

one_line : (nodes given : ℕ) (done : List Placed) (placing : Option Placing) (after : List Piece)
    → all_onto done (by_answer (Ok placing) (places_behind nodes (given + 1) done after) (placed_and (λ place. places_behind nodes (given + 1) (done ++ place ∷ []) after)))
    ≡ all_onto (done ++ placed_of placing) (places_behind nodes (given + 1) (done ++ placed_of placing) after)
one_line nodes given done None after = rw (append-nil done) refl
one_line nodes given done (Some placing) after = onto-all_onto done (placed_by placing) (places_behind nodes (given + 1) (done ++ placed_by placing ∷ []) after)

-- a line more is read behind the header
pub places_step : (nodes given given' : ℕ) (done : List Placed) (before after : Option (List Piece)) (line : Line) (placing : Option Placing)
    → GivesLine given before (Ok true) line after → line.number ≡ given + 1 → given' ≡ given + 1
    → ((skipped : Result (List Placed) GraphFault) (another : Placed → Result (List Placed) GraphFault) → later_line nodes line.number done (place_line line.bytes) skipped another ≡ by_answer (Ok placing) skipped (placed_and another))
    → places_said nodes (done ++ placed_of placing) given' after ≡ places_said nodes done given before
places_step nodes given given' done None None line placing g n n' says = refl
places_step nodes given given' done None (Some after) line placing g n n' says = cc
places_step nodes given given' done (Some before) None line placing g n n' says = absurd g
places_step nodes given given' done (Some before) (Some after) line placing g n n' says =
    ap (λ (k : ℕ). places_said nodes (done ++ placed_of placing) k (Some after)) n'
    ∙ ap Some (sym (one_line nodes (given + 1) done placing after))
    ∙ ap (λ (r : Result (List Placed) GraphFault). Some (all_onto done r)) (sym
    (ap (places_behind nodes (given + 1) done) g
    ∙ subst (λ (k : ℕ). later_line nodes k done (place_line line.bytes) (places_behind nodes (given + 1 + 1) done after) (λ place. places_behind nodes (given + 1 + 1) (done ++ place ∷ []) after)
    ≡ by_answer (Ok placing) (places_behind nodes (given + 1 + 1) done after) (placed_and (λ place. places_behind nodes (given + 1 + 1) (done ++ place ∷ []) after))) n (says _ _)))

-- no more places than nodes
pub few_more : (nodes count count' : ℕ) (placing : Option Placing) → count ≤ nodes → IfSome placing (λ p. count < nodes) → count' ≡ count + length (option_to_list placing) → count' ≤ nodes
few_more nodes count count' None few h e = omega (arith, e)
few_more nodes count count' (Some p) few h e = omega (arith, e, h)

-- one place more, as it is put
pub kept_as : (nodes : ℕ) (done : List Placed) (held held' : List (ℤ × ℤ)) (marks marks' : List Bool) (count count' : ℕ) (placing : Placing) (o : Option Placing) → o ≡ Some placing
    → held' ≡ set held placing.index (placing.x, placing.y) → marks' ≡ set marks placing.index true → count' ≡ count + 1 → IsPlaceTable nodes done held marks count
    → placing.index < length marks → get_or marks placing.index false ≡ false → IsPlaceTable nodes (done ++ placed_of o) held' marks' count'
kept_as nodes done held held' marks marks' count count' placing o is h m k kept inside free = rw (is, h, m, k) (kept_more nodes done held marks count placing kept inside free)
