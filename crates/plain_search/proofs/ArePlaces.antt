use Rattle.std.proofs.Common.{◌≡◌, ℕ, suc, ◌<◌, ◌≤◌, ◌⊎◌, inl, inr, ⊎_elim, ◌||◌, Bool, true, false, eqb, eqb-true, ne_eqb, List, [], ◌∷◌, map, length, get_or, Some, None, sym, ap, ◌∙◌, arith, refl, subst}
use Rattle.std.specs.Prelude.{slice_get}
use Rattle.std.specs.List.{IsDistinct, list_any}
use Rattle.std.proofs.lemmas.List.{length-map, get_or-map}
use Rattle.std.proofs.lemmas.Map.Keys.{IsDistinct-from_apart}
use Rattle.std.proofs.lemmas.Map.Steps.{length-le_from_distinct_below}
use Rattle.std.proofs.lemmas.Option.{slice_get-get_or}
use Rattle.road_graph.specs.declared.road.NodeNo.{NodeNo}
use Rattle.road_graph.specs.Walks.{IsSimple}
use Rattle.plain_search.specs.declared.reached.Reached.{Reached}
use Rattle.plain_search.specs.declared.reached.Mark.{Mark}
use Rattle.plain_search.specs.Marking.{mark_of, ArePlaces}
use Rattle.road_graph.proofs.WalkLaws.{same_node}

abbrev numbers_of : List Reached → List ℕ
numbers_of rs = map (λ (r : Reached). r.node.0) rs

numbers_of-nodes : (rs : List Reached) → map (λ (n : NodeNo). n.0) (map (λ (r : Reached). r.node) rs) ≡ numbers_of rs
numbers_of-nodes [] = refl
numbers_of-nodes (r ∷ rs) = ap (λ ns. r.node.0 ∷ ns) (numbers_of-nodes rs)

abbrev nowhere : Reached
nowhere = record { node = record { 0 = 0 }; distance = 0; parent = None }

-- nodes at two places differ
apart : (done : List Reached) (marks : List Mark) → ArePlaces done marks → (i j d : ℕ) → i < j → j < length (numbers_of done) → eqb (get_or (numbers_of done) i d) (get_or (numbers_of done) j d) ≡ false
apart done marks p i j d lt below = ne_eqb _ _ (λ same. differ (sym at_i ∙ same ∙ at_j))
  where
    few : j < length done
    few = let n = length-map done (λ (r : Reached). r.node.0) in omega arith

    at_i : get_or (numbers_of done) i d ≡ (get_or done i nowhere).node.0
    at_i = get_or-map (λ (r : Reached). r.node.0) done i nowhere d (let f = few in omega arith)

    at_j : get_or (numbers_of done) j d ≡ (get_or done j nowhere).node.0
    at_j = get_or-map (λ (r : Reached). r.node.0) done j nowhere d few

    differ : (get_or done i nowhere).node.0 ≡ (get_or done j nowhere).node.0 → ⊥
    differ same =
        let a = p.marked i (get_or done i nowhere) (slice_get-get_or done i nowhere (let f = few in omega arith)) in
        let b = p.marked j (get_or done j nowhere) (slice_get-get_or done j nowhere few) in
        let m = ap (mark_of marks) (same_node same) in
        let e : i ≡ j = cc (a, b, m) in
        omega arith

pub nodes_apart : (done : List Reached) (marks : List Mark) → ArePlaces done marks → IsDistinct eqb (numbers_of done)
nodes_apart done marks p = IsDistinct-from_apart eqb (numbers_of done) (apart done marks p)

-- no node is listed twice
pub listed_once : (done : List Reached) (marks : List Mark) → ArePlaces done marks → IsSimple (map (λ (r : Reached). r.node) done)
listed_once done marks p = subst (λ (ns : List ℕ). IsDistinct eqb ns) (sym (numbers_of-nodes done)) (nodes_apart done marks p)

or_cases : (a b : Bool) → (a || b) ≡ true → (a ≡ true) ⊎ (b ≡ true)
or_cases true b h = inl refl
or_cases false b h = inr h

-- a number of the list is that of a node at some place
place_of : (rs : List Reached) (q : ℕ) → list_any (eqb q) (numbers_of rs) ≡ true → (k : ℕ) × (r : Reached) × (slice_get rs k ≡ Some r) × (q ≡ r.node.0)
place_of [] q h = cc
place_of (r ∷ rs) q h = ⊎_elim (λ e. (0, r, refl, eqb-true _ _ e)) (λ e. let p = place_of rs q e in (suc p.0, p.1, p.2, p.3)) (or_cases (eqb q r.node.0) (list_any (eqb q) (numbers_of rs)) h)

-- so the list is no longer than the nodes are many
pub few_listed : (done : List Reached) (marks : List Mark) (n : ℕ) → ArePlaces done marks → ((k : ℕ) (r : Reached) → slice_get done k ≡ Some r → r.node.0 < n) → length done ≤ n
few_listed done marks n p below =
    let few = length-le_from_distinct_below (numbers_of done) n (nodes_apart done marks p) (λ q h. let w = place_of done q h in let b = below w.0 w.1 w.2 in let e = w.3 in omega arith) in
    let same = length-map done (λ (r : Reached). r.node.0) in
    omega arith
