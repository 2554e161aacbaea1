use Rattle.std.proofs.Common.{◌≡◌, ℕ, ◌+◌, below_more, ◌<◌, ◌≤◌, ◌^◌, ◌&&◌, ◌==◌, Bool, true, false, cond, List, [], ◌∷◌, length, map, filter, get_or, slice_get, Option, Some, None, suc, zero, sym, ap, ◌∙◌, arith, refl, subst}
use Rattle.std.specs.Prelude.{nat_lt, not}
use Rattle.std.specs.List.{position_or_len}
use Rattle.std.proofs.lemmas.List.Sums.{position_or_len_is}
use Rattle.std.proofs.lemmas.Bool.{not-false, not-true, false_from_ne_true, eqb-true}
use Rattle.std.proofs.lemmas.Option.{slice_get_within, get_or_from_slice_get, slice_get-get_or}
use Rattle.std.proofs.lemmas.Bool.Decides.{nat_tests}
use Rattle.road_graph.specs.declared.road.NodeNo.{NodeNo}
use Rattle.road_graph.specs.declared.road.Road.{Road}
use Rattle.road_graph.specs.Roads.{Roads, IsNode, is_node, is_within, outs, ins, least_weight, lighter_of}
use Rattle.road_graph.specs.Limits.{most_roads}
use Rattle.road_graph.specs.Listing.{least_in}
use Rattle.road_graph.specs.declared.rows.Way.TheVariants.{Out, In}
use Rattle.road_graph.proofs.WalkLength.{joint, is_node-true}
use Rattle.road_graph.proofs.AreRows.{row_fits}
use Rattle.road_graph.specs.Graphs.{IsGraph, IsRoadOf, AreRoadsOf}
use Rattle.road_graph.specs.Faults.{first_outside}

-- what is picked from a list stood in it
pub record StoodIn {X Y : Type 0} (f : X → Y) (xs : List X) (y : Y) : Type 0 where
  pub k : ℕ
  pub x : X
  pub stands : slice_get xs k ≡ Some x
  pub is : y ≡ f x

stood_more : {X Y : Type 0} (f : X → Y) (z : X) (xs : List X) (y : Y) → StoodIn f xs y → StoodIn f (z ∷ xs) y
stood_more f z xs y s = record { k = suc s.k; x = s.x; stands = s.stands; is = s.is }

pub picked : {X Y : Type 0} (p : X → Bool) (f : X → Y) (xs : List X) (k : ℕ) (y : Y) → slice_get (map f (filter p xs)) k ≡ Some y → StoodIn f xs y
picked p f [] k y e = cc
picked p f (x ∷ xs) k y e = at_test (p x) refl k e (λ j h. picked p f xs j y h)
  where
    at_test : (b : Bool) → p x ≡ b → (k : ℕ) → slice_get (map f (cond b (x ∷ filter p xs) (filter p xs))) k ≡ Some y → ((j : ℕ) → slice_get (map f (filter p xs)) j ≡ Some y → StoodIn f xs y) → StoodIn f (x ∷ xs) y
    at_test true h zero e rest = record { k = 0; x = x; stands = refl; is = cc }
    at_test true h (suc j) e rest = stood_more f x xs y (rest j e)
    at_test false h k e rest = stood_more f x xs y (rest k e)

-- the other end of a road out of a node is a node, and its weight fits 32 bits
pub end_of_out : (g : Roads) (n : NodeNo) (k : ℕ) (x : NodeNo × ℕ) → IsGraph g → slice_get (outs g n) k ≡ Some x → IsNode g x.0 × (x.1 < 2 ^ 32)
end_of_out g n k x h e =
    let s = picked (λ (r : Road). r.from.0 == n.0) (λ (r : Road). let y : NodeNo × ℕ = (r.to, r.weight) in y) g.roads k x e in
    let r = h.each s.k s.x s.stands in
    subst (λ (y : NodeNo × ℕ). IsNode g y.0 × (y.1 < 2 ^ 32)) (sym s.is) (r.to, r.light)

-- the other end of a road into a node is a node, and its weight fits 32 bits
pub end_of_in : (g : Roads) (n : NodeNo) (k : ℕ) (x : NodeNo × ℕ) → IsGraph g → slice_get (ins g n) k ≡ Some x → IsNode g x.0 × (x.1 < 2 ^ 32)
end_of_in g n k x h e =
    let s = picked (λ (r : Road). r.to.0 == n.0) (λ (r : Road). let y : NodeNo × ℕ = (r.from, r.weight) in y) g.roads k x e in
    let r = h.each s.k s.x s.stands in
    subst (λ (y : NodeNo × ℕ). IsNode g y.0 × (y.1 < 2 ^ 32)) (sym s.is) (r.from, r.light)

-- a node that passes the test is a node
pub IsNode-true : (g : Roads) (u : NodeNo) → is_node g.nodes u ≡ true → IsNode g u
IsNode-true g u e = (grind (arith, nat_tests), grind (arith, nat_tests))

ends_within : (n : ℕ) (road : Road) → is_within n road ≡ true → (is_node n road.from ≡ true) × (is_node n road.to ≡ true)
ends_within n road e = both_true (is_node n road.from) (is_node n road.to) e
  where
    both_true : (a b : Bool) → (a && b) ≡ true → (a ≡ true) × (b ≡ true)
    both_true true b h = (refl, h)
    both_true false b h = cc

abbrev pub no_road : Road
no_road = record { from = record { 0 = 0 }; to = record { 0 = 0 }; weight = 0 }

-- the road is within so many nodes, and its weight fits 32 bits
pub record Passes (n : ℕ) (road : Road) : Type 0 where
  pub within : is_within n road ≡ true
  pub light : road.weight < 2 ^ 32

abbrev pub Passed : ℕ → List Road → ℕ → Type 0
Passed n roads i = (k : ℕ) → k < i → Passes n (get_or roads k no_road)

outside_is : (n : ℕ) (roads : List Road) (i : ℕ) → i ≤ length roads → Passed n roads i → (i < length roads → is_within n (get_or roads i no_road) ≡ false) → position_or_len (λ (r : Road). not (is_within n r)) roads ≡ i
outside_is n roads i le h out = position_or_len_is (λ (r : Road). not (is_within n r)) roads i no_road le (λ k lt. ap not (h k lt).within) (λ lt. ap not (out lt))

-- the first road that is not within
pub found_outside : (n : ℕ) (roads : List Road) (i : ℕ) → i < length roads → Passed n roads i → not (is_within n (get_or roads i no_road)) ≡ true → Some i ≡ first_outside n roads
found_outside n roads i lt h out =
    let e = outside_is n roads i (omega arith) h (λ _. not-true (is_within n (get_or roads i no_road)) out) in
    let t : nat_lt i (length roads) ≡ true = grind (arith, nat_tests) in
    sym (ap (λ z. cond (nat_lt z (length roads)) (Some z) None) e ∙ ap (λ b. cond b (Some i) None) t)

-- none is outside where all pass
pub none_outside : (n : ℕ) (roads : List Road) (i : ℕ) → length roads ≤ i → i ≤ length roads → Passed n roads i → None ≡ first_outside n roads
none_outside n roads i all le h =
    let e = outside_is n roads i le h (λ lt. absurd (omega arith)) in
    let t : nat_lt i (length roads) ≡ false = grind (arith, nat_tests) in
    sym (ap (λ z. cond (nat_lt z (length roads)) (Some z) None) e ∙ ap (λ b. cond b (Some i) None) t)

pub all_roads_of : (n : ℕ) (roads : List Road) (i : ℕ) → length roads ≤ i → Passed n roads i → AreRoadsOf (record { nodes = n; roads = roads })
all_roads_of n roads i all h = λ k road at.
    let g : Roads = record { nodes = n; roads = roads } in
    let lt = slice_get_within roads k road at in
    let p = h k (omega arith) in
    let w = ends_within n (get_or roads k no_road) p.within in
    subst (IsRoadOf g) (get_or_from_slice_get roads k road no_road at) (record { from = IsNode-true g (get_or roads k no_road).from w.0; to = IsNode-true g (get_or roads k no_road).to w.1; light = p.light })

-- the road at a place passes too
pub passed_more : (n : ℕ) (roads : List Road) (i : ℕ) → Passed n roads i → not (is_within n (get_or roads i no_road)) ≡ false → (get_or roads i no_road).weight < 2 ^ 32 → Passed n roads (i + 1)
passed_more n roads i h pass light = below_more (λ k. Passes n (get_or roads k no_road)) i h (record { within = not-false (is_within n (get_or roads i no_road)) pass; light = light })

filter_none : {X : Type 0} (p : X → Bool) (xs : List X) → ((k : ℕ) (x : X) → slice_get xs k ≡ Some x → p x ≡ false) → filter p xs ≡ []
filter_none p [] h = refl
filter_none p (x ∷ xs) h = ap (λ b. cond b (x ∷ filter p xs) (filter p xs)) (h 0 x refl) ∙ filter_none p xs (λ k y e. h (suc k) y e)

-- no road leads out of what is no node
pub outs_none : (g : Roads) (u : NodeNo) → IsGraph g → is_node g.nodes u ≡ false → outs g u ≡ []
outs_none g u h no_node = ap (map (λ (r : Road). let y : NodeNo × ℕ = (r.to, r.weight) in y)) (filter_none (λ (r : Road). r.from.0 == u.0) g.roads (λ k r at. false_from_ne_true (r.from.0 == u.0) (λ e.
    let i = h.each k r at in let is : r.from.0 ≡ u.0 = eqb-true _ _ e in let low = i.from.0 in let high = i.from.1 in
    let yes_node = is_node-true g.nodes u (omega arith) (omega arith) in cc (no_node, yes_node))))

-- no road joins what is no node
pub least_none : (g : Roads) (u v : NodeNo) → IsGraph g → is_node g.nodes u ≡ false → None ≡ least_weight g.roads u v
least_none g u v h no_node = at_weight (least_weight g.roads u v) refl
  where
    at_weight : (o : Option ℕ) → least_weight g.roads u v ≡ o → None ≡ o
    at_weight None e = refl
    at_weight (Some w) e = let j = joint g u v w h e in let yes_node = is_node-true g.nodes u j.from.0 j.from.1 in cc (no_node, yes_node)

-- the least weight among the roads out of a node
pub least_out : (g : Roads) (u v : NodeNo) → least_in (outs g u) v ≡ least_weight g.roads u v
least_out g u v = among g.roads
  where
    among : (roads : List Road) → least_in (map (λ (r : Road). let y : NodeNo × ℕ = (r.to, r.weight) in y) (filter (λ (r : Road). r.from.0 == u.0) roads)) v ≡ least_weight roads u v
    among [] = refl
    among (r ∷ rs) = at_test (r.from.0 == u.0) (among rs)
      where
        at_test : (b : Bool) → least_in (map (λ (q : Road). let y : NodeNo × ℕ = (q.to, q.weight) in y) (filter (λ (q : Road). q.from.0 == u.0) rs)) v ≡ least_weight rs u v
            → least_in (map (λ (q : Road). let y : NodeNo × ℕ = (q.to, q.weight) in y) (cond b (r ∷ filter (λ (q : Road). q.from.0 == u.0) rs) (filter (λ (q : Road). q.from.0 == u.0) rs))) v
            ≡ lighter_of (cond (b && (r.to.0 == v.0)) (Some r.weight) None) (least_weight rs u v)
        at_test true h = ap (lighter_of (cond (r.to.0 == v.0) (Some r.weight) None)) h
        at_test false h = h

pub few_outs : (g : Roads) (u : NodeNo) → IsGraph g → length (outs g u) ≤ most_roads
few_outs g u h = let a = row_fits Out g.roads u.0 in let b = h.few_roads in omega arith

pub few_ins : (g : Roads) (u : NodeNo) → IsGraph g → length (ins g u) ≤ most_roads
few_ins g u h = let a = row_fits In g.roads u.0 in let b = h.few_roads in omega arith

-- the same of the element at a place below their number
pub out_end_at : (g : Roads) (n : NodeNo) (xs : List (NodeNo × ℕ)) (k : ℕ) (d : NodeNo × ℕ) → IsGraph g → xs ≡ outs g n → k < length (outs g n) → IsNode g (get_or xs k d).0 × ((get_or xs k d).1 < 2 ^ 32)
out_end_at g n xs k d h e lt = subst (λ (ys : List (NodeNo × ℕ)). IsNode g (get_or ys k d).0 × ((get_or ys k d).1 < 2 ^ 32)) (sym e) (end_of_out g n k (get_or (outs g n) k d) h (slice_get-get_or (outs g n) k d lt))

pub in_end_at : (g : Roads) (n : NodeNo) (xs : List (NodeNo × ℕ)) (k : ℕ) (d : NodeNo × ℕ) → IsGraph g → xs ≡ ins g n → k < length (ins g n) → IsNode g (get_or xs k d).0 × ((get_or xs k d).1 < 2 ^ 32)
in_end_at g n xs k d h e lt = subst (λ (ys : List (NodeNo × ℕ)). IsNode g (get_or ys k d).0 × ((get_or ys k d).1 < 2 ^ 32)) (sym e) (end_of_in g n k (get_or (ins g n) k d) h (slice_get-get_or (ins g n) k d lt))
