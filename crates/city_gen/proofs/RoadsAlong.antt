use Rattle.std.proofs.Common.{◌≡◌, ℕ, suc, ◌+◌, ◌*◌, ◌≤◌, Bool, true, false, cond, List, [], ◌∷◌, ◌++◌, length, Some, None, refl, sym, ap, ◌∙◌, subst, arith, append_assoc, length-append}
use Rattle.std.proofs.lemmas.List.{append-nil}
use Rattle.std.specs.Prelude.{◌&&◌, not, nat_le, nat_lt}
use Rattle.std.specs.List.{list_all, prefix_len}
use Rattle.std.proofs.lemmas.Bool.Decides.{nat_tests}
use Rattle.road_graph.specs.declared.road.Road.{Road}
use Rattle.road_graph.specs.declared.graph.BuildFault.TheVariants.{Large}
use Rattle.road_graph.specs.Faults.{fault_in, first_outside, at_road}
use Rattle.road_graph.specs.Limits.{most_roads}
use Rattle.road_graph.specs.Roads.{is_node, is_within, node}
use Rattle.city_gen.specs.Draws.{next, after}
use Rattle.city_gen.specs.Roads.{below, neighbours, neighbours_from, node_count, right_of, road, roads_along, roads_between}
use Rattle.city_gen.proofs.After.{after_front}

-- roads along two lists of pairs, one behind the other
pub roads_along-append : (x : ℕ) (ps qs : List (ℕ × ℕ))
    → roads_along x (ps ++ qs) ≡ roads_along x ps ++ roads_along (after (length ps) x) qs
unfolding after roads_along
roads_along-append x [] qs = refl
roads_along-append x (p ∷ ps) qs =
    ap (λ (rs : List Road). roads_between p x ++ rs) (roads_along-append (next x) ps qs)
    ∙ sym (append_assoc (roads_between p x) (roads_along (next x) ps) (roads_along (after (length ps) (next x)) qs))

-- What is made so far and the roads along pairs are all of them, and so with the first of the pairs made.
along_front : (made new all : List Road) (ps qs : List (ℕ × ℕ)) (x y : ℕ) → new ≡ made ++ roads_along x ps → y ≡ after (length ps) x
    → made ++ roads_along x (ps ++ qs) ≡ all → new ++ roads_along y qs ≡ all
along_front made new all ps qs x y more state h =
    let parted : roads_along x (ps ++ qs) ≡ roads_along x ps ++ roads_along (after (length ps) x) qs = roads_along-append x ps qs in
    let there : (made ++ roads_along x ps) ++ roads_along y qs ≡ made ++ (roads_along x ps ++ roads_along y qs) =
    append_assoc made (roads_along x ps) (roads_along y qs) in
    ap (λ (rs : List Road). rs ++ roads_along y qs) more ∙ there
    ∙ ap (λ z. made ++ (roads_along x ps ++ roads_along z qs)) state
    ∙ ap (λ (rs : List Road). made ++ rs) (sym parted) ∙ h

state_front : (ps qs : List (ℕ × ℕ)) (x y s : ℕ) → y ≡ after (length ps) x → after (length (ps ++ qs)) x ≡ s → after (length qs) y ≡ s
state_front ps qs x y s state h = after_front (length (ps ++ qs)) (length ps) (length qs) x y (length-append ps qs) state ∙ h

-- The roads and the state where the pairs from a node on are left, of all roads and the last state.
pub record IsLeft (made : List Road) (x many n : ℕ) (all : List Road) (last : ℕ) : Type 0 where
  pub roads : made ++ roads_along x (neighbours_from many n) ≡ all
  pub state : after (length (neighbours_from many n)) x ≡ last

neighbours_from-more : (many left n : ℕ) → many ≡ suc left
    → neighbours_from many n ≡ right_of n ++ (below n ++ neighbours_from left (n + 1))
unfolding neighbours_from
neighbours_from-more many left n e =
    ap (λ m. neighbours_from m n) e ∙ append_assoc (right_of n) (below n) (neighbours_from left (n + 1))

pub left_at_first : (made : List Road) (x : ℕ) → made ≡ []
    → IsLeft made x node_count 1 (roads_along x neighbours) (after (length neighbours) x)
unfolding neighbours
left_at_first made x none = record {
  roads = ap (λ (rs : List Road). rs ++ roads_along x (neighbours_from node_count 1)) none;
  state = refl;
}

pub left_more : (made first new all : List Road) (many left n x y z last : ℕ) → many ≡ suc left
    → first ≡ made ++ roads_along x (right_of n) → y ≡ after (length (right_of n)) x
    → new ≡ first ++ roads_along y (below n) → z ≡ after (length (below n)) y
    → IsLeft made x many n all last → IsLeft new z left (n + 1) all last
left_more made first new all many left n x y z last e right state_right down state_down h =
    let rest : List (ℕ × ℕ) = neighbours_from left (n + 1) in
    let more : neighbours_from many n ≡ right_of n ++ (below n ++ rest) = neighbours_from-more many left n e in
    let P : List (ℕ × ℕ) → Type 0 = λ ps. made ++ roads_along x ps ≡ all in
    let Q : List (ℕ × ℕ) → Type 0 = λ ps. after (length ps) x ≡ last in
    record {
      roads = along_front first new all (below n) rest y z down state_down
          (along_front made first all (right_of n) (below n ++ rest) x y right state_right (subst P more h.roads));
      state = state_front (below n) rest y z last state_down
          (state_front (right_of n) (below n ++ rest) x y last state_right (subst Q more h.state));
    }

none_left : (many n : ℕ) → many ≡ 0 → neighbours_from many n ≡ []
unfolding neighbours_from
none_left many n e = ap (λ m. neighbours_from m n) e

pub made_all : (made all : List Road) (x many n last : ℕ) → many ≡ 0 → IsLeft made x many n all last → made ≡ all
unfolding roads_along
made_all made all x many n last e h =
    let P : List (ℕ × ℕ) → Type 0 = λ ps. made ++ roads_along x ps ≡ all in
    sym (append-nil made) ∙ subst P (none_left many n e) h.roads

pub state_all : (made all : List Road) (x many n last : ℕ) → many ≡ 0 → IsLeft made x many n all last → x ≡ last
unfolding after
state_all made all x many n last e h =
    let Q : List (ℕ × ℕ) → Type 0 = λ ps. after (length ps) x ≡ last in
    subst Q (none_left many n e) h.state

-- Each pair is one of a city's nodes.
is_pair : ℕ × ℕ → Bool
is_pair p = is_within node_count (road p.0 p.1 0)

all_pairs : list_all is_pair neighbours ≡ true
unfolding is_pair neighbours neighbours_from
all_pairs = refl

neighbour_count : length neighbours ≡ 3120
unfolding neighbours neighbours_from
neighbour_count = refl

length-roads_along : (x : ℕ) (ps : List (ℕ × ℕ)) → length (roads_along x ps) ≡ 2 * length ps
unfolding roads_along
length-roads_along x [] = refl
length-roads_along x (p ∷ ps) = let e = length-roads_along (next x) ps in omega arith

-- so no road along them leaves the city
within_along : (x : ℕ) (ps : List (ℕ × ℕ)) → list_all is_pair ps ≡ true
    → prefix_len (λ (r : Road). not (not (is_within node_count r))) (roads_along x ps) ≡ length (roads_along x ps)
unfolding is_pair roads_along
within_along x [] h = refl
within_along x ((a, b) ∷ ps) h =
    by (is_node node_count (node a)) (is_node node_count (node b)) _ _ _ h (λ more. within_along (next x) ps more)
  where
    by : (from to : Bool) (rest : Bool) (n m : ℕ) → (from && to) && rest ≡ true → (rest ≡ true → n ≡ m)
        → cond (not (not (from && to))) (1 + cond (not (not (to && from))) (1 + n) 0) 0 ≡ suc (suc m)
    by true true rest n m h more = let e = more h in omega arith
    by true false rest n m h more = cc
    by false to rest n m h more = cc

none_outside : (roads : List Road)
    → prefix_len (λ (r : Road). not (not (is_within node_count r))) roads ≡ length roads → first_outside node_count roads ≡ None
none_outside roads h =
    let t : nat_lt (length roads) (length roads) ≡ false = grind (arith, nat_tests) in
    ap (λ n. cond (nat_lt n (length roads)) (Some n) None) h ∙ ap (λ b. cond b (Some (length roads)) None) t

none_wrong : (roads : List Road) → length roads ≤ most_roads → first_outside node_count roads ≡ None → fault_in node_count roads ≡ None
none_wrong roads few h =
    let t : nat_le (length roads) most_roads ≡ true = grind (arith, nat_tests) in
    ap (λ b. cond b (at_road (first_outside node_count roads)) (Some Large)) t ∙ ap at_road h

-- The roads along all pairs of neighbours are a graph's.
pub are_roads : (x : ℕ) → fault_in node_count (roads_along x neighbours) ≡ None
are_roads x =
    let many : length (roads_along x neighbours) ≡ 6240 = length-roads_along x neighbours ∙ ap (λ n. 2 * n) neighbour_count in
    none_wrong (roads_along x neighbours) (omega arith) (none_outside (roads_along x neighbours) (within_along x neighbours all_pairs))
