use Rattle.std.proofs.Common.{◌≡◌, ◌≢◌, ℕ, zero, suc, ◌+◌, ◌<◌, ◌≤◌, ◌==◌, Bool, true, false, cond, eq-eqb, ne_eqb, List, [], ◌∷◌, ◌++◌, length, map, filter, sym, ap, ◌∙◌, arith, refl, subst}
use Rattle.road_graph.specs.declared.road.NodeNo.{NodeNo}
use Rattle.road_graph.proofs.WalkLaws.{same_node}
use Rattle.upward_search.specs.declared.arc.RankArc.{RankArc}
use Rattle.upward_search.specs.declared.slope.Arc.{Arc}
use Rattle.upward_search.specs.declared.slope.Label.{Label}
use Rattle.upward_search.specs.Rows.{row}
use Rattle.upward_search.specs.Climbs.{work}
use Rattle.upward_search.specs.Ladders.{Ladder, IsAt, AreApart}
use Rattle.upward_search.specs.Names.{AreListed}
use Rattle.upward_search.specs.Hierarchies.{node_at, climbing_arc, falling_arc, arcs_by, ranking_of}
use Rattle.upward_search.specs.Spaces.{arcs_out, arcs_into, climbing_arcs, falling_arcs}
use Rattle.std.proofs.lemmas.List.Sums.{sum_by-cons}
use Rattle.std.proofs.lemmas.Option.{slice_get_within}
use Rattle.upward_search.proofs.RankingOf.{node_is, at_node}

filter_append : {X : Type 0} (p : X → Bool) (xs ys : List X) → length (filter p (xs ++ ys)) ≡ length (filter p xs) + length (filter p ys)
filter_append p [] ys = omega arith
filter_append p (x ∷ xs) ys = at (p x) (filter_append p xs ys)
  where
    at : (b : Bool) → length (filter p (xs ++ ys)) ≡ length (filter p xs) + length (filter p ys) → length (cond b (x ∷ filter p (xs ++ ys)) (filter p (xs ++ ys))) ≡ length (cond b (x ∷ filter p xs) (filter p xs)) + length (filter p ys)
    at true ih = omega arith
    at false ih = ih

-- all of a row are kept, or none
filter_all : {X Y : Type 0} (p : Y → Bool) (f : X → Y) (xs : List X) → ((x : X) → p (f x) ≡ true) → length (filter p (map f xs)) ≡ length xs
filter_all p f [] h = refl
filter_all p f (x ∷ xs) h = let ih = filter_all p f xs h in ap (λ b. length (cond b (f x ∷ filter p (map f xs)) (filter p (map f xs)))) (h x) ∙ ap suc ih

filter_none : {X Y : Type 0} (p : Y → Bool) (f : X → Y) (xs : List X) → ((x : X) → p (f x) ≡ false) → length (filter p (map f xs)) ≡ 0
filter_none p f [] h = refl
filter_none p f (x ∷ xs) h = ap (λ b. length (cond b (f x ∷ filter p (map f xs)) (filter p (map f xs)))) (h x) ∙ filter_none p f xs h

module _ (key : RankArc → ℕ) (make : ℕ → Arc → RankArc) (low : ℕ → ℕ) (is : (p : ℕ) (a : Arc) → key (make p a) ≡ low p) (q : ℕ) where
  -- no arc of these rows has the key
  rows_none : (p : ℕ) (rows : List (List Arc)) → ((k : ℕ) → p ≤ k → k < p + length rows → low k ≢ q) → length (filter (λ (a : RankArc). key a == q) (arcs_by make p rows)) ≡ 0
  rows_none p [] h = refl
  rows_none p (r ∷ rows) h =
      let a = filter_append (λ (a : RankArc). key a == q) (map (make p) r) (arcs_by make (suc p) rows) in
      let b = filter_none (λ (a : RankArc). key a == q) (make p) r (λ x. ne_eqb _ _ (λ e. h p (omega arith) (omega arith) (sym (is p x) ∙ e))) in
      let c = rows_none (suc p) rows (λ k le lt. h k (omega arith) (omega arith)) in
      omega arith

  -- those of one row have it
  rows_one : (p : ℕ) (rows : List (List Arc)) (j : ℕ) → j < length rows → low (p + j) ≡ q → ((k : ℕ) → p ≤ k → k < p + length rows → low k ≡ q → k ≡ p + j) → length (filter (λ (a : RankArc). key a == q) (arcs_by make p rows)) ≡ length (row rows j)
  rows_one p [] j lt here only = absurd (omega arith)
  rows_one p (r ∷ rows) zero lt here only =
      let z : p + 0 ≡ p = omega arith in
      let a = filter_append (λ (a : RankArc). key a == q) (map (make p) r) (arcs_by make (suc p) rows) in
      let b = filter_all (λ (a : RankArc). key a == q) (make p) r (λ x. eq-eqb _ _ (is p x ∙ ap low (sym z) ∙ here)) in
      let c = rows_none (suc p) rows (λ k le lt e. let o = only k (omega arith) (omega arith) e in omega arith) in
      omega arith
  rows_one p (r ∷ rows) (suc j) lt here only =
      let z : p + suc j ≡ suc p + j = omega arith in
      let a = filter_append (λ (a : RankArc). key a == q) (map (make p) r) (arcs_by make (suc p) rows) in
      let b = filter_none (λ (a : RankArc). key a == q) (make p) r (λ x. ne_eqb _ _ (λ e. let o = only p (omega arith) (omega arith) (sym (is p x) ∙ e) in omega arith)) in
      let c = rows_one (suc p) rows j (omega arith) (ap low (sym z) ∙ here) (λ k le lt e. let o = only k (omega arith) (omega arith) e in omega arith) in
      omega arith

module _ (l : Ladder) (apart : AreApart l) where
  only_place : (k p : ℕ) (n : NodeNo) → k < length l.nodes → IsAt l p n → (node_at l.nodes k).0 ≡ n.0 → k ≡ p
  only_place k p n lt at e = apart k p n (subst (IsAt l k) (same_node e) (at_node l k lt)) at

  -- the arcs out of a node are those of its place's row
  pub out_count : length l.climbs ≡ length l.nodes → (p : ℕ) (n : NodeNo) → IsAt l p n → arcs_out (ranking_of l).climbing n ≡ length (row l.climbs p)
  out_count many p n at =
      let lt = slice_get_within l.nodes p n at in
      let z : 0 + p ≡ p = omega arith in
      rows_one (λ (a : RankArc). a.from.0) (climbing_arc l.nodes) (λ k. (node_at l.nodes k).0) (λ k a. refl) n.0 0 l.climbs p (omega arith) (ap (λ k. (node_at l.nodes k).0) z ∙ ap (λ (m : NodeNo). m.0) (node_is l.nodes p n at))
      (λ k le below e. let o = only_place k p n (omega arith) at e in omega arith)

  pub into_count : length l.falls ≡ length l.nodes → (p : ℕ) (n : NodeNo) → IsAt l p n → arcs_into (ranking_of l).falling n ≡ length (row l.falls p)
  into_count many p n at =
      let lt = slice_get_within l.nodes p n at in
      let z : 0 + p ≡ p = omega arith in
      rows_one (λ (a : RankArc). a.to.0) (falling_arc l.nodes) (λ k. (node_at l.nodes k).0) (λ k a. refl) n.0 0 l.falls p (omega arith) (ap (λ k. (node_at l.nodes k).0) z ∙ ap (λ (m : NodeNo). m.0) (node_is l.nodes p n at))
      (λ k le below e. let o = only_place k p n (omega arith) at e in omega arith)

  -- so what a search of places reads is the arcs of its nodes
  pub climbing_work : length l.climbs ≡ length l.nodes → (labels : List Label) (listed : List (NodeNo × ℕ)) → AreListed l.nodes labels listed → climbing_arcs (ranking_of l) listed ≡ work l.climbs labels
  climbing_work many [] [] a = refl
  climbing_work many [] (n ∷ ns) a = absurd a
  climbing_work many (r ∷ rs) [] a = absurd a
  climbing_work many (r ∷ rs) (n ∷ ns) a =
      let one = out_count many r.place n.0 a.0 in
      let rest = climbing_work many rs ns a.2 in
      let sum = sum_by-cons (λ (r : Label). length (row l.climbs r.place)) r rs in
      omega arith

  pub falling_work : length l.falls ≡ length l.nodes → (labels : List Label) (listed : List (NodeNo × ℕ)) → AreListed l.nodes labels listed → falling_arcs (ranking_of l) listed ≡ work l.falls labels
  falling_work many [] [] a = refl
  falling_work many [] (n ∷ ns) a = absurd a
  falling_work many (r ∷ rs) [] a = absurd a
  falling_work many (r ∷ rs) (n ∷ ns) a =
      let one = into_count many r.place n.0 a.0 in
      let rest = falling_work many rs ns a.2 in
      let sum = sum_by-cons (λ (r : Label). length (row l.falls r.place)) r rs in
      omega arith
