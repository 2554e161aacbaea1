use Rattle.std.proofs.Common.{◌≡◌, ℕ, zero, suc, ◌+◌, ◌-◌, ◌<◌, ◌==◌, false, cond, List, [], ◌∷◌, ◌++◌, take, drop, length, map, Some, sym, refl, ap, subst, arith}
use Rattle.std.specs.Prelude.{slice_get, slice_index}
use Rattle.std.specs.List.{remove}
use Rattle.std.proofs.lemmas.Bool.{ne_eqb}
use Rattle.std.proofs.lemmas.Option.{none-some, same_Some}
use Rattle.road_graph.specs.declared.road.NodeNo.{NodeNo}
use Rattle.road_graph.specs.Paths.{Path, length_of}
use Rattle.road_graph.specs.Roads.{Roads}
use Rattle.road_graph.specs.Walks.{IsDist, IsLeastWalk}
use Rattle.stop_schedule.specs.declared.stop.Stop.{Stop}
use Rattle.stop_schedule.specs.Lists.{node_or}
use Rattle.stop_schedule.specs.Distances.{AreLeastWalks}
use Rattle.stop_removal.specs.Removals.{leg_to}
use Rattle.stop_removal.proofs.PutBack.{left_of}

-- the legs are least walks from the first node to stop after stop
abbrev pub Chained : Roads → NodeNo → List Stop → List Path → Type 0
Chained g u [] [] = Unit {0}
Chained g u [] (leg ∷ legs) = ⊥
Chained g u (s ∷ stops) [] = ⊥
Chained g u (s ∷ stops) (leg ∷ legs) = IsLeastWalk g u s.node leg × Chained g s.node stops legs

-- the node of stop k, counted from 1, after a first node
abbrev pub node_from : NodeNo → NodeNo → List Stop → ℕ → NodeNo
node_from d u stops zero = u
node_from d u stops (suc k) = node_or d (slice_get stops k)

-- from the first stop on
pub node_from-cons : (d u : NodeNo) (s : Stop) (stops : List Stop) (k : ℕ) → node_from d u (s ∷ stops) (suc k) ≡ node_from d s.node stops k
node_from-cons d u s stops zero = refl
node_from-cons d u s stops (suc k) = refl

-- the form in which a schedule says it
pub node_from_is : (d u : NodeNo) (stops : List Stop) (k : ℕ) → cond (k == 0) u (node_or d (slice_get stops (k - 1))) ≡ node_from d u stops k
node_from_is d u stops zero = refl
node_from_is d u stops (suc k) = let e : (suc k == 0) ≡ false = ne_eqb _ _ (λ (h : suc k ≡ 0). omega arith) in let m : suc k - 1 ≡ k = omega arith in rw (e, m) refl

module _ (g : Roads) where
  -- legs that are least walks by their places are chained, and the other way round
  pub chained_from : (d u : NodeNo) (stops : List Stop) (legs : List Path) → length legs ≡ length stops
      → ((k : ℕ) (leg : Path) → slice_get legs k ≡ Some leg → IsLeastWalk g (node_from d u stops k) (node_or d (slice_get stops k)) leg) → Chained g u stops legs
  chained_from d u [] [] e all = tt
  chained_from d u [] (leg ∷ legs) e all = absurd (omega arith)
  chained_from d u (s ∷ stops) [] e all = absurd (omega arith)
  chained_from d u (s ∷ stops) (leg ∷ legs) e all = (
    all 0 leg refl,
    chained_from d s.node stops legs (omega arith)
        (λ k l h. subst (λ (n : NodeNo). IsLeastWalk g n (node_or d (slice_get stops k)) l) (node_from-cons d u s stops k) (all (suc k) l h)),
  )

  pub chained_at : (d u : NodeNo) (stops : List Stop) (legs : List Path) → Chained g u stops legs
      → (k : ℕ) (leg : Path) → slice_get legs k ≡ Some leg → IsLeastWalk g (node_from d u stops k) (node_or d (slice_get stops k)) leg
  chained_at d u [] [] c k leg h = absurd (none-some leg h)
  chained_at d u [] (l ∷ legs) c k leg h = absurd c
  chained_at d u (s ∷ stops) [] c k leg h = absurd c
  chained_at d u (s ∷ stops) (l ∷ legs) c zero leg h = subst (λ (w : Path). IsLeastWalk g u s.node w) (same_Some l leg h) c.0
  chained_at d u (s ∷ stops) (l ∷ legs) c (suc k) leg h =
      subst (λ (n : NodeNo). IsLeastWalk g n (node_or d (slice_get stops k)) leg) (sym (node_from-cons d u s stops k)) (chained_at d s.node stops legs c.1 k leg h)

  -- a chain has a leg for each stop
  pub chained_many : (u : NodeNo) (stops : List Stop) (legs : List Path) → Chained g u stops legs → length legs ≡ length stops
  chained_many u [] [] c = refl
  chained_many u [] (l ∷ legs) c = absurd c
  chained_many u (s ∷ stops) [] c = absurd c
  chained_many u (s ∷ stops) (l ∷ legs) c = ap (λ (n : ℕ). suc n) (chained_many s.node stops legs c.1)

  -- and its lengths are distances
  pub chained_dist : (d u : NodeNo) (stops : List Stop) (legs : List Path) → Chained g u stops legs
      → (k : ℕ) (s : Stop) → slice_get stops k ≡ Some s → IsDist g (node_from d u stops k) s.node (slice_index (map length_of legs) k)
  chained_dist d u [] legs c k t h = absurd (none-some t h)
  chained_dist d u (s ∷ stops) [] c k t h = absurd c
  chained_dist d u (s ∷ stops) (l ∷ legs) c zero t h = subst (λ (n : Stop). IsDist g u n.node (length_of l)) (same_Some s t h) c.0.least
  chained_dist d u (s ∷ stops) (l ∷ legs) c (suc k) t h =
      subst (λ (n : NodeNo). IsDist g n t.node (slice_index (map length_of legs) k)) (sym (node_from-cons d u s stops k)) (chained_dist d s.node stops legs c.1 k t h)

  -- One stop is taken out: its two legs give way to a least walk over it, or the last leg goes.
  pub over_one : (d u : NodeNo) (stops : List Stop) (legs : List Path) (n : ℕ) (walks : List Path) → Chained g u stops legs → n < length stops
      → AreLeastWalks g (leg_to (node_from d u stops n) (slice_get stops (suc n))) walks → Chained g u (remove stops n) (take n legs ++ walks ++ drop (suc (suc n)) legs)
  over_one d u [] legs n walks c l w = absurd (omega arith)
  over_one d u (s ∷ stops) [] n walks c l w = absurd c
  over_one d u (s ∷ []) (x ∷ []) zero walks c l w = rw w tt
  over_one d u (s ∷ []) (x ∷ y ∷ legs) zero walks c l w = absurd c.1
  over_one d u (s ∷ t ∷ stops) (x ∷ []) zero walks c l w = absurd c.1
  over_one d u (s ∷ t ∷ stops) (x ∷ y ∷ legs) zero [] c l w = absurd w
  over_one d u (s ∷ t ∷ stops) (x ∷ y ∷ legs) zero (v ∷ walks) c l w = rw w.1 (w.0, c.1.1)
  over_one d u (s ∷ stops) (x ∷ legs) (suc n) walks c l w =
      (c.0, over_one d s.node stops legs n walks c.1 (omega arith) (subst (λ (m : NodeNo). AreLeastWalks g (leg_to m (slice_get stops (suc n))) walks) (node_from-cons d u s stops n) w))

  -- Two stops that follow one another are taken out: their three legs give way to a least walk over both.
  pub over_both : (d u u' : NodeNo) (stops : List Stop) (legs : List Path) (i : ℕ) (walks : List Path) → (0 < i → u' ≡ u) → Chained g u stops legs → suc i < length stops
      → AreLeastWalks g (leg_to (node_from d u' stops i) (slice_get stops (suc (suc i)))) walks → Chained g u' (left_of stops i 0 i) (take i legs ++ walks ++ drop (suc (suc (suc i))) legs)
  over_both d u u' [] legs i walks e c l w = absurd (omega arith)
  over_both d u u' (s ∷ stops) [] i walks e c l w = absurd c
  over_both d u u' (s ∷ []) (x ∷ legs) zero walks e c l w = absurd (omega arith)
  over_both d u u' (s ∷ t ∷ stops) (x ∷ []) zero walks e c l w = absurd c.1
  over_both d u u' (s ∷ t ∷ []) (x ∷ y ∷ []) zero walks e c l w = rw w tt
  over_both d u u' (s ∷ t ∷ []) (x ∷ y ∷ z ∷ legs) zero walks e c l w = absurd c.1.1
  over_both d u u' (s ∷ t ∷ r ∷ stops) (x ∷ y ∷ []) zero walks e c l w = absurd c.1.1
  over_both d u u' (s ∷ t ∷ r ∷ stops) (x ∷ y ∷ z ∷ legs) zero [] e c l w = absurd w
  over_both d u u' (s ∷ t ∷ r ∷ stops) (x ∷ y ∷ z ∷ legs) zero (v ∷ walks) e c l w = rw w.1 (w.0, c.1.1.1)
  over_both d u u' (s ∷ stops) (x ∷ legs) (suc i) walks e c l w = (
    subst (λ (n : NodeNo). IsLeastWalk g n s.node x) (sym (e (omega arith))) c.0,
    over_both d s.node s.node stops legs i walks (λ k. refl) c.1 (omega arith)
        (subst (λ (m : NodeNo). AreLeastWalks g (leg_to m (slice_get stops (suc (suc i)))) walks) (node_from-cons d u' s stops i) w),
  )

  -- the legs around two stops that don't follow one another give way to a least walk over each
  pub over_each : (d u u' : NodeNo) (stops : List Stop) (legs : List Path) (i n j : ℕ) (walks : List Path) → j ≡ i + suc n → (0 < i → u' ≡ u) → Chained g u stops legs → suc j < length stops
      → AreLeastWalks g (leg_to (node_from d u' stops i) (slice_get stops (suc i)) ++ leg_to (node_from d u' stops (suc j)) (slice_get stops (suc (suc j)))) walks
      → Chained g u' (left_of stops i (suc n) j) (take i legs ++ take 1 walks ++ take n (drop (suc (suc i)) legs) ++ drop 1 walks ++ drop (suc (suc (suc j))) legs)
  over_each d u u' [] legs i n j walks e h c l w = absurd (omega arith)
  over_each d u u' (s ∷ stops) [] i n j walks e h c l w = absurd c
  over_each d u u' (s ∷ stops) (x ∷ legs) i n zero walks e h c l w = absurd (omega arith)
  over_each d u u' (s ∷ []) (x ∷ legs) zero n (suc j) walks e h c l w = absurd (omega arith)
  over_each d u u' (s ∷ t ∷ stops) (x ∷ []) zero n (suc j) walks e h c l w = absurd c.1
  over_each d u u' (s ∷ t ∷ stops) (x ∷ y ∷ legs) zero n (suc j) [] e h c l w = absurd w
  over_each d u u' (s ∷ t ∷ stops) (x ∷ y ∷ legs) zero n (suc j) (v ∷ walks) e h c l w =
      let same : n ≡ j = omega arith in
      let next = subst (λ (m : NodeNo). AreLeastWalks g (leg_to m (slice_get stops (suc j))) walks) (node_from-cons d u' t stops j) w.1 in
      rw same (w.0, over_one d t.node stops legs j walks c.1.1 (omega arith) next)
  over_each d u u' (s ∷ stops) (x ∷ legs) (suc i) n (suc j) walks e h c l w = (
    subst (λ (m : NodeNo). IsLeastWalk g m s.node x) (sym (h (omega arith))) c.0,
    over_each d s.node s.node stops legs i n j walks (omega arith) (λ k. refl) c.1 (omega arith)
        (rw (node_from-cons d u' s stops i, node_from-cons d u' s stops (suc j)) at w),
  )
