use Rattle.std.proofs.Common.{◌≡◌, ℕ, zero, suc, ◌+◌, ◌-◌, ◌<◌, ◌≤◌, ◌==◌, false, cond, List, [], ◌∷◌, ◌++◌, take, drop, length, Some, sym, refl, ap, subst, arith}
use Rattle.std.specs.Prelude.{slice_get}
use Rattle.std.specs.List.{insert}
use Rattle.std.proofs.lemmas.Bool.{ne_eqb}
use Rattle.road_graph.specs.declared.road.NodeNo.{NodeNo}
use Rattle.road_graph.specs.Paths.{Path}
use Rattle.road_graph.specs.Roads.{Roads}
use Rattle.road_graph.specs.Walks.{IsLeastWalk}
use Rattle.stop_schedule.specs.declared.stop.Stop.{Stop}
use Rattle.stop_schedule.specs.Lists.{node_or}
use Rattle.stop_schedule.specs.Distances.{AreLeastWalks}

-- the legs are least walks from the first node to stop after stop
abbrev pub Chained : Roads → NodeNo → List Stop → List Path → Type 0
Chained g u [] [] = Unit {0}
Chained g u [] (leg ∷ legs) = ⊥
Chained g u (s ∷ stops) [] = ⊥
Chained g u (s ∷ stops) (leg ∷ legs) = IsLeastWalk g u s.node leg × Chained g s.node stops legs

-- the node of stop k, counted from 1, after a first node
abbrev pub node_from : NodeNo → NodeNo → List Stop → ℕ → NodeNo
node_from d u stops zero = u
node_from d u stops (suc k) = node_or d (slice_get stops k)

-- from the first stop on
pub node_from-cons : (d u : NodeNo) (s : Stop) (stops : List Stop) (k : ℕ) → node_from d u (s ∷ stops) (suc k) ≡ node_from d s.node stops k
node_from-cons d u s stops zero = refl
node_from-cons d u s stops (suc k) = refl

-- the form in which a schedule says it
pub node_from_is : (d u : NodeNo) (stops : List Stop) (k : ℕ) → cond (k == 0) u (node_or d (slice_get stops (k - 1))) ≡ node_from d u stops k
node_from_is d u stops zero = refl
node_from_is d u stops (suc k) = let e : (suc k == 0) ≡ false = ne_eqb _ _ (λ (h : suc k ≡ 0). omega arith) in let m : suc k - 1 ≡ k = omega arith in rw (e, m) refl

-- legs that are least walks by their places are chained, and the other way round
pub chained_from : (g : Roads) (d u : NodeNo) (stops : List Stop) (legs : List Path) → length legs ≡ length stops
    → ((k : ℕ) (leg : Path) → slice_get legs k ≡ Some leg → IsLeastWalk g (node_from d u stops k) (node_or d (slice_get stops k)) leg) → Chained g u stops legs
chained_from g d u [] [] e all = tt
chained_from g d u [] (leg ∷ legs) e all = absurd (omega arith)
chained_from g d u (s ∷ stops) [] e all = absurd (omega arith)
chained_from g d u (s ∷ stops) (leg ∷ legs) e all = (
  all 0 leg refl,
  chained_from g d s.node stops legs (omega arith)
      (λ k l h. subst (λ (n : NodeNo). IsLeastWalk g n (node_or d (slice_get stops k)) l) (node_from-cons d u s stops k) (all (suc k) l h)),
)

-- each leg of a chain by its place
pub chained_at : (g : Roads) (d u : NodeNo) (stops : List Stop) (legs : List Path) → Chained g u stops legs
    → (k : ℕ) (leg : Path) → slice_get legs k ≡ Some leg → IsLeastWalk g (node_from d u stops k) (node_or d (slice_get stops k)) leg
chained_at g d u [] [] c k leg h = cc
chained_at g d u [] (l ∷ legs) c k leg h = absurd c
chained_at g d u (s ∷ stops) [] c k leg h = absurd c
chained_at g d u (s ∷ stops) (l ∷ legs) c zero leg h = let e : l ≡ leg = cc in subst (λ (w : Path). IsLeastWalk g u s.node w) e c.0
chained_at g d u (s ∷ stops) (l ∷ legs) c (suc k) leg h =
    subst (λ (n : NodeNo). IsLeastWalk g n (node_or d (slice_get stops k)) leg) (sym (node_from-cons d u s stops k)) (chained_at g d s.node stops legs c.1 k leg h)

-- a chain has a leg for each stop
pub chained_many : (g : Roads) (u : NodeNo) (stops : List Stop) (legs : List Path) → Chained g u stops legs → length legs ≡ length stops
chained_many g u [] [] c = refl
chained_many g u [] (l ∷ legs) c = absurd c
chained_many g u (s ∷ stops) [] c = absurd c
chained_many g u (s ∷ stops) (l ∷ legs) c = ap (λ (n : ℕ). suc n) (chained_many g s.node stops legs c.1)

-- the rest of a chain from one of its stops on
pub chained_drop : (g : Roads) (d u : NodeNo) (stops : List Stop) (legs : List Path) (k : ℕ) → k ≤ length stops → Chained g u stops legs
    → Chained g (node_from d u stops k) (drop k stops) (drop k legs)
chained_drop g d u stops legs zero h c = c
chained_drop g d u [] legs (suc k) h c = absurd (omega arith)
chained_drop g d u (s ∷ stops) [] (suc k) h c = absurd c
chained_drop g d u (s ∷ stops) (l ∷ legs) (suc k) h c =
    subst (λ (n : NodeNo). Chained g n (drop k stops) (drop k legs)) (sym (node_from-cons d u s stops k)) (chained_drop g d s.node stops legs k (omega arith) c.1)

-- from a node to the stop at one place, where there is one
abbrev pub out_of : NodeNo → List Stop → ℕ → List (NodeNo × NodeNo)
out_of v [] j = []
out_of v (s ∷ stops) zero = (v, s.node) ∷ []
out_of v (s ∷ stops) (suc j) = out_of v stops j

-- one leg gives way to the legs into and out of a new stop
pub chained_one : (g : Roads) (d u : NodeNo) (stops : List Stop) (legs : List Path) (j : ℕ) (b : Stop) (changed : List Path) → Chained g u stops legs → j ≤ length stops
    → AreLeastWalks g ((node_from d u stops j, b.node) ∷ out_of b.node stops j) changed → Chained g u (insert stops j b) (take j legs ++ changed ++ drop (suc j) legs)
chained_one g d u stops legs j b [] c h w = absurd w
chained_one g d u [] [] zero b (v ∷ []) c h w = (w.0, tt)
chained_one g d u [] [] zero b (v ∷ x ∷ more) c h w = let bad = w.1 in cc
chained_one g d u [] [] (suc j) b (v ∷ more) c h w = absurd (omega arith)
chained_one g d u [] (l ∷ legs) j b (v ∷ more) c h w = absurd c
chained_one g d u (s ∷ stops) [] j b (v ∷ more) c h w = absurd c
chained_one g d u (s ∷ stops) (l ∷ legs) zero b (v ∷ []) c h w = absurd w.1
chained_one g d u (s ∷ stops) (l ∷ legs) zero b (v ∷ x ∷ []) c h w = (w.0, (w.1.0, c.1))
chained_one g d u (s ∷ stops) (l ∷ legs) zero b (v ∷ x ∷ y ∷ more) c h w = let bad = w.1.1 in cc
chained_one g d u (s ∷ stops) (l ∷ legs) (suc j) b (v ∷ more) c h w =
    (c.0, chained_one g d s.node stops legs j b (v ∷ more) c.1 (omega arith) (subst (λ (n : NodeNo). AreLeastWalks g ((n, b.node) ∷ out_of b.node stops j) (v ∷ more)) (node_from-cons d u s stops j) w))

-- both new stops after one stop; after the place the vehicle may start from another node
pub chained_same : (g : Roads) (d u f : NodeNo) (stops : List Stop) (legs : List Path) (i : ℕ) (a b : Stop) (changed : List Path) → Chained g u stops legs → (0 < i → u ≡ f) → i ≤ length stops
    → AreLeastWalks g ((node_from d f stops i, a.node) ∷ (a.node, b.node) ∷ out_of b.node stops i) changed → Chained g f (insert (insert stops i b) i a) (take i legs ++ changed ++ drop (suc i) legs)
chained_same g d u f stops legs i a b [] c from h w = absurd w
chained_same g d u f stops legs i a b (v ∷ []) c from h w = absurd w.1
chained_same g d u f [] [] zero a b (v ∷ x ∷ []) c from h w = (w.0, (w.1.0, tt))
chained_same g d u f [] [] zero a b (v ∷ x ∷ y ∷ more) c from h w = let bad = w.1.1 in cc
chained_same g d u f [] [] (suc i) a b (v ∷ x ∷ more) c from h w = absurd (omega arith)
chained_same g d u f [] (l ∷ legs) i a b (v ∷ x ∷ more) c from h w = absurd c
chained_same g d u f (s ∷ stops) [] i a b (v ∷ x ∷ more) c from h w = absurd c
chained_same g d u f (s ∷ stops) (l ∷ legs) zero a b (v ∷ x ∷ []) c from h w = absurd w.1.1
chained_same g d u f (s ∷ stops) (l ∷ legs) zero a b (v ∷ x ∷ y ∷ []) c from h w = (w.0, (w.1.0, (w.1.1.0, c.1)))
chained_same g d u f (s ∷ stops) (l ∷ legs) zero a b (v ∷ x ∷ y ∷ z ∷ more) c from h w = let bad = w.1.1.1 in cc
chained_same g d u f (s ∷ stops) (l ∷ legs) (suc i) a b (v ∷ x ∷ more) c from h w = (
  subst (λ (n : NodeNo). IsLeastWalk g n s.node l) (from (omega arith)) c.0,
  chained_same g d s.node s.node stops legs i a b (v ∷ x ∷ more) c.1 (λ _. refl) (omega arith)
      (subst (λ (n : NodeNo). AreLeastWalks g ((n, a.node) ∷ (a.node, b.node) ∷ out_of b.node stops i) (v ∷ x ∷ more)) (node_from-cons d f s stops i) w),
)

-- the pickup after one stop and the dropoff after a later one
pub chained_apart : (g : Roads) (d u f : NodeNo) (stops : List Stop) (legs : List Path) (i n j : ℕ) (a b : Stop) (changed : List Path) → j ≡ suc (i + n)
    → Chained g u stops legs → (0 < i → u ≡ f) → j ≤ length stops
    → AreLeastWalks g ((node_from d f stops i, a.node) ∷ (a.node, node_from d f stops (suc i)) ∷ (node_from d f stops j, b.node) ∷ out_of b.node stops j) changed
    → Chained g f (insert (insert stops j b) i a) (take i legs ++ take 2 changed ++ take n (drop (suc i) legs) ++ drop 2 changed ++ drop (suc j) legs)
chained_apart g d u f stops legs i n zero a b changed e c from h w = absurd (omega arith)
chained_apart g d u f [] legs i n (suc j) a b changed e c from h w = absurd (omega arith)
chained_apart g d u f (s ∷ stops) [] i n (suc j) a b changed e c from h w = absurd c
chained_apart g d u f (s ∷ stops) (l ∷ legs) i n (suc j) a b [] e c from h w = absurd w
chained_apart g d u f (s ∷ stops) (l ∷ legs) i n (suc j) a b (v ∷ []) e c from h w = absurd w.1
chained_apart g d u f (s ∷ stops) (l ∷ legs) zero n (suc j) a b (v ∷ x ∷ more) e c from h w = (
  w.0,
  (
    w.1.0,
    subst (λ (m : ℕ). Chained g s.node (insert stops j b) (take m legs ++ more ++ drop (suc j) legs)) (let q : j ≡ n = omega arith in q)
        (chained_one g d s.node stops legs j b more c.1 (omega arith) (subst (λ (m : NodeNo). AreLeastWalks g ((m, b.node) ∷ out_of b.node stops j) more) (node_from-cons d f s stops j) w.1.1)),
  ),
)
chained_apart g d u f (s ∷ stops) (l ∷ legs) (suc i) n (suc j) a b (v ∷ x ∷ more) e c from h w = (
  subst (λ (m : NodeNo). IsLeastWalk g m s.node l) (from (omega arith)) c.0,
  chained_apart g d s.node s.node stops legs i n j a b (v ∷ x ∷ more) (omega arith) c.1 (λ _. refl) (omega arith)
      (moved _ _ _ _ _ _ (node_from-cons d f s stops i) (node_from-cons d f s stops (suc i)) (node_from-cons d f s stops j) w),
)
  where
    moved : (k k' m m' o o' : NodeNo) → k ≡ k' → m ≡ m' → o ≡ o' → AreLeastWalks g ((k, a.node) ∷ (a.node, m) ∷ (o, b.node) ∷ out_of b.node stops j) (v ∷ x ∷ more)
        → AreLeastWalks g ((k', a.node) ∷ (a.node, m') ∷ (o', b.node) ∷ out_of b.node stops j) (v ∷ x ∷ more)
    moved k k' m m' o o' p q r t = (
      subst (λ (n : NodeNo). IsLeastWalk g n a.node v) p t.0,
      (subst (λ (n : NodeNo). IsLeastWalk g a.node n x) q t.1.0, subst (λ (n : NodeNo). AreLeastWalks g ((n, b.node) ∷ out_of b.node stops j) more) r t.1.1),
    )
