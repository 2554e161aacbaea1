use Rattle.std.proofs.Common.{◌≡◌, ℕ, zero, suc, ◌+◌, ◌-◌, ◌<◌, ◌≤◌, List, [], ◌∷◌, ◌++◌, take, drop, length, Option, Some, refl, sym, ap, ◌∙◌, arith, add-one}
use Rattle.std.specs.Prelude.{slice_index}
use Rattle.std.specs.List.{insert}
use Rattle.road_graph.specs.declared.road.NodeNo.{NodeNo}
use Rattle.stop_schedule.specs.declared.stop.Insertion.{Insertion}
use Rattle.stop_schedule.specs.declared.stop.Stop.{Stop}
use Rattle.stop_schedule.specs.Lists.{with_legs}
use Rattle.stop_schedule.proofs.Lists.{as_together, as_apart}
use Rattle.stop_schedule.proofs.Holds.{Holds, skip_first, sooner_first, AreShorter-refl, halt_time-detour}

-- two lengths in place of length n, or one at the end
abbrev pub split : ℕ → ℕ → ℕ → List ℕ → List ℕ
split zero x y [] = x ∷ []
split zero x y (z ∷ zs) = x ∷ y ∷ zs
split (suc n) x y [] = x ∷ []
split (suc n) x y (z ∷ zs) = z ∷ split n x y zs

-- the length out of the new stop, where there is a leg that it splits
abbrev pub behind_split : ℕ → ℕ → List ℕ → List ℕ
behind_split n y [] = []
behind_split zero y (z ∷ zs) = y ∷ []
behind_split (suc n) y (z ∷ zs) = behind_split n y zs

pub legs_one : (n x y : ℕ) (zs : List ℕ) → n ≤ length zs → take n zs ++ x ∷ behind_split n y zs ++ drop (suc n) zs ≡ split n x y zs
legs_one zero x y [] l = refl
legs_one zero x y (z ∷ zs) l = refl
legs_one (suc n) x y [] l = absurd (omega arith)
legs_one (suc n) x y (z ∷ zs) l = ap (λ (ws : List ℕ). z ∷ ws) (legs_one n x y zs (omega arith))

pub legs_together : (n x y u v : ℕ) (zs : List ℕ) → n ≤ length zs → take n zs ++ x ∷ y ∷ behind_split n v zs ++ drop (suc n) zs ≡ split n x y (split n u v zs)
legs_together zero x y u v [] l = refl
legs_together zero x y u v (z ∷ zs) l = refl
legs_together (suc n) x y u v [] l = absurd (omega arith)
legs_together (suc n) x y u v (z ∷ zs) l = ap (λ (ws : List ℕ). z ∷ ws) (legs_together n x y u v zs (omega arith))

pub legs_apart : (i n j x y u v : ℕ) (zs : List ℕ) → j ≡ suc (i + n) → j ≤ length zs
    → take i zs ++ x ∷ y ∷ [] ++ take n (drop (suc i) zs) ++ u ∷ behind_split j v zs ++ drop (suc j) zs ≡ split i x y (split j u v zs)
legs_apart i n zero x y u v zs e l = absurd (omega arith)
legs_apart i n (suc j) x y u v [] e l = absurd (omega arith)
legs_apart zero n (suc j) x y u v (z ∷ zs) e l = let same : j ≡ n = omega arith in rw (sym same) (ap (λ (ws : List ℕ). x ∷ y ∷ ws) (legs_one j u v zs (omega arith)))
legs_apart (suc i) n (suc j) x y u v (z ∷ zs) e l = ap (λ (ws : List ℕ). z ∷ ws) (legs_apart i n j x y u v zs (omega arith) (omega arith))

-- the new lengths are those of one split after the other, where both stops go between the same two
pub shape_together : (zs : List ℕ) (at : Insertion) (x y u v : ℕ) → at.i ≡ at.j → at.j ≤ length zs → with_legs zs at (x ∷ y ∷ behind_split at.j v zs) ≡ split at.i x y (split at.j u v zs)
shape_together zs at x y u v e l =
    as_together zs (x ∷ y ∷ behind_split at.j v zs) at e ∙ rw (sym e) (rw (add-one at.i) (legs_together at.i x y u v zs (omega arith)))

-- and where they go apart
pub shape_apart : (zs : List ℕ) (at : Insertion) (x y u v : ℕ) → at.i < at.j → at.j ≤ length zs → with_legs zs at (x ∷ y ∷ u ∷ behind_split at.j v zs) ≡ split at.i x y (split at.j u v zs)
shape_apart zs at x y u v lt l =
    as_apart zs (x ∷ y ∷ u ∷ behind_split at.j v zs) at lt ∙ rw (add-one at.i, add-one at.j) (legs_apart at.i (at.j - at.i - 1) at.j x y u v zs (omega arith) l)

module _ (stop until : ℕ) where
  -- what holds with one stop more holds without it
  pub holds_without : (n : ℕ) (halt : Option NodeNo) (left x y : ℕ) (t : Stop) (stops : List Stop) (lengths : List ℕ) → length lengths ≡ length stops → n ≤ length stops → (n < length stops → slice_index lengths n ≤ x + y)
      → Holds stop until halt left (insert stops n t) (split n x y lengths) → Holds stop until halt left stops lengths
  holds_without zero halt left x y t [] [] many l z h = let k = h.1 in omega arith
  holds_without zero halt left x y t [] (w ∷ lengths) many l z h = absurd (omega arith)
  holds_without zero halt left x y t (s ∷ stops) [] many l z h = absurd (omega arith)
  holds_without zero halt left x y t (s ∷ stops) (w ∷ lengths) many l z h = let shorter : w ≤ x + y = z (omega arith) in skip_first stop until halt halt left left x y w t s stops lengths (omega arith) (halt_time-detour stop halt t.node s.node) h
  holds_without (suc n) halt left x y t [] lengths many l z h = absurd (omega arith)
  holds_without (suc n) halt left x y t (s ∷ stops) [] many l z h = absurd (omega arith)
  holds_without (suc n) halt left x y t (s ∷ stops) (w ∷ lengths) many l z h = (h.0, holds_without n (Some s.node) _ x y t stops lengths (omega arith) (omega arith) (λ k. z (omega arith)) h.1)

  -- The second of two new stops is taken out again: the way out of the first one is then no longer than that by way of the second.
  pub without_second : (i j : ℕ) (halt : Option NodeNo) (left x y u v w : ℕ) (p d : Stop) (stops : List Stop) (lengths : List ℕ) → length lengths ≡ length stops → i ≤ j → j ≤ length stops
      → (i < j → j < length stops → slice_index lengths j ≤ u + v) → (i < j → w ≤ y) → (i ≡ j → j < length stops → w ≤ y + v)
      → Holds stop until halt left (insert (insert stops j d) i p) (split i x y (split j u v lengths)) → Holds stop until halt left (insert stops i p) (split i x w lengths)
  without_second zero zero halt left x y u v w p d [] [] many o l far near same h = let k = h.1.1 in (h.0, omega arith)
  without_second zero zero halt left x y u v w p d [] (z ∷ lengths) many o l far near same h = absurd (omega arith)
  without_second zero zero halt left x y u v w p d (s ∷ stops) [] many o l far near same h = absurd (omega arith)
  without_second zero zero halt left x y u v w p d (s ∷ stops) (z ∷ lengths) many o l far near same h =
      let shorter : w ≤ y + v = same refl (omega arith) in
      (h.0, skip_first stop until (Some p.node) (Some p.node) _ _ y v w d s stops lengths (omega arith) (halt_time-detour stop (Some p.node) d.node s.node) h.1)
  without_second zero (suc j) halt left x y u v w p d [] lengths many o l far near same h = absurd (omega arith)
  without_second zero (suc j) halt left x y u v w p d (s ∷ stops) [] many o l far near same h = absurd (omega arith)
  without_second zero (suc j) halt left x y u v w p d (s ∷ stops) (z ∷ lengths) many o l far near same h =
      let shorter : w ≤ y = near (omega arith) in
      let same_way : Holds stop until (Some p.node) _ (s ∷ stops) (y ∷ lengths) = (h.1.0, holds_without j (Some s.node) _ u v d stops lengths (omega arith) (omega arith) (λ k. far (omega arith) (omega arith)) h.1.1) in
      (h.0, sooner_first stop until (Some p.node) (Some p.node) _ _ w y s stops lengths lengths (omega arith) (omega arith) (omega arith) (AreShorter-refl lengths) same_way)
  without_second (suc i) zero halt left x y u v w p d stops lengths many o l far near same h = absurd (omega arith)
  without_second (suc i) (suc j) halt left x y u v w p d [] lengths many o l far near same h = absurd (omega arith)
  without_second (suc i) (suc j) halt left x y u v w p d (s ∷ stops) [] many o l far near same h = absurd (omega arith)
  without_second (suc i) (suc j) halt left x y u v w p d (s ∷ stops) (z ∷ lengths) many o l far near same h =
      (h.0, without_second i j (Some s.node) _ x y u v w p d stops lengths (omega arith) (omega arith) (omega arith) (λ a b. far (omega arith) (omega arith)) (λ a. near (omega arith)) (λ a b. same (omega arith) (omega arith)) h.1)
