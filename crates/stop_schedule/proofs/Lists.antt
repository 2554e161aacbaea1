use Rattle.std.proofs.Common.{◌≡◌, ℕ, zero, suc, ◌+◌, ◌-◌, ◌<◌, ◌≤◌, ◌==◌, List, [], ◌∷◌, ◌++◌, take, drop, length, Some, Bool, true, false, cond, refl, ap, ◌∙◌, arith, length-append, length-take, length-drop, ◌≢◌}
use Rattle.std.specs.Prelude.{slice_get, nat_lt}
use Rattle.std.proofs.lemmas.Bool.{eqb-true, eqb-false, eq-eqb, ltb-false, ltb-true}
use Rattle.std.proofs.lemmas.Bool.Decides.{nat_tests}
use Rattle.road_graph.specs.declared.road.NodeNo.{NodeNo}
use Rattle.stop_schedule.specs.declared.request.Request.{Request}
use Rattle.stop_schedule.specs.declared.stop.Front.{Front}
use Rattle.stop_schedule.specs.declared.stop.Insertion.{Insertion}
use Rattle.stop_schedule.specs.declared.stop.Stop.{Stop}
use Rattle.stop_schedule.specs.Lists.{with_both, with_legs, changed_ends, node_at}

module _ {X : Type 0} where
  -- an element of the first of two lists
  pub slice_get-append_left : (xs ys : List X) (k : ℕ) → k < length xs → slice_get (xs ++ ys) k ≡ slice_get xs k
  slice_get-append_left [] ys k lt = absurd (omega arith)
  slice_get-append_left (x ∷ xs) ys zero lt = refl
  slice_get-append_left (x ∷ xs) ys (suc k) lt = slice_get-append_left xs ys k (omega arith)

  -- an element of the second of two lists
  pub slice_get-append_right : (xs ys : List X) (k l : ℕ) → k ≡ length xs + l → slice_get (xs ++ ys) k ≡ slice_get ys l
  slice_get-append_right [] ys k l e = let same : k ≡ l = omega arith in ap (slice_get ys) same
  slice_get-append_right (x ∷ xs) ys zero l e = absurd (omega arith)
  slice_get-append_right (x ∷ xs) ys (suc k) l e = slice_get-append_right xs ys k l (omega arith)

  -- an element of the front of a list
  pub slice_get-take : (n : ℕ) (xs : List X) (k : ℕ) → k < n → slice_get (take n xs) k ≡ slice_get xs k
  slice_get-take zero xs k lt = absurd (omega arith)
  slice_get-take (suc n) [] k lt = refl
  slice_get-take (suc n) (x ∷ xs) zero lt = refl
  slice_get-take (suc n) (x ∷ xs) (suc k) lt = slice_get-take n xs k (omega arith)

  -- an element of the rest of a list
  pub slice_get-drop : (n : ℕ) (xs : List X) (k l : ℕ) → l ≡ n + k → slice_get (drop n xs) k ≡ slice_get xs l
  slice_get-drop zero xs k l e = let same : k ≡ l = omega arith in ap (slice_get xs) same
  slice_get-drop (suc n) [] k l e = refl
  slice_get-drop (suc n) (x ∷ xs) k zero e = absurd (omega arith)
  slice_get-drop (suc n) (x ∷ xs) k (suc l) e = slice_get-drop n xs k l (omega arith)

  -- the front is as long as was asked, where the list is long enough
  pub length-take-within : (n : ℕ) (xs : List X) → n ≤ length xs → length (take n xs) ≡ n
  length-take-within n xs le = length-take n xs ∙ omega arith

-- two stops more
pub length-with_both : (stops : List Stop) (at : Insertion) (p d : Stop) → at.i ≤ at.j → at.j ≤ length stops → length (with_both stops at p d) ≡ length stops + 2
length-with_both stops at p d order within = simp (length-append, length-take, length-drop) (omega arith)

module _ (stops : List Stop) (at : Insertion) (p d : Stop) (order : at.i ≤ at.j) (within : at.j ≤ length stops) where
  abbrev front : List Stop
  front = take at.i stops

  abbrev middle : List Stop
  middle = take (at.j - at.i) (drop at.i stops)

  length-front : length front ≡ at.i
  length-front = length-take-within at.i stops (omega arith)

  length-middle : length middle ≡ at.j - at.i
  length-middle = length-take-within (at.j - at.i) (drop at.i stops) (omega (arith, length-drop at.i stops))

  length-to_dropoff : length (front ++ p ∷ middle) ≡ at.j + 1
  length-to_dropoff = omega (arith, length-append front (p ∷ middle), length-front, length-middle)

  -- what is before the dropoff
  to_dropoff : (k : ℕ) → k ≤ at.j → slice_get (with_both stops at p d) k ≡ slice_get (front ++ p ∷ middle) k
  to_dropoff k le = slice_get-append_left (front ++ p ∷ middle) (d ∷ drop at.j stops) k (omega (arith, length-to_dropoff))

  -- before the pickup the stops stay in their places
  pub stop_before : (k : ℕ) → k < at.i → slice_get (with_both stops at p d) k ≡ slice_get stops k
  stop_before k lt = to_dropoff k (omega arith) ∙ slice_get-append_left front (p ∷ middle) k (omega (arith, length-front)) ∙ slice_get-take at.i stops k lt

  -- the pickup follows stop i
  pub stop_pickup : slice_get (with_both stops at p d) at.i ≡ Some p
  stop_pickup = to_dropoff at.i order ∙ slice_get-append_right front (p ∷ middle) at.i 0 (omega (arith, length-front))

  -- between the pickup and the dropoff the stops are one place later
  pub stop_between : (k l : ℕ) → k ≡ l + 1 → at.i ≤ l → l < at.j → slice_get (with_both stops at p d) k ≡ slice_get stops l
  stop_between k l e low high =
      to_dropoff k (omega arith)
      ∙ slice_get-append_right front (p ∷ middle) k (suc (l - at.i)) (omega (arith, length-front))
      ∙ slice_get-take (at.j - at.i) (drop at.i stops) (l - at.i) (omega arith)
      ∙ slice_get-drop at.i stops (l - at.i) l (omega arith)

  -- the dropoff follows stop j and the pickup
  pub stop_dropoff : (k : ℕ) → k ≡ at.j + 1 → slice_get (with_both stops at p d) k ≡ Some d
  stop_dropoff k e = slice_get-append_right (front ++ p ∷ middle) (d ∷ drop at.j stops) k 0 (omega (arith, length-to_dropoff))

  -- behind the dropoff the stops are two places later
  pub stop_after : (k l : ℕ) → k ≡ l + 2 → at.j ≤ l → slice_get (with_both stops at p d) k ≡ slice_get stops l
  stop_after k l e low =
      slice_get-append_right (front ++ p ∷ middle) (d ∷ drop at.j stops) k (suc (l - at.j)) (omega (arith, length-to_dropoff))
      ∙ slice_get-drop at.j stops (l - at.j) l (omega arith)

differ : (a b : ℕ) → a < b → (a == b) ≡ false
differ a b lt = grind (arith, nat_tests)

-- how many legs an insertion changes, where there are so many stops
abbrev pub changed_count : ℕ → Insertion → ℕ
changed_count stops at = cond (at.i == at.j) 2 3 + cond (nat_lt at.j stops) 1 0

-- each changed leg has its two ends
pub length-changed_ends : (stops : List Stop) (ahead : Front) (r : Request) (at : Insertion) → length (changed_ends stops ahead r at) ≡ changed_count (length stops) at
length-changed_ends stops ahead r at =
    ends (at.i == at.j) (nat_lt at.j (length stops)) (node_at ahead stops at.i, r.pickup) (r.pickup, r.dropoff) (r.pickup, node_at ahead stops (at.i + 1)) (node_at ahead stops at.j, r.dropoff) (r.dropoff, node_at ahead stops (at.j + 1))
  where
    ends : (same more : Bool) (a b c d e : NodeNo × NodeNo) → length (a ∷ cond same (b ∷ []) (c ∷ d ∷ []) ++ cond more (e ∷ []) []) ≡ cond same 2 3 + cond more 1 0
    ends true true a b c d e = refl
    ends true false a b c d e = refl
    ends false true a b c d e = refl
    ends false false a b c d e = refl

module _ {X : Type 0} (legs changed : List X) (at : Insertion) where
  abbrev before : List X
  before = take at.i legs

  abbrev together : List X
  together = before ++ changed ++ drop (at.i + 1) legs

  abbrev to_between : List X
  to_between = before ++ take 2 changed ++ take (at.j - at.i - 1) (drop (at.i + 1) legs)

  abbrev apart : List X
  apart = to_between ++ drop 2 changed ++ drop (at.j + 1) legs

  -- where both stops go between the same two, the changed legs stand together
  pub as_together : at.i ≡ at.j → with_legs legs at changed ≡ together
  as_together e = ap (λ (b : Bool). cond b together apart) (eq-eqb at.i at.j e)

  -- and otherwise the first two stand apart from the others
  pub as_apart : at.i < at.j → with_legs legs at changed ≡ apart
  as_apart lt = ap (λ (b : Bool). cond b together apart) (differ at.i at.j lt)

  module _ (order : at.i ≤ at.j) (within : at.j ≤ length legs) (some : 2 ≤ length changed) where
    length-before : length before ≡ at.i
    length-before = length-take-within at.i legs (omega arith)

    length-between : at.i < at.j → length to_between ≡ at.j + 1
    length-between lt = simp (length-append, length-take, length-drop) (omega arith)

    -- before leg i the legs stay in their places
    pub leg_before : (k : ℕ) → k < at.i → slice_get (with_legs legs at changed) k ≡ slice_get legs k
    leg_before k lt = go (at.i == at.j) where
      kept : slice_get before k ≡ slice_get legs k
      kept = slice_get-take at.i legs k lt

      go : (b : Bool) → slice_get (cond b together apart) k ≡ slice_get legs k
      go true =
          slice_get-append_left (before ++ changed) (drop (at.i + 1) legs) k (omega (arith, length-append before changed, length-before))
          ∙ slice_get-append_left before changed k (omega (arith, length-before)) ∙ kept
      go false =
          slice_get-append_left (to_between ++ drop 2 changed) (drop (at.j + 1) legs) k (omega (arith, length-append to_between (drop 2 changed), length-append (before ++ take 2 changed) (take (at.j - at.i - 1) (drop (at.i + 1) legs)), length-append before (take 2 changed), length-before))
          ∙ slice_get-append_left to_between (drop 2 changed) k (omega (arith, length-append (before ++ take 2 changed) (take (at.j - at.i - 1) (drop (at.i + 1) legs)), length-append before (take 2 changed), length-before))
          ∙ slice_get-append_left (before ++ take 2 changed) (take (at.j - at.i - 1) (drop (at.i + 1) legs)) k (omega (arith, length-append before (take 2 changed), length-before))
          ∙ slice_get-append_left before (take 2 changed) k (omega (arith, length-before)) ∙ kept

    -- together: the changed legs from place i on
    pub leg_changed : at.i ≡ at.j → (k l : ℕ) → k ≡ at.i + l → l < length changed → slice_get (with_legs legs at changed) k ≡ slice_get changed l
    leg_changed same k l e lt =
        ap (λ (xs : List X). slice_get xs k) (as_together same)
        ∙ slice_get-append_left (before ++ changed) (drop (at.i + 1) legs) k (omega (arith, length-append before changed, length-before))
        ∙ slice_get-append_right before changed k l (omega (arith, length-before))

    -- and behind them the legs after leg i
    pub leg_behind : at.i ≡ at.j → (k l : ℕ) → k + 1 ≡ l + length changed → at.i < l → slice_get (with_legs legs at changed) k ≡ slice_get legs l
    leg_behind same k l e lt =
        ap (λ (xs : List X). slice_get xs k) (as_together same)
        ∙ slice_get-append_right (before ++ changed) (drop (at.i + 1) legs) k (l - at.i - 1) (omega (arith, length-append before changed, length-before))
        ∙ slice_get-drop (at.i + 1) legs (l - at.i - 1) l (omega arith)

    -- apart: the legs into and out of the pickup
    pub leg_pickup : at.i < at.j → (k l : ℕ) → k ≡ at.i + l → l < 2 → slice_get (with_legs legs at changed) k ≡ slice_get changed l
    leg_pickup lt k l e two =
        ap (λ (xs : List X). slice_get xs k) (as_apart lt)
        ∙ slice_get-append_left (to_between ++ drop 2 changed) (drop (at.j + 1) legs) k (omega (arith, length-append to_between (drop 2 changed), length-between lt))
        ∙ slice_get-append_left to_between (drop 2 changed) k (omega (arith, length-between lt))
        ∙ slice_get-append_left (before ++ take 2 changed) (take (at.j - at.i - 1) (drop (at.i + 1) legs)) k (omega (arith, length-append before (take 2 changed), length-before, length-take-within 2 changed some))
        ∙ slice_get-append_right before (take 2 changed) k l (omega (arith, length-before))
        ∙ slice_get-take 2 changed l two

    -- then the legs between leg i and leg j, one place later
    pub leg_between : at.i < at.j → (k l : ℕ) → k ≡ l + 1 → at.i < l → l < at.j → slice_get (with_legs legs at changed) k ≡ slice_get legs l
    leg_between lt k l e low high =
        ap (λ (xs : List X). slice_get xs k) (as_apart lt)
        ∙ slice_get-append_left (to_between ++ drop 2 changed) (drop (at.j + 1) legs) k (omega (arith, length-append to_between (drop 2 changed), length-between lt))
        ∙ slice_get-append_left to_between (drop 2 changed) k (omega (arith, length-between lt))
        ∙ slice_get-append_right (before ++ take 2 changed) (take (at.j - at.i - 1) (drop (at.i + 1) legs)) k (l - at.i - 1) (omega (arith, length-append before (take 2 changed), length-before, length-take-within 2 changed some))
        ∙ slice_get-take (at.j - at.i - 1) (drop (at.i + 1) legs) (l - at.i - 1) (omega arith)
        ∙ slice_get-drop (at.i + 1) legs (l - at.i - 1) l (omega arith)

    -- then the legs into and out of the dropoff
    pub leg_dropoff : at.i < at.j → (k l : ℕ) → k + 1 ≡ at.j + l → 2 ≤ l → l < length changed → slice_get (with_legs legs at changed) k ≡ slice_get changed l
    leg_dropoff lt k l e low high =
        ap (λ (xs : List X). slice_get xs k) (as_apart lt)
        ∙ slice_get-append_left (to_between ++ drop 2 changed) (drop (at.j + 1) legs) k (omega (arith, length-append to_between (drop 2 changed), length-between lt, length-drop 2 changed))
        ∙ slice_get-append_right to_between (drop 2 changed) k (l - 2) (omega (arith, length-between lt))
        ∙ slice_get-drop 2 changed (l - 2) l (omega arith)

    -- and behind them the legs after leg j
    pub leg_after : at.i < at.j → (k l : ℕ) → k + 2 ≡ l + length changed → at.j < l → slice_get (with_legs legs at changed) k ≡ slice_get legs l
    leg_after lt k l e low =
        ap (λ (xs : List X). slice_get xs k) (as_apart lt)
        ∙ slice_get-append_right (to_between ++ drop 2 changed) (drop (at.j + 1) legs) k (l - at.j - 1) (omega (arith, length-append to_between (drop 2 changed), length-between lt, length-drop 2 changed))
        ∙ slice_get-drop (at.j + 1) legs (l - at.j - 1) l (omega arith)

  -- two legs more
  pub length-with_legs : at.i ≤ at.j → at.j ≤ length legs → length changed ≡ changed_count (length legs) at → length (with_legs legs at changed) ≡ length legs + 2
  length-with_legs order within many =
      go (at.i == at.j) (nat_lt at.j (length legs)) (eqb-true at.i at.j) (eqb-false at.i at.j) (ltb-true at.j (length legs)) (ltb-false at.j (length legs)) many
    where
      go : (same more : Bool) → (same ≡ true → at.i ≡ at.j) → (same ≡ false → at.i ≡ at.j → ⊥) → (more ≡ true → at.j < length legs) → (more ≡ false → length legs ≤ at.j)
          → length changed ≡ cond same 2 3 + cond more 1 0 → length (cond same together apart) ≡ length legs + 2
      go true true f g h k e = let a : at.i ≡ at.j = f refl in let b : at.j < length legs = h refl in simp (length-append, length-take, length-drop) (omega arith)
      go true false f g h k e = let a : at.i ≡ at.j = f refl in let b : length legs ≤ at.j = k refl in simp (length-append, length-take, length-drop) (omega arith)
      go false true f g h k e = let a : at.i ≢ at.j = g refl in let b : at.j < length legs = h refl in simp (length-append, length-take, length-drop) (omega arith)
      go false false f g h k e = let a : at.i ≢ at.j = g refl in let b : length legs ≤ at.j = k refl in simp (length-append, length-take, length-drop) (omega arith)
