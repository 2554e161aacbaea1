use Rattle.std.proofs.Common.{◌≡◌, ℕ, zero, suc, ◌+◌, ◌<◌, ◌≤◌, ◌⊎◌, inl, inr, List, [], ◌∷◌, ◌++◌, length, get_or, Option, Some, sym, ap, ◌∙◌, subst, arith}
use Rattle.std.proofs.lemmas.Bool.{cases_lt}
use Rattle.std.proofs.lemmas.List.{get_or_append_left, length-append}
use Rattle.std.proofs.lemmas.List.Elements.{All-nil, All-push, All-weaker, Contains-append_left, Contains-push}
use Rattle.std.proofs.lemmas.Map.Keys.{below_from_sorted, sorted_from_strictly_increasing}
use Rattle.std.proofs.lemmas.Option.{slice_get-get_or, get_or_from_slice_get, slice_get_within}
use Rattle.std.proofs.Math.Seq.{get_or-append_seam}
use Rattle.std.specs.List.Sorted.{IsStrictlyIncreasing}
use Rattle.std.specs.Prelude.{slice_get, slice_index, All as EachOf, Contains}
use Rattle.road_graph.specs.Roads.{Roads}
use Rattle.stop_schedule.specs.declared.request.Request.{Request}
use Rattle.stop_schedule.specs.Fleets.{Car, Cars, OfCar}
use Rattle.insertion_cost.specs.declared.offer.Offer.{Offer}
use Rattle.insertion_cost.specs.OfferOrder.{IsFirstOfTwo}
use Rattle.insertion_cost.specs.Offers.{IsFirst}
use Rattle.commit_check.specs.Settled.{HoldChanged, IsFirstChanged, IsKnown, IsListedAt, changed, changed_at, changed_below}
use Rattle.commit_check.proofs.Known.{IsKnownBelow, below_more, first_where}
use Rattle.commit_check.proofs.Redone.{changed_end, changed_most, changed_round, changed_within}

-- The places of a list one after another, where all vehicles whose schedules changed stand in one of these.

-- the place behind the first k of them
abbrev pub past : List ℕ → ℕ → ℕ
past places zero = 0
past places (suc k) = suc (get_or places k 0)

read : (places : List ℕ) (k d e : ℕ) → k < length places → get_or places k d ≡ get_or places k e
read places k d e l = get_or_from_slice_get places k (get_or places k e) d (slice_get-get_or places k e l)

module _ (fleet : Cars) (base : ℕ) (places : List ℕ) (h : HoldChanged fleet base places) where
  pub place_within : (k d : ℕ) → k < length places → get_or places k d < length fleet.cars
  place_within k d l = h.within k d l

  rise : (i j d : ℕ) → i < j → j < length places → get_or places i d < get_or places j d
  rise i j d = below_from_sorted places i j d (sorted_from_strictly_increasing places h.rising)

  past_most : (k d : ℕ) → k < length places → past places k ≤ get_or places k d
  past_most zero d l = none _ where
    none : (a : ℕ) → 0 ≤ a
    none a = omega arith
  past_most (suc k) d l = let a = rise k (suc k) 0 (omega arith) l in let e = read places (suc k) 0 d l in omega arith

  pub past_within : (k : ℕ) → k ≤ length places → past places k ≤ length fleet.cars
  past_within zero l = none _ where
    none : (a : ℕ) → 0 ≤ a
    none a = omega arith
  past_within (suc k) l = let a = place_within k 0 (omega arith) in omega arith

  -- what stands among the first k is before that
  before : (x j k : ℕ) → j < k → k ≤ length places → get_or places j x ≡ x → x < past places k
  before x j zero l m e = absurd (omega arith)
  before x j (suc k) l m e = on (cases_lt j k) where
    on : (j < k) ⊎ (k ≤ j) → x < suc (get_or places k 0)
    on (inl b) = let a = rise j k x b (omega arith) in let q = read places k x 0 (omega arith) in omega arith
    on (inr b) = let same : j ≡ k = omega arith in
        let r = sym e ∙ ap (λ (i : ℕ). get_or places i x) same ∙ read places k x 0 (omega arith) in omega arith

  -- none that changed stands between two of them
  between : (x k d : ℕ) (car : Car) → k < length places → slice_get fleet.cars x ≡ Some car → base < car.stamp
      → x < get_or places k d → x < past places k
  between x k d car l stands b under = go (h.every x car stands b) where
    go : (j : ℕ) × (j < length places) × (get_or places j x ≡ x) → x < past places k
    go c = on (cases_lt c.0 k) where
      on : (c.0 < k) ⊎ (k ≤ c.0) → x < past places k
      on (inl m) = before x c.0 k m (omega arith) c.2
      on (inr m) = later (cases_lt k c.0) where
        later : (k < c.0) ⊎ (c.0 ≤ k) → x < past places k
        later (inl n) = let a = rise k c.0 x n c.1 in let q = read places k x d l in let e = c.2 in absurd (omega arith)
        later (inr n) = let same : c.0 ≡ k = omega arith in
            let r = sym c.2 ∙ ap (λ (i : ℕ). get_or places i x) same ∙ read places k x d l in absurd (omega arith)

  behind : (x : ℕ) (car : Car) → slice_get fleet.cars x ≡ Some car → base < car.stamp → x < past places (length places)
  behind x car stands b = let c = h.every x car stands b in before x c.0 (length places) c.1 (omega arith) c.2

  module _ (g : Roads) (r : Request) where
    is_changed : (o : Offer) (z : IsKnown g fleet r base [] o) → (base < z.car.stamp) ⊎ IsListedAt [] o.place → base < z.car.stamp
    is_changed o z (inl b) = b
    is_changed o z (inr b) = absurd b

    -- behind a round of the loop over them
    pub first_round : (k d : ℕ) (best at next : Option Offer) → k < length places
        → IsFirst (IsKnownBelow g fleet r base (past places k)) best
        → IsFirstChanged g fleet r base (get_or places k d) at → IsFirstOfTwo best at next
        → IsFirst (IsKnownBelow g fleet r base (past places (k + 1))) next
    first_round k d best at next l f now s = subst (λ (n : ℕ). IsFirst (IsKnownBelow g fleet r base n) next) there
        (below_more g fleet r base (get_or places k d) best at next (place_within k d l)
        (first_where (IsKnownBelow g fleet r base (past places k)) (IsKnownBelow g fleet r base (get_or places k d)) best
        (λ o z. (z.0, between o.place k d z.0.car l z.0.stands (is_changed o z.0 z.0.known) z.1))
        (λ o z. (z.0, let a = past_most k d l in let b = z.1 in omega arith)) f) now s)
      where
        there : get_or places k d + 1 ≡ past places (k + 1)
        there = let n : k + 1 ≡ suc k = omega arith in one _ _ (read places k d 0 l) ∙ ap (past places) (sym n) where
          one : (a b : ℕ) → a ≡ b → a + 1 ≡ suc b
          one a b e = omega arith

    -- in the end
    pub first_end : (k : ℕ) (best : Option Offer) → k ≤ length places → length places ≤ k
        → IsFirst (IsKnownBelow g fleet r base (past places k)) best → IsFirst (IsKnown g fleet r base []) best
    first_end k best l m f = first_where (IsKnownBelow g fleet r base (past places k)) (IsKnown g fleet r base []) best
        (λ o z. (
          z,
          let b = behind o.place z.car z.stands (is_changed o z z.known) in let e : length places ≡ k = omega arith in
              subst (λ (n : ℕ). o.place < past places n) e b,
        )) (λ o z. z.0) f

  -- how much was asked for up to the next of them
  asked_before : (k d asks old : ℕ) → k < length places → asks ≤ old + changed_below fleet base (past places k)
      → asks ≤ old + changed_below fleet base (get_or places k d)
  asked_before k d asks old l p = most _ _ p (changed_most fleet base (past places k) (get_or places k d) (past_most k d l)) where
    most : (a b : ℕ) → asks ≤ old + a → a ≤ b → asks ≤ old + b
    most a b p m = omega arith

  pub asked_within : (k d asks old new : ℕ) → k < length places → asks ≤ old + changed_below fleet base (past places k)
      → new ≤ asks + changed_at fleet base (get_or places k d) → new ≤ old + changed fleet base
  asked_within k d asks old new l p q = changed_within fleet base (get_or places k d) asks old new (place_within k d l)
      (asked_before k d asks old l p) q

  pub asked_round : (k d asks old new : ℕ) → k < length places → asks ≤ old + changed_below fleet base (past places k)
      → new ≤ asks + changed_at fleet base (get_or places k d) → new ≤ old + changed_below fleet base (past places (k + 1))
  asked_round k d asks old new l p q = subst (λ (n : ℕ). new ≤ old + changed_below fleet base n) there
      (changed_round fleet base (get_or places k d) asks old new (asked_before k d asks old l p) q)
    where
      there : get_or places k d + 1 ≡ past places (k + 1)
      there = let n : k + 1 ≡ suc k = omega arith in one _ _ (read places k d 0 l) ∙ ap (past places) (sym n) where
        one : (a b : ℕ) → a ≡ b → a + 1 ≡ suc b
        one a b e = omega arith

  pub asked_end : (k asks old : ℕ) → k ≤ length places → asks ≤ old + changed_below fleet base (past places k)
      → asks ≤ old + changed fleet base
  asked_end k asks old l p = changed_end fleet base (past places k) asks old (past_within k l) p

-- ---- the places are gathered

-- these are the places, among the first n, of all vehicles whose schedules changed
pub record AreUpTo (fleet : Cars) (base n : ℕ) (places : List ℕ) : Type 0 where
  pub rising : IsStrictlyIncreasing places
  pub before : EachOf (λ (p : ℕ). p < n) places
  pub every : (p : ℕ) (car : Car) → slice_get fleet.cars p ≡ Some car → base < car.stamp → p < n → Contains places p

pub none_up_to : (fleet : Cars) (base : ℕ) → AreUpTo fleet base 0 []
none_up_to fleet base = record {
  rising = λ k l. absurd (omega arith);
  before = All-nil (λ (p : ℕ). p < 0);
  every = λ p car stands b l. absurd (omega arith);
}

-- one more at the end
rising_push : (xs : List ℕ) (n : ℕ) → IsStrictlyIncreasing xs → EachOf (λ (p : ℕ). p < n) xs → IsStrictlyIncreasing (xs ++ n ∷ [])
rising_push xs n rising before k l = on (cases_lt (k + 1) (length xs)) where
  long : length (xs ++ n ∷ []) ≡ length xs + 1
  long = length-append xs (n ∷ [])

  on : (k + 1 < length xs) ⊎ (length xs ≤ k + 1) → slice_index (xs ++ n ∷ []) k < slice_index (xs ++ n ∷ []) (k + 1)
  on (inl b) =
      let here = get_or_append_left xs (n ∷ []) 0 k (omega arith) in
      let next = get_or_append_left xs (n ∷ []) 0 (k + 1) b in
      let less = rising k b in omega arith
  on (inr b) =
      let e = long in
      let last : k + 1 ≡ length xs = omega arith in
      let here = get_or_append_left xs (n ∷ []) 0 k (omega arith) in
      let seam = get_or-append_seam xs n [] 0 in
      let less = before k 0 (omega arith) in
      least _ _ _ here (ap (λ (i : ℕ). get_or (xs ++ n ∷ []) i 0) last ∙ seam) less
    where
      least : (a b c : ℕ) → a ≡ c → b ≡ n → c < n → a < b
      least a b c p q r = omega arith

pub more_up_to : (fleet : Cars) (base n : ℕ) (places : List ℕ) → AreUpTo fleet base n places → AreUpTo fleet base (n + 1) (places ++ n ∷ [])
more_up_to fleet base n places h = record {
  rising = rising_push places n h.rising h.before;
  before = All-push (λ (p : ℕ). p < n + 1) places n
      (All-weaker (λ (p : ℕ). p < n) (λ (p : ℕ). p < n + 1) (λ p l. (omega arith)) places h.before) (omega arith);
  every = λ p car stands b l. on p car stands b (cases_lt p n) l;
} where
  on : (p : ℕ) (car : Car) → slice_get fleet.cars p ≡ Some car → base < car.stamp → (p < n) ⊎ (n ≤ p) → p < n + 1
      → Contains (places ++ n ∷ []) p
  on p car stands b (inl m) l = Contains-append_left places (n ∷ []) p (h.every p car stands b m)
  on p car stands b (inr m) l = let same : n ≡ p = omega arith in
      subst (λ (q : ℕ). Contains (places ++ n ∷ []) q) same (Contains-push places n)

-- the next vehicle's schedule didn't change
pub same_up_to : (fleet : Cars) (base n stamp : ℕ) (places : List ℕ) → OfCar fleet n (λ (car : Car). stamp ≡ car.stamp) → (base < stamp → ⊥)
    → AreUpTo fleet base n places → AreUpTo fleet base (n + 1) places
same_up_to fleet base n stamp places is not h = record {
  rising = h.rising;
  before = All-weaker (λ (p : ℕ). p < n) (λ (p : ℕ). p < n + 1) (λ p l. (omega arith)) places h.before;
  every = λ p car stands b l. on p car stands b (cases_lt p n) l;
} where
  on : (p : ℕ) (car : Car) → slice_get fleet.cars p ≡ Some car → base < car.stamp → (p < n) ⊎ (n ≤ p) → p < n + 1 → Contains places p
  on p car stands b (inl m) l = h.every p car stands b m
  on p car stands b (inr m) l = let same : p ≡ n = omega arith in
      let e = is car (ap (slice_get fleet.cars) (sym same) ∙ stands) in absurd (not (omega arith))

pub all_up_to : (fleet : Cars) (base n : ℕ) (places : List ℕ) → n ≤ length fleet.cars → length fleet.cars ≤ n → AreUpTo fleet base n places
    → HoldChanged fleet base places
all_up_to fleet base n places l m h = record {
  rising = h.rising;
  within = All-weaker (λ (p : ℕ). p < n) (λ (p : ℕ). p < length fleet.cars) (λ p b. (omega arith)) places h.before;
  every = λ p car stands b. h.every p car stands b (let w = slice_get_within fleet.cars p car stands in omega arith);
}
