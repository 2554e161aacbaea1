use Rattle.std.proofs.Common.{◌≡◌, ℕ, zero, suc, ◌+◌, ◌-◌, ◌<◌, ◌≤◌, ◌⊎◌, inl, inr, List, [], ◌∷◌, ◌++◌, take, drop, length, Some, sym, refl, ap, ◌∙◌, subst, arith, append_assoc}
use Rattle.std.specs.Prelude.{slice_get}
use Rattle.std.specs.List.{insert}
use Rattle.std.proofs.lemmas.List.{take-append-le, drop-append-le, take-take, drop-take, length-take-le}
use Rattle.stop_schedule.specs.declared.stop.Insertion.{Insertion}
use Rattle.stop_schedule.specs.declared.stop.Stop.{Stop}
use Rattle.stop_schedule.specs.Lists.{with_both}

-- where an element stands after one more was put in at i
abbrev pub past : ℕ → ℕ → ℕ
past zero m = suc m
past (suc i) zero = zero
past (suc i) (suc m) = suc (past i m)

-- the order stays
pub past-lt : (i m n : ℕ) → m < n → past i m < past i n
past-lt zero m n h = omega arith
past-lt (suc i) zero zero h = absurd (omega arith)
past-lt (suc i) zero (suc n) h = omega arith
past-lt (suc i) (suc m) zero h = absurd (omega arith)
past-lt (suc i) (suc m) (suc n) h = let rest = past-lt i m n (omega arith) in omega arith

-- the place of the new one is no older one's
pub past-ne : (i m : ℕ) → past i m ≡ i → ⊥
past-ne zero m h = absurd (omega arith)
past-ne (suc i) zero h = absurd (omega arith)
past-ne (suc i) (suc m) h = past-ne i m (omega arith)

-- what stood at i or later stands one place further
pub past_from : (i m : ℕ) → i ≤ m → past i m ≡ suc m
past_from zero m h = refl
past_from (suc i) zero h = absurd (omega arith)
past_from (suc i) (suc m) h = ap (λ (k : ℕ). suc k) (past_from i m (omega arith))

-- the new one stands at its place
pub insert_there : {X : Type 0} (xs : List X) (i : ℕ) (x : X) → i ≤ length xs → slice_get (insert xs i x) i ≡ Some x
insert_there xs zero x h = refl
insert_there [] (suc i) x h = absurd (omega arith)
insert_there (y ∷ ys) (suc i) x h = insert_there ys i x (omega arith)

-- each older one is still there
pub insert_other : {X : Type 0} (xs : List X) (i : ℕ) (x : X) (m : ℕ) (s : X) → slice_get xs m ≡ Some s → slice_get (insert xs i x) (past i m) ≡ Some s
insert_other [] i x m s h = cc
insert_other (y ∷ ys) zero x m s h = h
insert_other (y ∷ ys) (suc i) x zero s h = h
insert_other (y ∷ ys) (suc i) x (suc m) s h = insert_other ys i x m s h

-- an element that stands after an insertion is the new one, or an older one
abbrev pub IsNewOrOld : {X : Type 0} → List X → ℕ → X → ℕ → X → Type 0
IsNewOrOld xs i x k s = ((k ≡ i) × (s ≡ x)) ⊎ ((m : ℕ) × (slice_get xs m ≡ Some s) × (k ≡ past i m))

-- each element after an insertion is one or the other
pub new_or_old : {X : Type 0} (xs : List X) (i : ℕ) (x : X) (k : ℕ) (s : X) → i ≤ length xs → slice_get (insert xs i x) k ≡ Some s → IsNewOrOld xs i x k s
new_or_old xs zero x zero s l h = inl (refl, cc)
new_or_old xs zero x (suc k) s l h = inr (k, h, refl)
new_or_old [] (suc i) x k s l h = absurd (omega arith)
new_or_old (y ∷ ys) (suc i) x zero s l h = inr (0, h, refl)
new_or_old (y ∷ ys) (suc i) x (suc k) s l h = on (new_or_old ys i x k s (omega arith) h)
  where
    on : IsNewOrOld ys i x k s → IsNewOrOld (y ∷ ys) (suc i) x (suc k) s
    on (inl p) = inl (ap (λ (k : ℕ). suc k) p.0, p.1)
    on (inr p) = inr (suc p.0, p.1, ap (λ (k : ℕ). suc k) p.2)

-- a pickup and a dropoff are put in one after the other
pub with_both_is : (stops : List Stop) (at : Insertion) (p d : Stop) → at.i ≤ at.j → at.j ≤ length stops → with_both stops at p d ≡ insert (insert stops at.j d) at.i p
with_both_is stops at p d h l = append_assoc (take at.i stops) (p ∷ take (at.j - at.i) (drop at.i stops)) (d ∷ drop at.j stops) ∙ joined _ _ _ _ (sym front) (sym rest)
  where
    joined : (a b c e : List Stop) → a ≡ b → c ≡ e → a ++ p ∷ c ≡ b ++ p ∷ e
    joined a b c e l r = cc

    long : at.i ≤ length (take at.j stops)
    long = let e = length-take-le at.j stops l in omega arith

    front : take at.i (insert stops at.j d) ≡ take at.i stops
    front = take-append-le at.i (take at.j stops) (d ∷ drop at.j stops) long ∙ take-take at.i at.j stops h

    middle : drop at.i (take at.j stops) ≡ take (at.j - at.i) (drop at.i stops)
    middle = subst (λ (j : ℕ). drop at.i (take j stops) ≡ take (at.j - at.i) (drop at.i stops)) (let e : at.i + (at.j - at.i) ≡ at.j = omega arith in e) (drop-take at.i (at.j - at.i) stops)

    rest : drop at.i (insert stops at.j d) ≡ take (at.j - at.i) (drop at.i stops) ++ d ∷ drop at.j stops
    rest = drop-append-le at.i (take at.j stops) (d ∷ drop at.j stops) long ∙ ap (λ (m : List Stop). m ++ d ∷ drop at.j stops) middle

-- an element within a list
pub within : {X : Type 0} (xs : List X) (k : ℕ) → k < length xs → (x : X) × (slice_get xs k ≡ Some x)
within [] k h = absurd (omega arith)
within (x ∷ xs) zero h = (x, refl)
within (x ∷ xs) (suc k) h = within xs k (omega arith)
