use Rattle.std.proofs.Common.{◌≡◌, ℕ, zero, suc, ◌+◌, ◌<◌, ◌≤◌, List, [], ◌∷◌, ◌++◌, take, drop, length, Some, refl, ap, arith}
use Rattle.std.specs.Prelude.{slice_get}
use Rattle.std.specs.List.{insert, remove}
use Rattle.std.proofs.lemmas.Option.{none-some, same_Some}
use Rattle.stop_schedule.proofs.TimeLaws.{past}

module _ {X : Type 0} where
  -- what is left of a list without two elements that have n others between them
  abbrev pub left_of : List X → (i n j : ℕ) → List X
  left_of xs i n j = take i xs ++ take n (drop (suc i) xs) ++ drop (suc (suc j)) xs

  -- an element that was taken out is put in again
  pub put_back : (xs : List X) (n : ℕ) (x : X) → slice_get xs n ≡ Some x → xs ≡ insert (remove xs n) n x
  put_back [] n x h = absurd (none-some x h)
  put_back (y ∷ xs) zero x h = ap (λ (z : X). z ∷ xs) (same_Some y x h)
  put_back (y ∷ xs) (suc n) x h = ap (λ (zs : List X). y ∷ zs) (put_back xs n x h)

  -- and so are two
  pub put_both_back : (i n j : ℕ) (xs : List X) (x y : X) → j ≡ i + n → slice_get xs i ≡ Some x → slice_get xs (suc j) ≡ Some y → xs ≡ insert (insert (left_of xs i n j) j y) i x
  put_both_back i n j [] x y e h k = absurd (none-some x h)
  put_both_back zero n j (z ∷ zs) x y e h k =
      let same : n ≡ j = omega arith in
      rw (same_Some z x h, same) (ap (λ (ws : List X). x ∷ ws) (put_back zs j y k))
  put_both_back (suc i) n zero (z ∷ zs) x y e h k = absurd (omega arith)
  put_both_back (suc i) n (suc j) (z ∷ zs) x y e h k = ap (λ (ws : List X). z ∷ ws) (put_both_back i n j zs x y (omega arith) h k)

  -- an element more moves those from its place on by one
  pub insert_there : (xs : List X) (i : ℕ) (x : X) → i ≤ length xs → slice_get (insert xs i x) i ≡ Some x
  insert_there xs zero x l = refl
  insert_there [] (suc i) x l = absurd (omega arith)
  insert_there (y ∷ xs) (suc i) x l = insert_there xs i x (omega arith)

  pub insert_past : (xs : List X) (i : ℕ) (x : X) (k : ℕ) → i ≤ length xs → slice_get (insert xs i x) (past i k) ≡ slice_get xs k
  insert_past xs zero x k l = refl
  insert_past [] (suc i) x k l = absurd (omega arith)
  insert_past (y ∷ xs) (suc i) x zero l = refl
  insert_past (y ∷ xs) (suc i) x (suc k) l = insert_past xs i x k (omega arith)

pub past_before : (i k : ℕ) → k < i → past i k ≡ k
past_before zero k l = absurd (omega arith)
past_before (suc i) zero l = refl
past_before (suc i) (suc k) l = ap (λ (n : ℕ). suc n) (past_before i k (omega arith))

pub past_from : (i k : ℕ) → i ≤ k → past i k ≡ suc k
past_from zero k l = refl
past_from (suc i) zero l = absurd (omega arith)
past_from (suc i) (suc k) l = ap (λ (n : ℕ). suc n) (past_from i k (omega arith))

pub past-lt : (i k l : ℕ) → k < l → past i k < past i l
past-lt zero k l h = omega arith
past-lt (suc i) zero zero h = absurd (omega arith)
past-lt (suc i) zero (suc l) h = omega arith
past-lt (suc i) (suc k) zero h = absurd (omega arith)
past-lt (suc i) (suc k) (suc l) h = let rest = past-lt i k l (omega arith) in omega arith

-- each place but that of the new element is one of an older one
pub past_of : (i k : ℕ) → (k ≡ i → ⊥) → (l : ℕ) × (k ≡ past i l)
past_of zero zero n = absurd (n refl)
past_of zero (suc k) n = (k, refl)
past_of (suc i) zero n = (0, refl)
past_of (suc i) (suc k) n = let rest = past_of i k (λ e. n (ap (λ (m : ℕ). suc m) e)) in (suc rest.0, ap (λ (m : ℕ). suc m) rest.1)

pub past-lt_back : (i k l : ℕ) → past i k < past i l → k < l
past-lt_back zero k l h = omega arith
past-lt_back (suc i) zero zero h = absurd (omega arith)
past-lt_back (suc i) zero (suc l) h = omega arith
past-lt_back (suc i) (suc k) zero h = absurd (omega arith)
past-lt_back (suc i) (suc k) (suc l) h = let rest = past-lt_back i k l (omega arith) in omega arith
