use Rattle.std.proofs.Common.{◌≡◌, ℕ, zero, suc, List, [], ◌∷◌, ◌++◌, length, Some, refl, ap, ◌⊎◌, inl, inr, ⊎_elim}
use Rattle.std.specs.Prelude.{slice_get}
use Rattle.std.proofs.lemmas.Option.{same_Some}

module _ {X : Type 0} where
  -- what stands in a list with one item more
  pub push_cases : (xs : List X) (last x : X) (k : ℕ) → slice_get (xs ++ last ∷ []) k ≡ Some x → (slice_get xs k ≡ Some x) ⊎ ((k ≡ length xs) × (last ≡ x))
  push_cases [] last x zero h = inr (refl, same_Some last x h)
  push_cases [] last x (suc k) h = cc
  push_cases (y ∷ ys) last x zero h = inl h
  push_cases (y ∷ ys) last x (suc k) h = ⊎_elim (λ a. inl a) (λ b. inr (ap (λ (n : ℕ). suc n) b.0, b.1)) (push_cases ys last x k h)

  -- the items before it
  pub push_before : (xs : List X) (last x : X) (k : ℕ) → slice_get xs k ≡ Some x → slice_get (xs ++ last ∷ []) k ≡ Some x
  push_before [] last x k h = cc
  push_before (y ∷ ys) last x zero h = h
  push_before (y ∷ ys) last x (suc k) h = push_before ys last x k h

  -- and itself
  pub push_last : (xs : List X) (last : X) → slice_get (xs ++ last ∷ []) (length xs) ≡ Some last
  push_last [] last = refl
  push_last (y ∷ ys) last = push_last ys last
