use Rattle.std.proofs.Common.{◌≡◌, ℕ, zero, suc, ◌<◌, ◌⊎◌, inl, inr, Bool, true, false, cond, List, [], ◌∷◌, length, get_or, ap, ◌∙◌, arith, refl, subst}
use Rattle.std.specs.Prelude.{Contains}
use Rattle.std.specs.List.{filter}
use Rattle.std.proofs.lemmas.List.Elements.{All-contains, All-contains_itself, All-filter, filter_passes}

-- what is in a list with one more before it
pub in_cons : {X : Type 0} (x : X) (xs : List X) (y : X) → Contains (x ∷ xs) y → (x ≡ y) ⊎ Contains xs y
in_cons x xs y h = at h.0 h.1 h.2
  where
    at : (k : ℕ) → k < length (x ∷ xs) → get_or (x ∷ xs) k y ≡ y → (x ≡ y) ⊎ Contains xs y
    at zero lt e = inl e
    at (suc k) lt e = inr (k, omega arith, e)

pub in_more : {X : Type 0} (x : X) (xs : List X) (y : X) → Contains xs y → Contains (x ∷ xs) y
in_more x xs y h = (suc h.0, (let l = h.1 in omega arith), h.2)

pub in_first : {X : Type 0} (x : X) (xs : List X) → Contains (x ∷ xs) x
in_first x xs = (0, omega arith, refl)

-- what a filter keeps
pub filter_from : {X : Type 0} (p : X → Bool) (xs : List X) (x : X) → Contains (filter p xs) x → Contains xs x × (p x ≡ true)
filter_from p xs x h = (All-contains (Contains xs) (filter p xs) x (All-filter p (Contains xs) xs (All-contains_itself xs)) h, All-contains (λ y. p y ≡ true) (filter p xs) x (filter_passes p xs) h)

pub filter_has : {X : Type 0} (p : X → Bool) (xs : List X) (x : X) → Contains xs x → p x ≡ true → Contains (filter p xs) x
filter_has p [] x h e = absurd (let l = h.1 in omega arith)
filter_has {X} p (y ∷ ys) x h e = at (λ q. filter_has p ys x q e) (in_cons y ys x h)
  where
    later : (b : Bool) → Contains (filter p ys) x → Contains (cond b (y ∷ filter p ys) (filter p ys)) x
    later true q = in_more y (filter p ys) x q
    later false q = q

    first : (b : Bool) → b ≡ true → Contains (cond b (y ∷ filter p ys) (filter p ys)) y
    first true q = in_first y (filter p ys)
    first false q = cc

    at : (Contains ys x → Contains (filter p ys) x) → (y ≡ x) ⊎ Contains ys x → Contains (filter p (y ∷ ys)) x
    at rest (inl is) = subst (λ (z : X). Contains (filter p (y ∷ ys)) z) is (first (p y) (ap p is ∙ e))
    at rest (inr q) = later (p y) (rest q)
