use Rattle.std.proofs.Common.{◌≡◌, ℕ, zero, suc, Bool, true, false, cond, List, [], ◌∷◌, ◌++◌, take, drop, Some, refl, subst}
use Rattle.std.specs.Prelude.{slice_get, slice_set}

-- what is so of each element of a list
abbrev pub Each : {X : Type 0} → (X → Type 0) → List X → Type 0
Each {X} P xs = (k : ℕ) (x : X) → slice_get xs k ≡ Some x → P x

pub each_none : {X : Type 0} (P : X → Type 0) → Each P []
each_none P k x e = cc

pub each_more : {X : Type 0} (P : X → Type 0) (x : X) (xs : List X) → P x → Each P xs → Each P (x ∷ xs)
each_more P x xs h all zero y e = let same : x ≡ y = cc in subst P same h
each_more P x xs h all (suc k) y e = all k y e

-- the first one, and the others
pub each_first : {X : Type 0} (P : X → Type 0) (x : X) (xs : List X) → Each P (x ∷ xs) → P x
each_first P x xs all = all 0 x refl

pub each_rest : {X : Type 0} (P : X → Type 0) (x : X) (xs : List X) → Each P (x ∷ xs) → Each P xs
each_rest P x xs all k y e = all (suc k) y e

pub each_append : {X : Type 0} (P : X → Type 0) (xs ys : List X) → Each P xs → Each P ys → Each P (xs ++ ys)
each_append P [] ys h i = i
each_append P (x ∷ xs) ys h i = each_more P x (xs ++ ys) (each_first P x xs h) (each_append P xs ys (each_rest P x xs h) i)

pub each_take : {X : Type 0} (P : X → Type 0) (n : ℕ) (xs : List X) → Each P xs → Each P (take n xs)
each_take P zero xs h = each_none P
each_take P (suc n) [] h = each_none P
each_take P (suc n) (x ∷ xs) h = each_more P x (take n xs) (each_first P x xs h) (each_take P n xs (each_rest P x xs h))

pub each_drop : {X : Type 0} (P : X → Type 0) (n : ℕ) (xs : List X) → Each P xs → Each P (drop n xs)
each_drop P zero xs h = h
each_drop P (suc n) [] h = each_none P
each_drop P (suc n) (x ∷ xs) h = each_drop P n xs (each_rest P x xs h)

pub each_cond : {X : Type 0} (P : X → Type 0) (b : Bool) (xs ys : List X) → Each P xs → Each P ys → Each P (cond b xs ys)
each_cond P true xs ys h i = h
each_cond P false xs ys h i = i

pub each_set : {X : Type 0} (P : X → Type 0) (xs : List X) (i : ℕ) (y : X) → P y → Each P xs → Each P (slice_set xs i y)
each_set P [] i y h all = each_none P
each_set P (x ∷ xs) zero y h all = each_more P y xs h (each_rest P x xs all)
each_set P (x ∷ xs) (suc i) y h all = each_more P x (slice_set xs i y) (each_first P x xs all) (each_set P xs i y h (each_rest P x xs all))
