use Rattle.std.proofs.Common.{◌≡◌, ℕ, ◌<◌, ◌≤◌, ◌⊎◌, inl, inr, false, List, [], ◌∷◌, Ordering, Less, is_lt, nat_cmp, ap}
use Rattle.std.specs.List.{All, AllByRecursion}
use Rattle.std.specs.BinaryHeap.{IsUpperBound}
use Rattle.std.specs.Cmp.{nat_cmp_is}
use Rattle.std.specs.declared.cmp.Reverse.{Reverse}
use Rattle.std.proofs.lemmas.Bool.{cases_lt}
use Rattle.std.proofs.lemmas.List.Elements.{All-from_recursion}
use Rattle.plain_search.specs.declared.nearest.Candidate.{Candidate}
use Rattle.plain_search.specs.Order.{held_of}

-- what isn't less is no lower
le_from_not_less : (a b : ℕ) → is_lt (nat_cmp b a) ≡ false → a ≤ b
le_from_not_less a b h = at (cases_lt b a)
  where
    at : (b < a) ⊎ (a ≤ b) → a ≤ b
    at (inl lt) = let q = ap is_lt (nat_cmp_is b a Less lt) in cc
    at (inr le) = le

-- how reversed candidates compare
abbrev pub by_distance : Reverse Candidate → Reverse Candidate → Ordering
by_distance x y = nat_cmp y.0.distance x.0.distance

-- what bounds a heap of reversed candidates is no farther than each
none_nearer : (x : Reverse Candidate) (ys : List (Reverse Candidate)) → IsUpperBound by_distance x ys → AllByRecursion (λ (c : Candidate). x.0.distance ≤ c.distance) (held_of ys)
none_nearer x [] h = tt
none_nearer x (y ∷ ys) h = (le_from_not_less x.0.distance y.0.distance h.0, none_nearer x ys h.1)

pub nearest_of : (x : Reverse Candidate) (xs : List (Reverse Candidate)) → IsUpperBound by_distance x xs → All (λ (c : Candidate). x.0.distance ≤ c.distance) (held_of xs)
nearest_of x xs h = All-from_recursion (λ (c : Candidate). x.0.distance ≤ c.distance) (held_of xs) (none_nearer x xs h)
