use Rattle.std.proofs.Common.{◌≡◌, ℕ, ◌<◌, ◌≤◌, ◌⊎◌, inl, inr, false, List, [], ◌∷◌, Ordering, Less, Equal, is_lt, nat_cmp, ap, ◌∙◌, arith}
use Rattle.std.specs.List.{All, AllByRecursion}
use Rattle.std.specs.BinaryHeap.{IsUpperBound}
use Rattle.std.specs.Cmp.{nat_cmp_is}
use Rattle.std.specs.Ordering.{ordering_then}
use Rattle.std.specs.declared.cmp.Reverse.{Reverse}
use Rattle.std.proofs.lemmas.Bool.{cases_lt}
use Rattle.std.proofs.lemmas.List.Elements.{All-from_recursion}
use Rattle.upward_search.specs.declared.slope.Label.{Label}
use Rattle.upward_search.specs.Searches.{held_of, IsNoLater}

-- what isn't less in the second key is no lower
le_from_not_less : (a b : ℕ) → is_lt (nat_cmp b a) ≡ false → a ≤ b
le_from_not_less a b h = at (cases_lt b a)
  where
    at : (b < a) ⊎ (a ≤ b) → a ≤ b
    at (inl lt) = let q = ap is_lt (nat_cmp_is b a Less lt) in cc
    at (inr le) = le

no_later : (x y : Label) → is_lt (ordering_then (nat_cmp y.place x.place) (nat_cmp y.length x.length)) ≡ false → IsNoLater x y
no_later x y h = at (cases_lt x.place y.place)
  where
    same : (y.place ≡ x.place) → IsNoLater x y
    same e = let q = ap (λ o. is_lt (ordering_then o (nat_cmp y.length x.length))) (nat_cmp_is y.place x.place Equal e) in inr (e, le_from_not_less x.length y.length (q ∙ h))

    at_most : (y.place < x.place) ⊎ (x.place ≤ y.place) → y.place ≤ x.place → IsNoLater x y
    at_most (inl lt) le = let q = ap (λ o. is_lt (ordering_then o (nat_cmp y.length x.length))) (nat_cmp_is y.place x.place Less lt) in cc
    at_most (inr ge) le = same (omega arith)

    at : (x.place < y.place) ⊎ (y.place ≤ x.place) → IsNoLater x y
    at (inl lt) = inl lt
    at (inr le) = at_most (cases_lt y.place x.place) le

-- how reversed labels compare
abbrev pub by_place : Reverse Label → Reverse Label → Ordering
by_place x y = ordering_then (nat_cmp y.0.place x.0.place) (nat_cmp y.0.length x.0.length)

none_sooner : (x : Reverse Label) (ys : List (Reverse Label)) → IsUpperBound by_place x ys → AllByRecursion (IsNoLater x.0) (held_of ys)
none_sooner x [] h = tt
none_sooner x (y ∷ ys) h = (no_later x.0 y.0 h.0, none_sooner x ys h.1)

pub first_of : (x : Reverse Label) (xs : List (Reverse Label)) → IsUpperBound by_place x xs → All (IsNoLater x.0) (held_of xs)
first_of x xs h = All-from_recursion (IsNoLater x.0) (held_of xs) (none_sooner x xs h)
