use Rattle.std.proofs.Common.{◌≡◌, ℕ, ◌+◌, ◌<◌, ◌≤◌, ◌⊎◌, inl, inr, List, length, get_or, Some, arith}
use Rattle.std.specs.Prelude.{slice_get}
use Rattle.std.proofs.lemmas.Bool.{cases_lt}
use Rattle.std.proofs.lemmas.Option.{slice_get_within, slice_get-get_or}
use Rattle.upward_search.specs.declared.slope.Label.{Label}
use Rattle.upward_search.specs.Climbs.{IsRising}
use Rattle.upward_search.specs.Places.{LacksPlace, HasPlaceAt, IsBetween}
use Rattle.upward_search.proofs.LeastSum.{rising_order}

pub between_all : (space : List Label) (p : ℕ) → IsBetween space p 0 (length space)
between_all space p = record { within = omega arith; inside = λ k r e is. (omega arith, slice_get_within space k r e) }

pub between_none : (space : List Label) (p low high : ℕ) → IsBetween space p low high → high ≤ low → LacksPlace space p
between_none space p low high b le r i is = let w = b.inside i.0 r i.1 is in let x = w.0 in let y = w.1 in omega arith

pub found_at : (space : List Label) (p m : ℕ) (d : Label) → m < length space → (get_or space m d).place ≡ p → HasPlaceAt space p m
found_at space p m d lt e = (get_or space m d, slice_get-get_or space m d lt, e)

pub between_above : (space : List Label) (p low high m : ℕ) (d : Label) → IsRising space → IsBetween space p low high → m < length space → (get_or space m d).place < p → IsBetween space p (m + 1) high
between_above space p low high m d up b lt less = record {
  within = b.within;
  inside = λ k r e is. (at k r e is (cases_lt m k), (b.inside k r e is).1);
}
  where
    at : (k : ℕ) (r : Label) → slice_get space k ≡ Some r → r.place ≡ p → (m < k) ⊎ (k ≤ m) → m + 1 ≤ k
    at k r e is (inl l) = omega arith
    at k r e is (inr le) = let o = rising_order 0 up.0 space r (get_or space m d) k m up.1 e (slice_get-get_or space m d lt) le in absurd (omega arith)

pub between_below : (space : List Label) (p low high m : ℕ) (d : Label) → IsRising space → IsBetween space p low high → m < high → p < (get_or space m d).place → IsBetween space p low m
between_below space p low high m d up b lt less = record {
  within = (let w = b.within in omega arith);
  inside = λ k r e is. ((b.inside k r e is).0, at k r e is (cases_lt k m));
}
  where
    at : (k : ℕ) (r : Label) → slice_get space k ≡ Some r → r.place ≡ p → (k < m) ⊎ (m ≤ k) → k < m
    at k r e is (inl l) = l
    at k r e is (inr le) =
        let w : m < length space = (let v = b.within in omega arith) in
        let o = rising_order 0 up.0 space (get_or space m d) r m k up.1 (slice_get-get_or space m d w) e le in
        absurd (omega arith)
