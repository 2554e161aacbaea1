use Rattle.std.proofs.Common.{◌≡◌, ℕ, ◌+◌, ◌*◌, ◌-◌, ◌≤◌, ◌<◌, Bool, true, false, ◌&&◌, cond, List, [], ◌∷◌, length, get_or, drop, Some, None, refl, sym, ◌∙◌, arith}
use Rattle.std.proofs.lemmas.List.{at_drop_more}
use Rattle.std.specs.Prelude.{nat_le}
use Rattle.std.proofs.lemmas.Bool.Decides.{nat_tests}
use Rattle.ride_base.specs.Digits.{value_after, are_digits, number_of}

-- more digits make no smaller number
pub grows : (n : ℕ) (bs : List ℕ) → n ≤ value_after n bs
grows n [] = omega arith
grows n (b ∷ bs) = omega (arith, grows (n * 10 + (b - 48)) bs)

not_le : (a b : ℕ) → b < a → nat_le a b ≡ false
not_le a b h = grind (arith, nat_tests)

neither : (d t : Bool) (x : ℕ) → t ≡ false → None ≡ cond (d && t) (Some x) None
neither true true x h = cc
neither true false x h = refl
neither false t x h = refl

-- a number above the limit is none
too_large : (bs : List ℕ) (limit n : ℕ) → limit < n → n ≤ value_after 0 bs → None ≡ number_of bs limit
too_large [] limit n lt h = refl
too_large (b ∷ bs) limit n lt h = neither (are_digits (b ∷ bs)) (nat_le (value_after 0 (b ∷ bs)) limit) (value_after 0 (b ∷ bs)) (not_le _ _ (omega arith))

-- a digit that takes the value above the limit leaves no number
pub passes : (bs : List ℕ) (limit value i : ℕ) → i < length bs → value_after value (drop i bs) ≡ value_after 0 bs → limit < value * 10 + (get_or bs i 0 - 48) → None ≡ number_of bs limit
passes bs limit value i inside same above =
    let e = sym (at_drop_more (value_after value) bs i 0 inside) ∙ same in
    let g = grows (value * 10 + (get_or bs i 0 - 48)) (drop (i + 1) bs) in
    too_large bs limit _ above (omega (arith, e, g))
