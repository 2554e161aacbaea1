use Rattle.std.proofs.Common.{◌≡◌, ℕ, ◌+◌, ◌-◌, ◌*◌, ◌^◌, ◌<◌, ◌≤◌, min, Bool, true, false, cond, List, [], ◌∷◌, length, drop, get_or, Some, None, refl, sym, ap, ◌∙◌, arith}
use Rattle.std.specs.Prelude.{not, ◌&&◌}
use Rattle.std.proofs.Math.Dec.{eqb-suc-zero}
use Rattle.std.proofs.lemmas.List.{at_drop_more}
use Rattle.ride_base.specs.Digits.{value_after, are_digits, is_digit}
use Rattle.ride_base.specs.Fields.{capped_of, is_number}

-- what is cut at a number stays cut with further digits
pub cut_before : (m n c : ℕ) (bs : List ℕ) → min m c ≡ min n c → min (value_after m bs) c ≡ min (value_after n bs) c
cut_before m n c [] h = h
cut_before m n c (b ∷ bs) h = cut_before (m * 10 + (b - 48)) (n * 10 + (b - 48)) c bs (grind arith)

-- one digit more
pub one_more : (bs : List ℕ) (value next i c : ℕ) → i < length bs → min (value_after value (drop i bs)) c ≡ min (value_after 0 bs) c → min next c ≡ min (value * 10 + (get_or bs i 0 - 48)) c
    → min (value_after next (drop (i + 1) bs)) c ≡ min (value_after 0 bs) c
one_more bs value next i c inside same is = cut_before next (value * 10 + (get_or bs i 0 - 48)) c (drop (i + 1) bs) is ∙ sym (ap (λ (n : ℕ). min n c) (at_drop_more (value_after value) bs i 0 inside)) ∙ same

pub one_digit : (a b c next : ℕ) → next ≡ min (min a c + b) c → min next c ≡ min (a + b) c
one_digit a b c next h = grind arith

numbered : (b : ℕ) (bs : List ℕ) → are_digits (b ∷ bs) ≡ true → is_number (b ∷ bs) ≡ true
numbered b bs h = ap (λ (t : Bool). not t && are_digits (b ∷ bs)) (eqb-suc-zero (length bs)) ∙ h

capped_by : (bs : List ℕ) (value c : ℕ) → 0 < length bs → min value c ≡ min (value_after 0 bs) c → true ≡ are_digits bs → value ≤ c → Some value ≡ cond (is_number bs) (Some (min (value_after 0 bs) c)) None
capped_by [] value c some is digits small = absurd (omega arith)
capped_by (b ∷ bs) value c some is digits small =
    let e : value ≡ min (value_after 0 (b ∷ bs)) c = omega (arith, is) in
    sym (ap (λ (t : Bool). cond t (Some (min (value_after 0 (b ∷ bs)) c)) None) (numbered b bs (sym digits)) ∙ ap Some (sym e))

pub capped_is : (bs : List ℕ) (value i : ℕ) → drop i bs ≡ [] → 0 < length bs → min (value_after value (drop i bs)) (2 ^ 64 - 1) ≡ min (value_after 0 bs) (2 ^ 64 - 1) → are_digits (drop i bs) ≡ are_digits bs → value ≤ 2 ^ 64 - 1
    → Some value ≡ capped_of bs
capped_is bs value i end some is digits small = capped_by bs value (2 ^ 64 - 1) some (rw end at is) (rw end at digits) small

more_digits : (b c : Bool) → b ≡ true → (b && c) ≡ c
more_digits true c h = refl
more_digits false c h = cc

-- a digit doesn't matter to whether digits alone are left
pub digits_more : (bs : List ℕ) (i : ℕ) → i < length bs → is_digit (get_or bs i 0) ≡ true → are_digits (drop i bs) ≡ are_digits bs → are_digits (drop (i + 1) bs) ≡ are_digits bs
digits_more bs i inside digit same = sym (more_digits (is_digit (get_or bs i 0)) (are_digits (drop (i + 1) bs)) digit) ∙ sym (at_drop_more are_digits bs i 0 inside) ∙ same
