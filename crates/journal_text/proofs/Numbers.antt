use Rattle.std.proofs.Common.{◌≡◌, ℕ, zero, suc, ◌+◌, ◌^◌, ◌≤◌, ◌<◌, ◌==◌, Bool, true, false, not, ◌&&◌, cond, List, [], ◌∷◌, ◌++◌, length, take, drop, get_or, Option, Some, None, refl, sym, ap, ◌∙◌, arith, rules}
use Rattle.std.proofs.lemmas.Bool.Decides.{nat_tests}
use Rattle.std.proofs.lemmas.Fmt.{decimal_nonempty, decimal_digit, first_decimal, digits_decimal, digits_value-decimal, decimal-digits_value}
use Rattle.std.proofs.lemmas.Str.Parse.{IsDigitsTest, FoldsDigits, IsNumeralModel, numerals_by_fold}
use Rattle.std.proofs.lemmas.List.{take-append-drop}
use Rattle.std.proofs.Math.Seq.{take-append_seam, drop-append_seam}
use Rattle.std.proofs.lemmas.List.Sums.{prefix_len-le-length}
use Rattle.std.specs.Prelude.{nat_le, nat_lt, position}
use Rattle.std.specs.Fmt.{decimal}
use Rattle.ride_base.specs.Digits.{is_digit, are_digits, value_after, number_of}
use Rattle.journal_text.specs.LineParts.{and_then, is_no_digit, digits_ahead, has_leading_zero, plain_number_of, with_rest, number_at_front, number_ahead}

-- A number that is printed is read again, and what is read was printed so.

both : (a b : Bool) → (a && b) ≡ true → (a ≡ true) × (b ≡ true)
both true true e = (refl, refl)
both true false e = absurd cc
both false b e = absurd cc

same_some : {X : Type 0} (x y : X) → Some x ≡ Some y → x ≡ y
same_some x y e = cc

are_digits_test : IsDigitsTest (λ ds. are_digits ds ≡ true)
are_digits_test = record {
  empty = refl;
  parts = λ c cs e. let k = both (is_digit c) (are_digits cs) e in (grind (arith, nat_tests), k.1);
  more = λ c cs k e. grind (arith, nat_tests);
}

values_fold : FoldsDigits value_after
values_fold = record { empty = λ n. refl; more = λ n c cs k. refl }

pub numerals : IsNumeralModel (λ ds. are_digits ds ≡ true) (value_after 0)
numerals = numerals_by_fold (λ ds. are_digits ds ≡ true) are_digits_test value_after values_fold

none_below : (t : Bool) (n : ℕ) → None ≡ cond t (Some n) None → t ≡ false
none_below true n e = cc
none_below false n e = refl

-- where no byte is other than a digit, all are digits
pub no_other : (bytes : List ℕ) → None ≡ position is_no_digit bytes → length bytes ≡ digits_ahead bytes
no_other bytes e =
    let all : nat_lt (digits_ahead bytes) (length bytes) ≡ false = none_below (nat_lt (digits_ahead bytes) (length bytes)) (digits_ahead bytes) e in
    let less : length bytes ≤ digits_ahead bytes = grind (arith, nat_tests) in
    omega (arith, prefix_len-le-length (λ (b : ℕ). not (is_no_digit b)) bytes)

-- the bytes go on with no digit
abbrev pub begins_no_digit : List ℕ → Bool
begins_no_digit [] = true
begins_no_digit (b ∷ bs) = is_no_digit b

stops : (t : Bool) (k : ℕ) → not t ≡ true → cond (not (not t)) (1 + k) 0 ≡ 0
stops false k e = refl
stops true k e = absurd cc

passes : (t u : Bool) (k : ℕ) → (t && u) ≡ true → cond (not (not t)) (1 + k) 0 ≡ 1 + k
passes true true k e = refl
passes true false k e = absurd cc
passes false u k e = absurd cc

digits_in_front : (ds rest : List ℕ) → are_digits ds ≡ true → begins_no_digit rest ≡ true → digits_ahead (ds ++ rest) ≡ length ds
digits_in_front [] [] a e = refl
digits_in_front [] (b ∷ rest) a e = stops (is_digit b) (digits_ahead rest) e
digits_in_front (d ∷ ds) rest a e =
    let first : digits_ahead ((d ∷ ds) ++ rest) ≡ 1 + digits_ahead (ds ++ rest) = passes (is_digit d) (are_digits ds) (digits_ahead (ds ++ rest)) a in
    omega (arith, first, digits_in_front ds rest (both (is_digit d) (are_digits ds) a).1 e)

number_is : (ds : List ℕ) (limit : ℕ) → are_digits ds ≡ true → 0 < length ds → value_after 0 ds ≤ limit → number_of ds limit ≡ Some (value_after 0 ds)
number_is [] limit a some le = absurd (omega arith)
number_is (d ∷ ds) limit a some le =
    let e : nat_le (value_after 0 (d ∷ ds)) limit ≡ true = grind (arith, nat_tests) in
    rw (a, e)

no_leading_zero : (ds : List ℕ) → 48 < get_or ds 0 0 → has_leading_zero ds ≡ false
no_leading_zero [] h = refl
no_leading_zero (b ∷ []) h = refl
no_leading_zero (b ∷ next ∷ more) h = grind (arith, nat_tests)

plain_decimal : (n : ℕ) → n < 2 ^ 64 → has_leading_zero (decimal n) ≡ false
plain_decimal zero small = ap has_leading_zero (decimal_digit 0 (omega arith))
plain_decimal (suc n) small = no_leading_zero (decimal (suc n)) (first_decimal (suc n) (omega arith) small)

decimal_is_read : (n limit : ℕ) → n ≤ limit → limit < 2 ^ 64 → plain_number_of (decimal n) limit ≡ Some n
decimal_is_read n limit le small =
    let fits : n < 2 ^ 64 = omega arith in
    let value : value_after 0 (decimal n) ≡ n = digits_value-decimal numerals n fits in
    let number = number_is (decimal n) limit (digits_decimal numerals n fits) (decimal_nonempty n fits) (omega (arith, value)) in
    rw (plain_decimal n fits) (number ∙ ap (λ m. Some m) value)

-- what is printed behind a space is read again
pub printed_number : (n limit : ℕ) (rest : List ℕ) → n ≤ limit → limit < 2 ^ 64 → begins_no_digit rest ≡ true → number_ahead (32 ∷ decimal n ++ rest) limit ≡ Some (n, rest)
printed_number n limit rest le small ends =
    let at : digits_ahead (decimal n ++ rest) ≡ length (decimal n) = digits_in_front (decimal n) rest (digits_decimal numerals n (omega arith)) ends in
    rw (at, take-append_seam (decimal n) rest, drop-append_seam (decimal n) rest, decimal_is_read n limit le small)

-- what digits without a leading zero spell
pub record IsPlainNumber (digits : List ℕ) (limit n : ℕ) : Type 0 where
  pub spelled : digits ≡ decimal n
  pub within : n ≤ limit

only_digit : (ds : List ℕ) → has_leading_zero ds ≡ false → 0 < length ds → get_or ds 0 0 ≡ 48 → length ds ≡ 1
only_digit [] e some first = absurd (omega arith)
only_digit (b ∷ []) e some first = refl
only_digit (b ∷ next ∷ more) e some first = absurd (grind (arith, nat_tests))

number_was : (ds : List ℕ) (limit n : ℕ) → limit < 2 ^ 64 → has_leading_zero ds ≡ false → number_of ds limit ≡ Some n → IsPlainNumber ds limit n
number_was [] limit n small plain e = absurd (grind rules)
number_was (d ∷ ds) limit n small plain e = by (are_digits (d ∷ ds)) (nat_le (value_after 0 (d ∷ ds)) limit) refl refl e
  where
    by : (a le : Bool) → are_digits (d ∷ ds) ≡ a → nat_le (value_after 0 (d ∷ ds)) limit ≡ le → cond (a && le) (Some (value_after 0 (d ∷ ds))) None ≡ Some n → IsPlainNumber (d ∷ ds) limit n
    by true true a le e =
        let value : value_after 0 (d ∷ ds) ≡ n = cc in
        let within : value_after 0 (d ∷ ds) ≤ limit = grind (arith, nat_tests) in
        let spelled = decimal-digits_value numerals (d ∷ ds) a (omega arith) (only_digit (d ∷ ds) plain (omega arith)) (omega arith) in
        record { spelled = sym spelled ∙ ap decimal value; within = omega (arith, value) }
    by true false a le e = absurd cc
    by false le' a le e = absurd cc

plain_was : (ds : List ℕ) (limit n : ℕ) → limit < 2 ^ 64 → plain_number_of ds limit ≡ Some n → IsPlainNumber ds limit n
plain_was ds limit n small e = by (has_leading_zero ds) refl e
  where
    by : (z : Bool) → has_leading_zero ds ≡ z → cond z None (number_of ds limit) ≡ Some n → IsPlainNumber ds limit n
    by true z e = absurd cc
    by false z e = number_was ds limit n small z e

-- what is read was printed behind a space, and stands before the rest
pub record IsNumberBefore (bytes : List ℕ) (limit n : ℕ) (rest : List ℕ) : Type 0 where
  pub spelled : bytes ≡ 32 ∷ decimal n ++ rest
  pub within : n ≤ limit

front_was : (bytes : List ℕ) (limit n : ℕ) (rest : List ℕ) → limit < 2 ^ 64 → number_at_front bytes limit ≡ Some (n, rest) → (bytes ≡ decimal n ++ rest) × (n ≤ limit)
front_was bytes limit n rest small e = by (plain_number_of (take (digits_ahead bytes) bytes) limit) refl e
  where
    by : (o : Option ℕ) → plain_number_of (take (digits_ahead bytes) bytes) limit ≡ o → with_rest o (drop (digits_ahead bytes) bytes) ≡ Some (n, rest) → (bytes ≡ decimal n ++ rest) × (n ≤ limit)
    by None o e = absurd cc
    by (Some m) o e =
        let pair = same_some (m, drop (digits_ahead bytes) bytes) (n, rest) e in
        let same : m ≡ n = ap (λ (p : ℕ × List ℕ). p.0) pair in
        let rest_is : drop (digits_ahead bytes) bytes ≡ rest = ap (λ (p : ℕ × List ℕ). p.1) pair in
        let was = plain_was (take (digits_ahead bytes) bytes) limit m small o in
        (sym (take-append-drop (digits_ahead bytes) bytes) ∙ ap (λ ds. ds ++ drop (digits_ahead bytes) bytes) (was.spelled ∙ ap decimal same) ∙ ap (λ r. decimal n ++ r) rest_is, omega (arith, was.within, same))

pub number_was_printed : (bytes : List ℕ) (limit n : ℕ) (rest : List ℕ) → limit < 2 ^ 64 → number_ahead bytes limit ≡ Some (n, rest) → IsNumberBefore bytes limit n rest
number_was_printed [] limit n rest small e = absurd cc
number_was_printed (b ∷ bs) limit n rest small e = by (b == 32) refl e
  where
    by : (t : Bool) → (b == 32) ≡ t → and_then (cond t (Some bs) None) (λ (r : List ℕ). number_at_front r limit) ≡ Some (n, rest) → IsNumberBefore (b ∷ bs) limit n rest
    by true t e =
        let space : b ≡ 32 = grind (arith, nat_tests) in
        let was = front_was bs limit n rest small e in
        record { spelled = ap (λ x. x ∷ bs) space ∙ ap (λ l. 32 ∷ l) was.0; within = was.1 }
    by false t e = absurd cc
