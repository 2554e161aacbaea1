use Rattle.std.proofs.Common.{◌≡◌, ℕ, ◌*◌, ◌^◌, ◌≤◌, ◌<◌, ◌==◌, Bool, true, false, ◌&&◌, cond, List, [], ◌∷◌, ◌++◌, length, Option, Some, None, refl, sym, ap, ◌∙◌, append_assoc, length-append, arith}
use Rattle.std.proofs.lemmas.Bool.Decides.{nat_tests}
use Rattle.std.proofs.lemmas.Fmt.{digits_decimal, length-decimal-le}
use Rattle.std.specs.Prelude.{nat_le}
use Rattle.std.specs.Fmt.{decimal}
use Rattle.ride_base.specs.Digits.{is_digit, are_digits}
use Rattle.journal_text.specs.Groups.{spaced}
use Rattle.journal_text.specs.LineParts.{and_then, number_ahead, behind_space_of}
use Rattle.journal_text.specs.LineHeads.{at_end}
use Rattle.journal_text.proofs.Numbers.{numerals, number_was_printed}

-- What the parts of a line that was read were spelled like.

pub both : (a b : Bool) → (a && b) ≡ true → (a ≡ true) × (b ≡ true)
both true true e = (refl, refl)
both true false e = absurd cc
both false b e = absurd cc

pub both_hold : (a b : Bool) → a ≡ true → b ≡ true → (a && b) ≡ true
both_hold true true e f = refl
both_hold true false e f = f
both_hold false b e f = e

pub le_holds : (m n : ℕ) → m ≤ n → nat_le m n ≡ true
le_holds m n h = grind (arith, nat_tests)

pub le_from : (m n : ℕ) → nat_le m n ≡ true → m ≤ n
le_from m n h = grind (arith, nat_tests)

pub same_value : {X : Type 0} (x y : X) → Some x ≡ Some y → x ≡ y
same_value x y e = cc

pub no_value : {X A : Type 0} (x : X) → None ≡ Some x → A
no_value x e = absurd cc

-- no byte is a line end or another control byte
abbrev pub is_clean : List ℕ → Bool
is_clean [] = true
is_clean (b ∷ bs) = nat_le 32 b && is_clean bs

pub clean_append : (xs ys : List ℕ) → is_clean xs ≡ true → is_clean ys ≡ true → is_clean (xs ++ ys) ≡ true
clean_append [] ys e f = f
clean_append (x ∷ xs) ys e f =
    let parts = both (nat_le 32 x) (is_clean xs) e in
    both_hold (nat_le 32 x) (is_clean (xs ++ ys)) parts.0 (clean_append xs ys parts.1 f)

digits_are_clean : (ds : List ℕ) → are_digits ds ≡ true → is_clean ds ≡ true
digits_are_clean [] e = refl
digits_are_clean (d ∷ ds) e =
    let parts = both (is_digit d) (are_digits ds) e in
    let low = both (nat_le 48 d) (nat_le d 57) parts.0 in
    both_hold (nat_le 32 d) (is_clean ds) (grind (arith, nat_tests)) (digits_are_clean ds parts.1)

pub clean_decimal : (n : ℕ) → n < 2 ^ 64 → is_clean (decimal n) ≡ true
clean_decimal n small = digits_are_clean (decimal n) (digits_decimal numerals n small)

-- these bytes are numbers, each behind a space
pub record IsSpaced (bytes numbers : List ℕ) : Type 0 where
  pub spelled : bytes ≡ spaced numbers
  pub clean : is_clean bytes ≡ true
  pub short : length bytes ≤ 21 * length numbers

-- no number of 64 bits has more than 20 digits
pub short_decimal : (n : ℕ) → n < 2 ^ 64 → length (decimal n) ≤ 20
short_decimal n small = length-decimal-le 20 n (omega arith) (omega (arith, small)) small

pub spaced_end : (bytes : List ℕ) → bytes ≡ [] → IsSpaced bytes []
spaced_end bytes e = record { spelled = e; clean = ap is_clean e; short = omega (arith, ap length e) }

pub spaced_more : (bytes behind : List ℕ) (n limit : ℕ) (ns : List ℕ) → bytes ≡ 32 ∷ decimal n ++ behind → n ≤ limit → limit < 2 ^ 64 → IsSpaced behind ns → IsSpaced bytes (n ∷ ns)
spaced_more bytes behind n limit ns e le small more = record {
  spelled = e ∙ ap (λ r. 32 ∷ decimal n ++ r) more.spelled;
  clean = ap is_clean e ∙ clean_append (decimal n) behind (clean_decimal n (omega arith)) more.clean;
  short = omega (arith, ap length e, length-append (32 ∷ decimal n) behind, short_decimal n (omega arith), more.short);
}

pub spaced_append : (ms ns : List ℕ) → spaced (ms ++ ns) ≡ spaced ms ++ spaced ns
spaced_append [] ns = refl
spaced_append (m ∷ ms) ns = ap (λ l. 32 ∷ decimal m ++ l) (spaced_append ms ns) ∙ sym (append_assoc (32 ∷ decimal m) (spaced ms) (spaced ns))

pub clean_spaced_one : (n : ℕ) (rest : List ℕ) → n < 2 ^ 64 → is_clean rest ≡ true → is_clean (32 ∷ decimal n ++ rest) ≡ true
clean_spaced_one n rest small e = clean_append (decimal n) rest (clean_decimal n small) e

-- A part that was read, and what came of it.
pub record WasThen {X Y : Type 0} (o : Option X) (next : X → Option Y) (y : Y) : Type 0 where
  pub value : X
  pub was : o ≡ Some value
  pub gave : next value ≡ Some y

pub was_then : {X Y : Type 0} (o : Option X) (next : X → Option Y) (y : Y) → and_then o next ≡ Some y → WasThen o next y
was_then None next y e = absurd cc
was_then (Some x) next y e = record { value = x; was = refl; gave = e }

-- a number that was read, and what came of it and of what stands behind it
pub record WasNumber {Y : Type 0} (bytes : List ℕ) (limit : ℕ) (next : (ℕ × List ℕ) → Option Y) (y : Y) : Type 0 where
  pub number : ℕ
  pub behind : List ℕ
  pub spelled : bytes ≡ 32 ∷ decimal number ++ behind
  pub within : number ≤ limit
  pub gave : next (number, behind) ≡ Some y

pub was_number : {Y : Type 0} (bytes : List ℕ) (limit : ℕ) (next : (ℕ × List ℕ) → Option Y) (y : Y) → limit < 2 ^ 64 → and_then (number_ahead bytes limit) next ≡ Some y → WasNumber bytes limit next y
was_number bytes limit next y small e =
    let part = was_then (number_ahead bytes limit) next y e in
    let was = number_was_printed bytes limit part.value.0 part.value.1 small part.was in
    record { number = part.value.0; behind = part.value.1; spelled = was.spelled; within = was.within; gave = part.gave }

pub was_end : {X : Type 0} (x : X) (bytes : List ℕ) (y : X) → at_end x bytes ≡ Some y → (bytes ≡ []) × (x ≡ y)
was_end x [] y e = (refl, same_value x y e)
was_end x (b ∷ bs) y e = absurd cc

pub was_if : {X : Type 0} (t : Bool) (o : Option X) (y : X) → cond t o None ≡ Some y → (t ≡ true) × (o ≡ Some y)
was_if true o y e = (refl, e)
was_if false o y e = absurd cc

pub was_unless : {X : Type 0} (t : Bool) (o : Option X) (y : X) → cond t None o ≡ Some y → (t ≡ false) × (o ≡ Some y)
was_unless true o y e = absurd cc
was_unless false o y e = (refl, e)

pub was_space : (bytes behind : List ℕ) → behind_space_of bytes ≡ Some behind → bytes ≡ 32 ∷ behind
was_space [] behind e = absurd cc
was_space (b ∷ bs) behind e = by (b == 32) refl e
  where
    by : (t : Bool) → (b == 32) ≡ t → cond t (Some bs) None ≡ Some behind → b ∷ bs ≡ 32 ∷ behind
    by true t e =
        let space : b ≡ 32 = grind (arith, nat_tests) in
        ap (λ x. x ∷ bs) space ∙ ap (λ l. 32 ∷ l) (same_value bs behind e)
    by false t e = absurd cc
