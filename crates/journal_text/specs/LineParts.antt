use Rattle.std.specs.Prelude.{ℕ, ◌==◌, not, Bool, false, cond, List, [], ◌∷◌, take, drop, Option, Some, None}
use Rattle.std.specs.List.{position_or_len}
use Rattle.ride_base.specs.Digits.{is_digit, number_of}
pub use Rattle.ride_base.specs.Options.{and_then}

-- The parts of a journal's line as they are read one after another, each behind one space.

-- what stands behind a space at the front
abbrev pub behind_space_of : List ℕ → Option (List ℕ)
behind_space_of [] = None
behind_space_of (b ∷ bs) = cond (b == 32) (Some bs) None

abbrev pub is_no_digit : ℕ → Bool
is_no_digit b = not (is_digit b)

-- how many digits stand at the front
abbrev pub digits_ahead : List ℕ → ℕ
digits_ahead bytes = position_or_len is_no_digit bytes

abbrev pub has_leading_zero : List ℕ → Bool
has_leading_zero [] = false
has_leading_zero (b ∷ []) = false
has_leading_zero (b ∷ next ∷ more) = b == 48

-- the number that digits spell without leading zeros, where it is at most the limit
abbrev pub plain_number_of : List ℕ → (limit : ℕ) → Option ℕ
plain_number_of digits limit = cond (has_leading_zero digits) None (number_of digits limit)

-- the number, and what stands behind it
abbrev pub with_rest : Option ℕ → List ℕ → Option (ℕ × List ℕ)
with_rest None rest = None
with_rest (Some n) rest = Some (n, rest)

-- the number at the front, and what stands behind its digits
abbrev pub number_at_front : List ℕ → (limit : ℕ) → Option (ℕ × List ℕ)
number_at_front bytes limit = with_rest (plain_number_of (take (digits_ahead bytes) bytes) limit) (drop (digits_ahead bytes) bytes)

-- the number that stands behind a space at the front, and what stands behind it
abbrev pub number_ahead : List ℕ → (limit : ℕ) → Option (ℕ × List ℕ)
number_ahead bytes limit = and_then (behind_space_of bytes) (λ (rest : List ℕ). number_at_front rest limit)
