use Rattle.std.specs.Prelude.{◌≡◌, ℕ, ◌-◌, ◌^◌, ◌==◌, ◌||◌, ◌&&◌, not, min, Bool, false, cond, List, [], ◌∷◌, length, filter, Option, Some, None, codes, refl}
use Rattle.std.specs.List.{slice_split}
use Rattle.ride_base.specs.Digits.{are_digits, value_after}

-- a space or a tab
abbrev pub is_blank : ℕ → Bool
is_blank b = (b == 32) || (b == 9)

abbrev pub is_unblank : ℕ → Bool
is_unblank b = not (is_blank b)

abbrev pub has_bytes : List ℕ → Bool
has_bytes part = not (length part == 0)

-- the fields of a line, which are parted by one or more blanks; blanks at its start and its end count for nothing
abbrev pub fields_of : List ℕ → List (List ℕ)
fields_of line = filter has_bytes (slice_split is_blank line)

-- a line begins with that field, and the rest has its other ones
abbrev pub IsCut : (line field rest : List ℕ) → Type 0
IsCut line field rest = fields_of line ≡ field ∷ fields_of rest

-- digits alone, one at least
abbrev pub is_number : List ℕ → Bool
is_number bytes = has_bytes bytes && are_digits bytes

-- the number that digits spell
abbrev pub value_of : List ℕ → ℕ
value_of digits = value_after 0 digits

-- the largest number of 32 bits
abbrev pub largest_32 : ℕ
largest_32 = 4294967295

-- a number, cut at the largest of 64 bits
abbrev pub capped : ℕ → ℕ
capped n = min n (2 ^ 64 - 1)

-- the number that digits spell, cut at the largest of 64 bits
abbrev pub capped_of : List ℕ → Option ℕ
capped_of bytes = cond (is_number bytes) (Some (capped (value_of bytes))) None

-- a field by which a line is a comment: its first byte is `c`
abbrev pub begins_comment : List ℕ → Bool
begins_comment [] = false
begins_comment (b ∷ bs) = b == 99

three_fields : fields_of (32 ∷ 97 ∷ 9 ∷ 32 ∷ 49 ∷ 50 ∷ 32 ∷ 45 ∷ 9 ∷ []) ≡ (97 ∷ []) ∷ (49 ∷ 50 ∷ []) ∷ (45 ∷ []) ∷ []
three_fields = refl

no_field : fields_of (32 ∷ 9 ∷ []) ≡ []
no_field = refl

empty_line : fields_of [] ≡ []
empty_line = refl

one_field : fields_of (codes "c") ≡ codes "c" ∷ []
one_field = refl

past_64_bits : capped_of (codes "99999999999999999999") ≡ Some (2 ^ 64 - 1)
past_64_bits = refl

zeros_before : capped_of (codes "0000000000000000000000007") ≡ Some 7
zeros_before = refl

signed_number : capped_of (codes "-7") ≡ None
signed_number = refl

no_digits : capped_of [] ≡ None
no_digits = refl
