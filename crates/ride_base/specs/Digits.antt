use Rattle.std.specs.Prelude.{◌≡◌, ℕ, ◌+◌, ◌-◌, ◌*◌, Bool, true, ◌&&◌, nat_le, cond, List, [], ◌∷◌, Option, Some, None, codes, refl}

abbrev pub is_digit : ℕ → Bool
is_digit b = nat_le 48 b && nat_le b 57

abbrev pub are_digits : List ℕ → Bool
are_digits [] = true
are_digits (b ∷ bs) = is_digit b && are_digits bs

-- the number that digits spell after the ones that spell a number so far
abbrev pub value_after : ℕ → List ℕ → ℕ
value_after n [] = n
value_after n (b ∷ bs) = value_after (n * 10 + (b - 48)) bs

abbrev pub number_of : List ℕ → ℕ → Option ℕ
number_of [] limit = None
number_of (b ∷ bs) limit = cond (are_digits (b ∷ bs) && nat_le (value_after 0 (b ∷ bs)) limit) (Some (value_after 0 (b ∷ bs))) None

-- leading zeros count for nothing
zeros : number_of (codes "0000018446744073709551615") (18446744073709551615) ≡ Some 18446744073709551615
zeros = refl

-- one more than the largest
too_large : number_of (codes "18446744073709551616") (18446744073709551615) ≡ None
too_large = refl

-- zeros before the number
leading : number_of (codes "007") 7 ≡ Some 7
leading = refl

-- no digit at all
empty : number_of [] 9 ≡ None
empty = refl

-- a sign
signed : number_of (codes "+7") 9 ≡ None
signed = refl

negative : number_of (codes "-7") 9 ≡ None
negative = refl

-- a letter among the digits
letter : number_of (codes "7a") 100 ≡ None
letter = refl

-- one above the limit
above : number_of (codes "8") 7 ≡ None
above = refl
