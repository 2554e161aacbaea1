use Rattle.std.proofs.Common.{◌≡◌, ℕ, suc, zero, ◌+◌, ◌≤◌, List, [], ◌∷◌, drop, length, position, None, refl, arith}
use Rattle.std.specs.List.{position_or_len}
use Rattle.ride_base.specs.Pieces.{after_line, is_line_end}
use Rattle.ride_base.proofs.Positions.{none_found_is}

-- Laws of the lines of a text.

drop_all : (n : ℕ) (xs : List ℕ) → length xs ≤ n → drop n xs ≡ []
drop_all zero [] h = refl
drop_all zero (x ∷ xs) h = absurd (omega arith)
drop_all (suc n) [] h = refl
drop_all (suc n) (x ∷ xs) h = drop_all n xs (omega arith)

-- nothing stands behind a last line that no line end ends
pub after_last_line : (p : List ℕ) → position is_line_end p ≡ None → after_line p ≡ []
after_last_line p h = drop_all (position_or_len is_line_end p + 1) p (let e = none_found_is is_line_end p h in omega arith)
