use Rattle.std.specs.Prelude.{◌≡◌, ℕ, ◌+◌, ◌-◌, ◌<◌, ◌≤◌, ◌++◌, List, [], length, take, position, Option, Some, None, ◌&&◌, nat_lt, nat_le, cond, min}
use Rattle.std.specs.List.{position_or_len}
use Rattle.ride_base.specs.Outside.{ShelfState, Moves}
use Rattle.ride_base.specs.Pieces.{is_line_end, longest_line}
use Rattle.ride_base.specs.Reader.{Limit, Long, Large, HasNoLineEnd, longest_read}
use Rattle.ride_base.specs.declared.buffer.LineScan.{LineScan}
use Rattle.ride_base.specs.declared.buffer.LineScan.TheVariants.{Ended, Past, Last}

-- what was read before, and what is left
abbrev pub with_read : List ℕ → Option (List ℕ) → Option (List ℕ)
with_read read None = None
with_read read (Some left) = Some (read ++ left)

-- no byte of the text was lost: what was read and not given, and what is left, are together what they were
abbrev pub LosesNothing : List ℕ → ShelfState → List ℕ → ShelfState → Type 0
LosesNothing old shelf new shelf' = with_read new shelf'.left ≡ with_read old shelf.left

-- the next k bytes of what is left came to the end of the bytes, and none only at the end of the text
pub record Gains (old new : List ℕ) (left left' : Option (List ℕ)) (k : ℕ) : Type 0 where
  pub piece : List ℕ
  pub within : k ≤ length piece
  pub added : new ≡ old ++ take k piece
  pub moved : Moves left left' piece k

-- the same between these moments of a shelf
abbrev pub Brings : List ℕ → ShelfState → List ℕ → ShelfState → ℕ → Type 0
Brings old shelf new shelf' k = Gains old new shelf.left shelf'.left k

-- nothing is left, where that is told
abbrev pub IsAtEnd : Option (List ℕ) → Type 0
IsAtEnd None = Unit {0}
IsAtEnd (Some left) = left ≡ []

-- where the first line of the bytes read ends, which may have so many, where so much of the text is left
abbrev pub IsScanOf : List ℕ → (most : ℕ) → (left : Option (List ℕ)) → LineScan → Type 0
IsScanOf bytes most left (Ended at) = position is_line_end bytes ≡ Some at
IsScanOf bytes most left Past = HasNoLineEnd bytes × (most < length bytes)
IsScanOf bytes most left Last = HasNoLineEnd bytes × IsAtEnd left

-- Where bytes came, what was held and what came go at most one read past the first line end of the text, and past `most` bytes where
-- the line is longer. It is said where the text is told.
abbrev pub IsWithinARead : (most : ℕ) (held : List ℕ) (left left' : Option (List ℕ)) → Type 0
IsWithinARead most held None left' = Unit {0}
IsWithinARead most held (Some left) None = ⊥
IsWithinARead most held (Some left) (Some left') =
    length left' < length left → length held + (length left - length left') ≤ min most (position_or_len is_line_end (held ++ left)) + longest_read

-- at most so many bytes came, where that is told
abbrev pub CameAtMost : ℕ → Option (List ℕ) → Option (List ℕ) → Type 0
CameAtMost most None left' = Unit {0}
CameAtMost most (Some left) None = ⊥
CameAtMost most (Some left) (Some left') = length left ≤ length left' + most

-- the limit that a line of that length meets, which takes so many bytes with its end, where there is room for so many
abbrev pub limit_at : (length size room : ℕ) → Option Limit
limit_at length size room = cond (nat_lt longest_line length && nat_le longest_line room) (Some Long) (cond (nat_lt room size) (Some Large) None)

-- the limit that a text met where more bytes were read than a line or the text may have, none of which is a line end
abbrev pub limit_past : ℕ → Limit
limit_past room = cond (nat_lt room longest_line) Large Long
