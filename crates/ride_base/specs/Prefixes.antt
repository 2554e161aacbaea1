use Rattle.std.specs.Prelude.{◌≡◌, ℕ, zero, suc, ◌+◌, ◌-◌, ◌≤◌, min, false, List, [], ◌∷◌, ◌++◌, map, length, Option, Some, None, refl}
use Rattle.std.specs.List.{All, position_or_len, slice_split}
use Rattle.std.specs.Str.Lines.{strip_carriage_return}
use Rattle.ride_base.specs.Outside.{ShelfState}
use Rattle.ride_base.specs.Pieces.{Piece, Whole, pieces, after_line, ended_lines, is_line_end, longest_line}
use Rattle.ride_base.specs.Reader.{Reader, longest_read}

-- Prefixes of a text that is read in pieces.

abbrev pub last_part : List (List ℕ) → List ℕ
last_part [] = []
last_part (part ∷ []) = part
last_part (part ∷ next ∷ more) = last_part (next ∷ more)

-- what stands behind the last line end
abbrev pub behind_line_ends : List ℕ → List ℕ
behind_line_ends text = last_part (slice_split is_line_end text)

-- A text that may have so many bytes was read so far, and the rest is left. The lines that are ended among the bytes read are the first
-- of the text, behind them no more bytes were read than a line may have, and in all no more than the text may have.
pub record IsReadTo (room : ℕ) (text : List ℕ) (left : Option (List ℕ)) : Type 0 where
  pub read : List ℕ
  pub rest : List ℕ
  pub left_is : left ≡ Some rest
  pub is_text : text ≡ read ++ rest
  pub more : List Piece
  pub first : pieces room text ≡ map Whole (ended_lines read) ++ more
  pub short : length (behind_line_ends read) ≤ longest_line
  pub within : length read ≤ room

-- parts of a text, each with a line end behind it
abbrev pub all_ended : List (List ℕ) → List ℕ
all_ended [] = []
all_ended (part ∷ parts) = part ++ 10 ∷ all_ended parts

-- no line end is in them
abbrev pub AreUnended : List (List ℕ) → Type 0
AreUnended [] = Unit {0}
AreUnended (part ∷ parts) = All (λ b. is_line_end b ≡ false) part × AreUnended parts

-- These are the first lines of a text that may have `all` bytes, each with a line end behind it. The rest of the text stands behind
-- them, and may have `room` bytes.
pub record AreFirstLines (all : ℕ) (text : List ℕ) (lines : List (List ℕ)) (room : ℕ) (rest : List ℕ) : Type 0 where
  pub parts : List (List ℕ)
  pub unended_parts : AreUnended parts
  pub are_lines : lines ≡ map strip_carriage_return parts
  pub is_text : text ≡ all_ended parts ++ rest
  pub spent : length (all_ended parts) + room ≡ all
  pub first : pieces all text ≡ map Whole lines ++ pieces room rest

-- the same where the rest is what was read before and what is left
abbrev pub AreBefore : (all : ℕ) → (text : List ℕ) → (lines : List (List ℕ)) → (room : ℕ) → (pending : List ℕ) → (left : Option (List ℕ)) → Type 0
AreBefore all text lines room pending None = ⊥
AreBefore all text lines room pending (Some left) = AreFirstLines all text lines room (pending ++ left)

-- a reader gave these lines of a text and no others, and the rest is to be given
abbrev pub AreGiven : (all : ℕ) → (text : List ℕ) → (lines : List (List ℕ)) → Reader → (left : Option (List ℕ)) → Type 0
AreGiven all text lines reader left = AreBefore all text lines reader.room reader.pending left

-- How many bytes the first lines of a text take that may have so many, each with its end. Of the last of them it is no more than a
-- line may have.
abbrev pub size_of_lines : (lines room : ℕ) → (text : List ℕ) → ℕ
size_of_lines zero room text = 0
size_of_lines (suc zero) room text = min (min room longest_line) (position_or_len is_line_end text) + 1
size_of_lines (suc (suc lines)) room text =
    position_or_len is_line_end text + 1 + size_of_lines (suc lines) (room - (position_or_len is_line_end text + 1)) (after_line text)

-- no more was read of a text than its first lines, and one read behind them
abbrev pub IsReadNear : (lines room : ℕ) → (text : List ℕ) → (left : Option (List ℕ)) → Type 0
IsReadNear lines room text None = ⊥
IsReadNear lines room text (Some left) = length text ≤ length left + size_of_lines lines room text + longest_read

-- exactly these lines are ended among what was read
abbrev pub IsReadWithLines : (all : ℕ) → (text : List ℕ) → (lines : List (List ℕ)) → (left : Option (List ℕ)) → Type 0
IsReadWithLines all text lines left = (r : IsReadTo all text left) × (ended_lines r.read ≡ lines)

-- whichever lines a reader gave, exactly they are ended among what was read
abbrev pub HasReadGiven : Reader → ShelfState → ShelfState → Type 0
HasReadGiven reader shelf shelf' =
    (all : ℕ) (text : List ℕ) (lines : List (List ℕ)) → AreGiven all text lines reader shelf.left → IsReadWithLines all text lines shelf'.left

-- whichever lines a reader gave, it has given one more
abbrev pub HasGivenMore : Reader → ShelfState → (line : List ℕ) → Reader → ShelfState → Type 0
HasGivenMore old shelf line new shelf' =
    (all : ℕ) (text : List ℕ) (lines : List (List ℕ)) → AreGiven all text lines old shelf.left → AreGiven all text (lines ++ line ∷ []) new shelf'.left

behind_two : behind_line_ends (97 ∷ 10 ∷ 98 ∷ 10 ∷ 99 ∷ []) ≡ 99 ∷ []
behind_two = refl

behind_the_last : behind_line_ends (97 ∷ 10 ∷ []) ≡ []
behind_the_last = refl

-- two lines of one byte and two, with their ends
size_of_two : size_of_lines 2 100 (97 ∷ 10 ∷ 98 ∷ 99 ∷ 10 ∷ 100 ∷ 10 ∷ []) ≡ 5
size_of_two = refl

-- of a line past the room no more than the room
size_past : size_of_lines 2 3 (97 ∷ 10 ∷ 98 ∷ 99 ∷ 10 ∷ []) ≡ 4
size_past = refl
