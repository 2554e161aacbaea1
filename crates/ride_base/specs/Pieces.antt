use Rattle.std.specs.Prelude.{◌≡◌, ◌⊎◌, ℕ, ◌+◌, ◌-◌, ◌==◌, nat_lt, nat_le, ◌&&◌, Bool, true, false, cond, List, [], ◌∷◌, ◌++◌, length, position, is_some, refl}
use Rattle.std.specs.List.{slice_split, after_first}
use Rattle.std.specs.Str.Lines.{strip_carriage_return}

-- the most bytes that a line may have before its end
abbrev pub longest_line : ℕ
longest_line = 65536

-- the most bytes of a text of lines
abbrev pub largest_text : ℕ
largest_text = 1073741824

abbrev pub is_line_end : ℕ → Bool
is_line_end b = b == 10

-- what a text is parted into: a line without its end, or the place where the text is refused
pub data Piece : Type 0 where
  Whole : List ℕ → Piece
  TooLong : Piece
  TooLarge : Piece

-- The pieces from a part between line ends on, with what follows it. `size` is what it takes of the room that the text has left, its end included.
-- The earlier of the two limits is the one that is met first: byte 65,537 of the line, or the first byte past the room.
abbrev pub pieces_from : (room size : ℕ) (part line : List ℕ) → List Piece → List Piece
pieces_from room size part line rest =
    cond (nat_lt longest_line (length part) && nat_le longest_line room) (TooLong ∷ [])
    (cond (nat_lt room size) (TooLarge ∷ []) (Whole line ∷ rest))

-- The pieces of a text in its parts between line ends, with room for so many bytes. A last part is a line where it has a byte,
-- and keeps a CR at its end; each other part loses one.
abbrev pub pieces_of_parts : ℕ → List (List ℕ) → List Piece
pieces_of_parts room [] = []
pieces_of_parts room (part ∷ []) = cond (length part == 0) [] (pieces_from room (length part) part part [])
pieces_of_parts room (part ∷ next ∷ more) =
    pieces_from room (length part + 1) part (strip_carriage_return part) (pieces_of_parts (room - (length part + 1)) (next ∷ more))

-- the pieces of a text that may have so many bytes
abbrev pub pieces : ℕ → List ℕ → List Piece
pieces room text = pieces_of_parts room (slice_split is_line_end text)

-- the text is refused before its first line ends
abbrev pub IsRefused : List Piece → Type 0
IsRefused pieces = (pieces ≡ TooLong ∷ []) ⊎ (pieces ≡ TooLarge ∷ [])

-- what stands after the first line end, or nothing where there is none
abbrev pub after_line : List ℕ → List ℕ
after_line text = after_first is_line_end text

-- a line with its end
abbrev pub with_line_end : List ℕ → List ℕ
with_line_end line = line ++ 10 ∷ []

-- whether the first line of a text is ended by a line end
abbrev pub is_ended : List ℕ → Bool
is_ended text = is_some (position is_line_end text)

-- the lines of a text that are ended by a line end
abbrev pub ended_in_parts : List (List ℕ) → List (List ℕ)
ended_in_parts [] = []
ended_in_parts (part ∷ []) = []
ended_in_parts (part ∷ next ∷ more) = strip_carriage_return part ∷ ended_in_parts (next ∷ more)

abbrev pub ended_lines : List ℕ → List (List ℕ)
ended_lines text = ended_in_parts (slice_split is_line_end text)

-- an empty line, a CR that goes and one that stays
worked : pieces 100 (97 ∷ 13 ∷ 10 ∷ 10 ∷ 98 ∷ 13 ∷ []) ≡ Whole (97 ∷ []) ∷ Whole [] ∷ Whole (98 ∷ 13 ∷ []) ∷ []
worked = refl

-- an end at the very end makes no further line
ended : pieces 100 (97 ∷ 10 ∷ []) ≡ Whole (97 ∷ []) ∷ []
ended = refl

nothing : pieces 0 [] ≡ []
nothing = refl

-- three bytes of room hold a line of two with its end, and no more
full : pieces 3 (97 ∷ 98 ∷ 10 ∷ []) ≡ Whole (97 ∷ 98 ∷ []) ∷ []
full = refl

past : pieces 3 (97 ∷ 98 ∷ 10 ∷ 99 ∷ []) ≡ Whole (97 ∷ 98 ∷ []) ∷ TooLarge ∷ []
past = refl

-- the end itself is past the room
end_past : pieces 2 (97 ∷ 98 ∷ 10 ∷ []) ≡ TooLarge ∷ []
end_past = refl

first_ended : is_ended (97 ∷ 10 ∷ 98 ∷ []) ≡ true
first_ended = refl

last_unended : is_ended (98 ∷ 13 ∷ []) ≡ false
last_unended = refl

ended_only : ended_lines (97 ∷ 13 ∷ 10 ∷ 98 ∷ []) ≡ (97 ∷ []) ∷ []
ended_only = refl
