use Rattle.std.specs.Prelude.{◌≡◌, ℕ, ◌+◌, ◌≤◌, min, false, Bool, List, [], length, drop, position, Option, None}
use Rattle.std.specs.List.{position_or_len}
use Rattle.ride_base.specs.Pieces.{is_line_end, longest_line}

-- a limit that a text met: that of a line, or that of the text
pub data Limit : Type 0 where
  Long : Limit
  Large : Limit

-- what was read and not given, how many lines were given, how many bytes of the text may still be given, the limit at which it stopped,
-- and whether it gave all to the end of the text
pub record Reader : Type 0 where
  pub pending : List ℕ
  pub given : ℕ
  pub room : ℕ
  pub stopped : Option Limit
  pub over : Bool

-- the reader of a text that may have so many bytes, of which nothing was read
abbrev pub new_reader : ℕ → Reader
new_reader limit = record { pending = []; given = 0; room = limit; stopped = None; over = false }

-- the most bytes that the next line may have
abbrev pub most_line : Reader → ℕ
most_line reader = min reader.room longest_line

-- the most bytes that one read asks for
abbrev pub longest_read : ℕ
longest_read = 16384

-- the most bytes that a reader holds: those of a longest line, and of one read
abbrev pub most_held : ℕ
most_held = longest_line + longest_read

-- no line end is among the bytes
abbrev pub HasNoLineEnd : List ℕ → Type 0
HasNoLineEnd bytes = position is_line_end bytes ≡ None

-- of the bytes from `start` on, the first `searched` have no line end
abbrev pub IsSearched : (start searched : ℕ) → List ℕ → Type 0
IsSearched start searched bytes = (start ≤ length bytes) × (searched ≤ position_or_len is_line_end (drop start bytes))
