use Rattle.std.specs.Prelude.{◌≡◌, ◌⊎◌, ℕ, ◌+◌, ◌<◌, ◌≤◌, false, List, length, Option, Result, Err}
use Rattle.ride_base.specs.Pieces.{IsRefused, ended_lines, largest_text, pieces}
use Rattle.ride_base.specs.Prefixes.{AreBefore, AreGiven, IsReadNear, IsReadTo, IsReadWithLines}
use Rattle.ride_base.specs.Reader.{Reader, longest_read}
use Rattle.dimacs_reader.specs.declared.faults.GraphFault.{GraphFault}
use Rattle.dimacs_reader.specs.declared.faults.GraphFault.TheVariants.{Fault, Form, Count, Node, Weight, Limit, NoMemory}

-- a fault by which the text itself is refused
abbrev pub IsGraphRefusal : GraphFault → Type 0
IsGraphRefusal Fault = ⊥
IsGraphRefusal (Form line) = Unit {0}
IsGraphRefusal (Count line said found) = Unit {0}
IsGraphRefusal (Node line) = Unit {0}
IsGraphRefusal (Weight line) = Unit {0}
IsGraphRefusal (Limit line) = Unit {0}
IsGraphRefusal NoMemory = ⊥

-- the line by which a text is refused
abbrev pub refused_line : GraphFault → ℕ
refused_line Fault = 0
refused_line (Form line) = line
refused_line (Count line said found) = line
refused_line (Node line) = line
refused_line (Weight line) = line
refused_line (Limit line) = line
refused_line NoMemory = 0

-- a fault by which the line of that number refuses the text
abbrev pub IsRefusalAt : (line : ℕ) → GraphFault → Type 0
IsRefusalAt line fault = IsGraphRefusal fault × (refused_line fault ≡ line)

-- Where the shelf failed, the line end of no bad line was read, nor a byte past the limit of the text.
abbrev pub IsUndecided : {X : Type 0} → Result X GraphFault → List ℕ → Option (List ℕ) → Type 0
IsUndecided said text left = (r : IsReadTo largest_text text left) × ((fault : GraphFault) → said ≡ Err fault → length (ended_lines r.read) < refused_line fault)

-- A reader of a text gave as many lines of it as it counted, and read at most one read past them. Where it isn't at the end of the text,
-- it gave no others.
pub record IsReadFrom (text : List ℕ) (reader : Reader) (left : Option (List ℕ)) : Type 0 where
  pub near : IsReadNear reader.given largest_text text left
  pub given : reader.over ≡ false → (lines : List (List ℕ)) × AreGiven largest_text text lines reader left × (length lines ≡ reader.given) × (length reader.pending ≤ longest_read)

-- the shelf failed where so many lines are ended among what was read
abbrev pub IsReadBehind : List ℕ → Option (List ℕ) → (given : ℕ) → Type 0
IsReadBehind text left given = (lines : List (List ℕ)) × IsReadWithLines largest_text text lines left × (length lines ≡ given)

-- So many lines were given of a text. What was read behind them shows no limit, and goes at most one read past the next line.
pub record StandsBehind (text : List ℕ) (left : Option (List ℕ)) (given : ℕ) : Type 0 where
  pub lines : List (List ℕ)
  pub pending : List ℕ
  pub room : ℕ
  pub first : AreBefore largest_text text lines room pending left
  pub counted : length lines ≡ given
  pub shows : IsRefused (pieces room pending) → ⊥
  pub near : IsReadNear (given + 1) largest_text text left

-- Memory was wanted for what the lines of a text say that were given, or to read the next one. None of those that were given refuses it.
pub record IsUnfinished {X : Type 0} (said : Result X GraphFault) (text : List ℕ) (left : Option (List ℕ)) : Type 0 where
  pub given : ℕ
  pub late : (fault : GraphFault) → said ≡ Err fault → given < refused_line fault
  pub stands : IsReadNear given largest_text text left ⊎ StandsBehind text left given
