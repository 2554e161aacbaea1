use Rattle.std.specs.Prelude.{◌≡◌, ℕ, ◌+◌, ◌^◌, ◌-◌, min, ◌<◌, ◌≤◌, ◌⊎◌, Bool, true, List, [], ◌∷◌, ◌++◌, length, take, Option, Some, None}

-- What is seen of the outside, and what its calls do.

-- what is told of a name: nothing, that no text has it, or its text
pub data Held : Type 0 where
  Untold : Held
  Absent : Held
  Text : List ℕ → Held

-- what is seen of a shelf at one moment
pub record ShelfState : Type 0 where
  -- what each name holds
  pub held : List ℕ → Held
  -- the names that `begin` was called with, in order
  pub names : List (List ℕ)
  -- what is left of the text that is begun, where that is told
  pub left : Option (List ℕ)
  -- whether a text is begun
  pub begun : Bool
  -- whether it fails only where `begin` is called with a name that it doesn't hold
  pub sure : Bool
  -- whether its count stays at each call that succeeds
  pub quiet : Bool
  -- how often it failed, up to the last value of its counter
  pub faults : ℕ

-- what is seen of a sink at one moment
pub record SinkState : Type 0 where
  -- what was taken, where that is told
  pub taken : Option (List ℕ)
  -- whether its count stays at each call that succeeds
  pub quiet : Bool
  -- how often it failed, up to the last value of its counter
  pub faults : ℕ

-- what is seen of a shelf and of a sink at one moment
pub record Outside : Type 0 where
  pub shelf : ShelfState
  pub sink : SinkState

-- ---- counts of faults

-- a count rose, or stood at its last value
abbrev pub Rose : ℕ → ℕ → Type 0
Rose old new = (old < new) ⊎ (old ≡ 2 ^ 64 - 1)

-- a count one higher, or at its last value
abbrev pub raised : ℕ → ℕ
raised count = min (count + 1) (2 ^ 64 - 1)

-- the count of a shelf rose
abbrev pub CountRose : ShelfState → ShelfState → Type 0
CountRose old new = Rose old.faults new.faults

-- the count of a shelf is as it was
abbrev pub CountStays : ShelfState → ShelfState → Type 0
CountStays old new = new.faults ≡ old.faults

-- the count of a sink rose
abbrev pub SinkCountRose : SinkState → SinkState → Type 0
SinkCountRose old new = Rose old.faults new.faults

-- the count of a sink is as it was
abbrev pub SinkCountStays : SinkState → SinkState → Type 0
SinkCountStays old new = new.faults ≡ old.faults

-- ---- shelves

-- what is left is all of what the name holds
abbrev pub IsAllOf : Held → Option (List ℕ) → Type 0
IsAllOf Untold left = Unit {0}
IsAllOf Absent left = ⊥
IsAllOf (Text bytes) left = left ≡ Some bytes

-- what is left is all of what the name held
abbrev pub BeginsAllOf : ShelfState → List ℕ → ShelfState → Type 0
BeginsAllOf old name new = IsAllOf (old.held name) new.left

-- the name came to the end of the names that `begin` was called with
abbrev pub AddsName : ShelfState → List ℕ → ShelfState → Type 0
AddsName old name new = new.names ≡ old.names ++ name ∷ []

-- the next k bytes went to the front of the piece, and none only at the end of the text
abbrev pub Moves : Option (List ℕ) → Option (List ℕ) → List ℕ → ℕ → Type 0
Moves None None piece k = Unit {0}
Moves None (Some after) piece k = ⊥
Moves (Some before) None piece k = ⊥
Moves (Some before) (Some after) piece k = (before ≡ take k piece ++ after) × (k ≡ 0 → before ≡ [])

-- so many bytes of what was left went to the front of a piece, and no more than fit it
abbrev pub MovesInto : ShelfState → ShelfState → (piece piece' : List ℕ) → ℕ → Type 0
MovesInto old new piece piece' k = (k ≤ length piece) × Moves old.left new.left piece' k

-- as much is left as was
abbrev pub LeftStays : ShelfState → ShelfState → Type 0
LeftStays old new = new.left ≡ old.left

-- A shelf was only read: a text is begun still, what the names hold and the names begun are the same, and the count didn't fall.
-- Where the shelf was sure it is so still, and its count is the same. It is as quiet as it was.
pub record OnlyRead (old new : ShelfState) : Type 0 where
  pub begun : new.begun ≡ true
  pub holds : new.held ≡ old.held
  pub named : new.names ≡ old.names
  pub counted : old.faults ≤ new.faults
  pub sure : old.sure ≡ true → new.sure ≡ true
  pub silent : old.sure ≡ true → new.faults ≡ old.faults
  pub quiet : new.quiet ≡ old.quiet

-- ---- sinks

-- the bytes came to the end of what was taken, where that is told
abbrev pub Takes : Option (List ℕ) → Option (List ℕ) → List ℕ → Type 0
Takes None None bytes = Unit {0}
Takes None (Some new) bytes = ⊥
Takes (Some old) None bytes = ⊥
Takes (Some old) (Some new) bytes = new ≡ old ++ bytes

-- the first k bytes of a piece, one at least, came to the end of what was taken
abbrev pub TakesSome : Option (List ℕ) → Option (List ℕ) → List ℕ → ℕ → Type 0
TakesSome old new piece k = (0 < k) × (k ≤ length piece) × Takes old new (take k piece)

-- a prefix of the bytes came to the end of what was taken
abbrev pub TakesPrefix : Option (List ℕ) → Option (List ℕ) → List ℕ → Type 0
TakesPrefix old new bytes = (k : ℕ) × (k ≤ length bytes) × Takes old new (take k bytes)
