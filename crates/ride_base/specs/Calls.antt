use Rattle.std.specs.Prelude.{◌≡◌, ℕ, ◌≤◌, true, List, [], ◌∷◌, ◌++◌, take, length}
use Rattle.ride_base.specs.Outside.{Held, Untold, Absent, Text, ShelfState, SinkState, Outside, Rose, Takes, TakesPrefix}

-- What is seen of a shelf and of a sink before and after a call on both.

pub record Call : Type 0 where
  pub old : Outside
  pub new : Outside

-- a call between these moments of a shelf and of a sink
abbrev pub call_of : ShelfState → SinkState → ShelfState → SinkState → Call
call_of shelf sink shelf' sink' = record {
  old = record { shelf = shelf; sink = sink };
  new = record { shelf = shelf'; sink = sink' };
}

-- ---- what was taken

abbrev pub Took : Call → List ℕ → Type 0
Took c text = Takes c.old.sink.taken c.new.sink.taken text

abbrev pub TookPrefix : Call → List ℕ → Type 0
TookPrefix c text = TakesPrefix c.old.sink.taken c.new.sink.taken text

abbrev pub TookNothing : Call → Type 0
TookNothing c = c.new.sink.taken ≡ c.old.sink.taken

-- ---- facts of the texts that names hold

-- the fact is so of what is held, where that is told; and of no text that is absent
abbrev pub IsSoOf : Held → (List ℕ → Type 0) → Type 0
IsSoOf Untold Fact = Unit {0}
IsSoOf Absent Fact = ⊥
IsSoOf (Text text) Fact = Fact text

-- a way to say a fact of the text that a name holds
abbrev pub Saying : Type 1
Saying = List ℕ → (List ℕ → Type 0) → Type 0

-- it is so where the text is told
abbrev pub Says : ShelfState → Saying
Says shelf name Fact = IsSoOf (shelf.held name) Fact

-- the text is told, and it is so
pub record Tells (shelf : ShelfState) (name : List ℕ) (Fact : List ℕ → Type 0) : Type 0 where
  pub text : List ℕ
  pub told : shelf.held name ≡ Text text
  pub is_so : Fact text

-- ---- the names begun

-- the first k of these names
abbrev pub Began : List (List ℕ) → ℕ → Call → Type 0
Began names k c = c.new.shelf.names ≡ c.old.shelf.names ++ take k names

-- the first of these names, each once
abbrev pub BeganFirst : List (List ℕ) → Call → Type 0
BeganFirst names c = (k : ℕ) × (k ≤ length names) × Began names k c

-- each of the names is held, or what it holds isn't told
abbrev pub AreHeld : List (List ℕ) → ShelfState → Type 0
AreHeld [] shelf = Unit {0}
AreHeld (name ∷ names) shelf = (shelf.held name ≡ Absent → ⊥) × AreHeld names shelf

-- ---- counts of faults

abbrev pub ShelfFailed : Call → Type 0
ShelfFailed c = Rose c.old.shelf.faults c.new.shelf.faults

abbrev pub SinkFailed : Call → Type 0
SinkFailed c = Rose c.old.sink.faults c.new.sink.faults

-- what no call changes: what the names hold, a sure shelf stays so, both are as quiet as they were, and no count falls
pub record Stays (c : Call) : Type 0 where
  pub held : c.new.shelf.held ≡ c.old.shelf.held
  pub sure : c.old.shelf.sure ≡ true → c.new.shelf.sure ≡ true
  pub shelf_quiet : c.new.shelf.quiet ≡ c.old.shelf.quiet
  pub sink_quiet : c.new.sink.quiet ≡ c.old.sink.quiet
  pub shelf_counted : c.old.shelf.faults ≤ c.new.shelf.faults
  pub sink_counted : c.old.sink.faults ≤ c.new.sink.faults
