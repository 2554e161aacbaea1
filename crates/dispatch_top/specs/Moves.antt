use Rattle.std.specs.Prelude.{◌≡◌, ℕ, ◌≤◌, ◌++◌, true, List, take, length}
use Rattle.ride_base.specs.Calls.{AreHeld}
use Rattle.ride_base.specs.Outside.{ShelfState, SinkState, CountRose, CountStays, OnlyRead, SinkCountRose, SinkCountStays}

-- What a call does with a shelf and with a sink, where `Fails` says that it ended by a fault of that one.

-- It only read the text that is begun. The fault came only where the count rose, and on no sure shelf; without it a quiet count stays.
pub record ReadsOn (Fails : Type 0) (old new : ShelfState) : Type 0 where
  pub read : OnlyRead old new
  pub cause : Fails → CountRose old new
  pub surely : old.sure ≡ true → Fails → ⊥
  pub quietly : old.quiet ≡ true → (Fails → ⊥) → CountStays old new

-- It began the first of these names, each once, and read their texts. What the names hold is the same, and a sure shelf stays so and
-- has no fault where it holds the names.
pub record ReadsNames (names : List (List ℕ)) (Fails : Type 0) (old new : ShelfState) : Type 0 where
  pub began : (k : ℕ) × (k ≤ length names) × (new.names ≡ old.names ++ take k names)
  pub holds : new.held ≡ old.held
  pub counted : old.faults ≤ new.faults
  pub sure : old.sure ≡ true → new.sure ≡ true
  pub quiet : new.quiet ≡ old.quiet
  pub cause : Fails → CountRose old new
  pub surely : old.sure ≡ true → AreHeld names old → Fails → ⊥
  pub silent : old.sure ≡ true → AreHeld names old → CountStays old new
  pub quietly : old.quiet ≡ true → (Fails → ⊥) → CountStays old new

-- it wrote
pub record Writes (Fails : Type 0) (old new : SinkState) : Type 0 where
  pub counted : old.faults ≤ new.faults
  pub quiet : new.quiet ≡ old.quiet
  pub cause : Fails → SinkCountRose old new
  pub quietly : old.quiet ≡ true → (Fails → ⊥) → SinkCountStays old new
