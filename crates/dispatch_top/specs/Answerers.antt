use Rattle.std.specs.Prelude.{◌≡◌, ℕ, ◌≤◌, ◌++◌, List, [], length}
use Rattle.ride_base.specs.Pieces.{largest_text}
use Rattle.board_core.specs.Histories.{Event}

-- What an answerer does. `Has first now events printed` is a relation over two moments of one answerer: from the first on to the second
-- it answered these events of a stream, in order, and this is the text of their answers. `held` gives the events that it holds back.

-- nothing was asked of it yet
abbrev pub IsFresh : {A : Type 0} → (Has : A → A → List Event → List ℕ → Type 0) → (held : A → List Event) → A → Type 0
IsFresh Has held now = Has now now [] [] × (held now ≡ [])

-- it never holds an event back
abbrev pub HoldsNothing : {A : Type 0} → (held : A → List Event) → Type 0
HoldsNothing {A} held = (now : A) → held now ≡ []

-- since some moment it was asked fewer events than a stream may have lines
pub record HasFew {A : Type 0} (Has : A → A → List Event → List ℕ → Type 0) (held : A → List Event) (now : A) : Type 0 where
  pub first : A
  pub events : List Event
  pub printed : List ℕ
  pub has : Has first now events printed
  pub few : length (events ++ held now) ≤ largest_text

-- Since a moment it answered events, and printed this text. It was asked these events in all, and holds the rest of them back.
pub record HasAsked {A : Type 0} (Has : A → A → List Event → List ℕ → Type 0) (held : A → List Event) (first now : A) (asked : List Event) (printed : List ℕ) : Type 0 where
  pub events : List Event
  pub has : Has first now events printed
  pub asks : events ++ held now ≡ asked

-- since a moment it answered these events, and printed this text
abbrev pub HasGone : {A : Type 0} → (Has : A → A → List Event → List ℕ → Type 0) → A → List Event → List ℕ → Type 0
HasGone {A} Has first events printed = (now : A) × Has first now events printed

-- Whatever it was asked and printed since a moment, it was asked these events more, and printed this text more.
abbrev pub GoesOn : {A : Type 0} → (Has : A → A → List Event → List ℕ → Type 0) → (held : A → List Event) → A → List Event → A → List ℕ → Type 0
GoesOn {A} Has held old more new text =
    (first : A) (asked : List Event) (printed : List ℕ) → HasAsked Has held first old asked printed → HasAsked Has held first new (asked ++ more) (printed ++ text)
