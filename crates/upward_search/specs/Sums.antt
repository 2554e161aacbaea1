use Rattle.std.specs.Prelude.{◌≡◌, ℕ, ◌+◌, ◌<◌, ◌≤◌, ◌^◌, ◌⊎◌, List, Option, Some, None, min, slice_get}
use Rattle.upward_search.specs.declared.slope.Label.{Label}
use Rattle.upward_search.specs.declared.meeting.Meeting.{Meeting}
use Rattle.upward_search.specs.Climbs.{IsIn}

abbrev pub lesser_of : Option ℕ → ℕ → ℕ
lesser_of None y = y
lesser_of (Some x) y = min x y

abbrev pub AreShort : List Label → Type 0
AreShort space = (r : Label) → IsIn space r → r.length < 2 ^ 53

-- a place that both lists name, and the sum of its lengths
pub record Common (left right : List Label) (x : ℕ) : Type 0 where
  pub r : Label
  pub t : Label
  pub left_has : IsIn left r
  pub right_has : IsIn right t
  pub same : r.place ≡ t.place
  pub sum : r.length + t.length ≡ x

abbrev pub HasNoCommon : List Label → List Label → Type 0
HasNoCommon left right = (x : ℕ) → Common left right x → ⊥

pub record IsLeastSum (left right : List Label) (x : ℕ) : Type 0 where
  pub reached : Common left right x
  pub least : (y : ℕ) → Common left right y → x ≤ y

abbrev pub IsAtMost : Option ℕ → ℕ → Type 0
IsAtMost None x = ⊥
IsAtMost (Some y) x = y ≤ x

abbrev pub IsReached : List Label → List Label → Option ℕ → Type 0
IsReached left right None = Unit {0}
IsReached left right (Some x) = Common left right x

-- one label further in both lists, with the sum at the place that they share, or in one of them
abbrev pub IsPastBoth : Meeting → Label → Label → Meeting → Type 0
IsPastBoth at r t next = (next.left ≡ at.left + 1) × (next.right ≡ at.right + 1) × (next.least ≡ Some (lesser_of at.least (r.length + t.length)))

abbrev pub IsPastLeft : Meeting → Meeting → Type 0
IsPastLeft at next = (next.left ≡ at.left + 1) × (next.right ≡ at.right) × (next.least ≡ at.least)

abbrev pub IsPastRight : Meeting → Meeting → Type 0
IsPastRight at next = (next.left ≡ at.left) × (next.right ≡ at.right + 1) × (next.least ≡ at.least)

-- the least sum over places of which one stands before an index
pub record IsCompared (left right : List Label) (i j : ℕ) (least : Option ℕ) : Type 0 where
  pub reached : IsReached left right least
  pub covers : (p q : ℕ) (r t : Label) → slice_get left p ≡ Some r → slice_get right q ≡ Some t → r.place ≡ t.place → (p < i) ⊎ (q < j) → IsAtMost least (r.length + t.length)
