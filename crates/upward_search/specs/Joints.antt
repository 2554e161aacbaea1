use Rattle.std.specs.Prelude.{◌≡◌, ℕ, ◌+◌, ◌<◌, List, Some, slice_get}
use Rattle.upward_search.specs.declared.slope.Label.{Label}
use Rattle.upward_search.specs.Climbs.{IsIn}

abbrev pub LacksJoint : List Label → Label → ℕ → Type 0
LacksJoint right r total = (t : Label) → IsIn right t → t.place ≡ r.place → r.length + t.length ≡ total → ⊥

pub record IsJoint (right : List Label) (r : Label) (total j : ℕ) : Type 0 where
  pub label : Label
  pub stands : slice_get right j ≡ Some label
  pub same : label.place ≡ r.place
  pub sum : r.length + label.length ≡ total

pub record IsTopAt (left right : List Label) (total : ℕ) (at : ℕ × ℕ) : Type 0 where
  pub r : Label
  pub stands : slice_get left at.0 ≡ Some r
  pub joint : IsJoint right r total at.1

-- no label before an index has one
abbrev pub LackJoints : List Label → List Label → ℕ → ℕ → Type 0
LackJoints left right total i = (k : ℕ) (r : Label) → k < i → slice_get left k ≡ Some r → LacksJoint right r total
