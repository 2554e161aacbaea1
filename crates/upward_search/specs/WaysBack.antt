use Rattle.std.specs.Prelude.{◌≡◌, ℕ, ◌+◌, ◌<◌, ◌≤◌, List, [], ◌∷◌, length, Some, slice_get, slice_index_or, sum_by}
use Rattle.upward_search.specs.declared.slope.Arc.{Arc}
use Rattle.upward_search.specs.declared.slope.Label.{Label}
use Rattle.upward_search.specs.declared.backing.Rung.{Rung}
use Rattle.upward_search.specs.Rows.{row}
use Rattle.upward_search.specs.Climbs.{IsIn, IsSpace}

-- no arc below an index makes up the rest of a label
abbrev pub LacksArc : List Arc → Label → Label → ℕ → Type 0
LacksArc arcs below at i = (k : ℕ) (a : Arc) → k < i → slice_get arcs k ≡ Some a → a.to ≡ at.place → below.length + a.length ≡ at.length → ⊥

pub record IsArcBetween (arcs : List Arc) (below at : Label) (a : Arc) : Type 0 where
  pub stands : IsIn arcs a
  pub ends : a.to ≡ at.place
  pub sum : below.length + a.length ≡ at.length

-- arcs one after another from a place up to another, the highest first
abbrev pub AreRungs : List (List Arc) → ℕ → ℕ → List Rung → Type 0
AreRungs rows p q [] = p ≡ q
AreRungs rows p q (g ∷ gs) = (g.arc.to ≡ q) × IsIn (row rows g.low) g.arc × AreRungs rows p g.low gs

abbrev pub rungs_length : List Rung → ℕ
rungs_length gs = sum_by (λ (g : Rung). g.arc.length) gs

pub record IsWayBack (rows : List (List Arc)) (start : ℕ) (top : Label) (rungs : List Rung) : Type 0 where
  pub leads : AreRungs rows start top.place rungs
  pub long : rungs_length rungs ≡ top.length

-- the way back from the label at an index, whatever place the space is that of
abbrev pub IsWayBackFrom : List (List Arc) → List Label → ℕ → List Rung → Type 0
IsWayBackFrom rows space top rungs = (start : ℕ) (d : Label) → IsSpace rows start space → IsWayBack rows start (slice_index_or space top d) rungs

-- the way from a label that stands at or after an index up to the top, and no label between the index and it is before it
pub record IsBack (rows : List (List Arc)) (space : List Label) (top : Label) (i : ℕ) (at : Label) (rungs : List Rung) : Type 0 where
  pub place : ℕ
  pub stands : slice_get space place ≡ Some at
  pub after : i ≤ place
  pub none : (k : ℕ) (r : Label) → i ≤ k → k < place → slice_get space k ≡ Some r → LacksArc (row rows r.place) r at (length (row rows r.place))
  pub leads : AreRungs rows at.place top.place rungs
  pub long : rungs_length rungs + at.length ≡ top.length
