use Rattle.std.specs.Prelude.{◌≡◌, ℕ, suc, ◌+◌, ◌<◌, ◌≤◌, ◌^◌, List, [], ◌∷◌, length, Some, slice_get, sum_by}
use Rattle.upward_search.specs.declared.slope.Arc.{Arc}
use Rattle.upward_search.specs.declared.slope.Label.{Label}
use Rattle.upward_search.specs.Rows.{row}

abbrev pub IsIn : {X : Type 0} → List X → X → Type 0
IsIn xs x = (k : ℕ) × (slice_get xs k ≡ Some x)

-- these arcs lead one after another from a place to a place
abbrev pub IsClimb : List (List Arc) → ℕ → ℕ → List Arc → Type 0
IsClimb rows p q [] = p ≡ q
IsClimb rows p q (a ∷ arcs) = IsIn (row rows p) a × IsClimb rows a.to q arcs

abbrev pub climb_length : List Arc → ℕ
climb_length [] = 0
climb_length (a ∷ arcs) = a.length + climb_length arcs

-- the least length over lists of arcs
pub record IsClimbDist (rows : List (List Arc)) (p q x : ℕ) : Type 0 where
  pub reached : (arcs : List Arc) × IsClimb rows p q arcs × (climb_length arcs ≡ x)
  pub least : (arcs : List Arc) → IsClimb rows p q arcs → x ≤ climb_length arcs

-- places that rise from a first one on, all below a last
abbrev pub IsRisingWithin : ℕ → ℕ → List Label → Type 0
IsRisingWithin low high [] = low ≤ high
IsRisingWithin low high (r ∷ rs) = (low ≤ r.place) × IsRisingWithin (suc r.place) high rs

abbrev pub IsRising : List Label → Type 0
IsRising space = (high : ℕ) × IsRisingWithin 0 high space

-- the list names this place
pub record HasPlace (space : List Label) (q : ℕ) : Type 0 where
  pub label : Label
  pub stands : IsIn space label
  pub is : label.place ≡ q

-- exactly the places that climbs of a length below 2^53 lead to, each with the least length, in rising order
pub record IsSpace (rows : List (List Arc)) (start : ℕ) (space : List Label) : Type 0 where
  pub rising : IsRisingWithin 0 (length rows) space
  pub exact : (r : Label) → IsIn space r → IsClimbDist rows start r.place r.length × (r.length < 2 ^ 53)
  pub whole : (q : ℕ) (arcs : List Arc) → IsClimb rows start q arcs → climb_length arcs < 2 ^ 53 → HasPlace space q

-- how many arcs leave the places of a space
abbrev pub work : List (List Arc) → List Label → ℕ
work rows space = sum_by (λ (r : Label). length (row rows r.place)) space

-- exactly the arcs of a space were read, or no more
abbrev pub ReadsSpace : List (List Arc) → ℕ → ℕ → List Label → Type 0
ReadsSpace rows old new space = new ≡ old + work rows space

abbrev pub IsWithinSpace : List (List Arc) → ℕ → ℕ → ℕ → Type 0
IsWithinSpace rows start old new = (space : List Label) → IsSpace rows start space → new ≤ old + work rows space
