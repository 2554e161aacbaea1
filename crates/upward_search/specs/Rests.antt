use Rattle.std.specs.Prelude.{◌≡◌, ℕ, ◌+◌, ◌<◌, ◌≤◌, ◌^◌, ◌⊎◌, List, [], ◌∷◌, length, Option, Some, None, slice_get, slice_index_or}
use Rattle.upward_search.specs.declared.slope.Arc.{Arc}
use Rattle.upward_search.specs.declared.slope.Label.{Label}
use Rattle.upward_search.specs.Rows.{row}
use Rattle.upward_search.specs.Sums.{lesser_of}
use Rattle.upward_search.specs.Ladders.{Ladder, IsTop, IsLeastTop}

-- the rests of the labels from an index on are least
pub record AreRests (h : Ladder) (q : ℕ) (space : List Label) (rests : List (Option ℕ)) (from : ℕ) : Type 0 where
  pub many : length rests ≡ length space
  pub each : (k : ℕ) (r : Label) → from ≤ k → slice_get space k ≡ Some r → IsLeastTop h r.place q (slice_index_or rests k None)

-- the least length over a higher place, from the place at an index
abbrev pub IsRestAt : Ladder → ℕ → List Label → ℕ → Option ℕ → Type 0
IsRestAt h q space index o = (d : Label) → IsLeastTop h (slice_index_or space index d).place q o

-- a way begins with no arc, or with one that stands below an index of its row
abbrev pub BeginsBelow : List Arc → ℕ → List Arc → Type 0
BeginsBelow arcs i [] = Unit {0}
BeginsBelow arcs i (a ∷ more) = (k : ℕ) × (k < i) × (slice_get arcs k ≡ Some a)

abbrev pub IsLeastBelow : Ladder → ℕ → ℕ → ℕ → Option ℕ → Type 0
IsLeastBelow h p q i None = (x : ℕ) (t : IsTop h p q x) → BeginsBelow (row h.climbs p) i t.up → 2 ^ 53 ≤ x
IsLeastBelow h p q i (Some y) = IsTop h p q y × ((x : ℕ) (t : IsTop h p q x) → BeginsBelow (row h.climbs p) i t.up → (y ≤ x) ⊎ (2 ^ 53 ≤ x))

-- the lesser of a length and of that over an arc, where this counts
abbrev pub IsOverArc : Option ℕ → Arc → Option ℕ → Option ℕ → Type 0
IsOverArc least a None new = new ≡ least
IsOverArc least a (Some far) new = ((2 ^ 53 ≤ a.length + far) × (new ≡ least)) ⊎ ((a.length + far < 2 ^ 53) × (new ≡ Some (lesser_of least (a.length + far))))
