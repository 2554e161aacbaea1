use Rattle.std.specs.Prelude.{◌≡◌, ℕ, ◌+◌, ◌-◌, ◌<◌, ◌≤◌, ◌^◌, List, [], ◌∷◌, length, Some, slice_get, slice_range, slice_index, slice_index_or}
use Rattle.upward_search.specs.declared.slope.Arc.{Arc}

-- the rows between each two bounds
abbrev pub rows_of : List ℕ → List Arc → List (List Arc)
rows_of [] arcs = []
rows_of (a ∷ []) arcs = []
rows_of (a ∷ b ∷ more) arcs = slice_range arcs a b ∷ rows_of (b ∷ more) arcs

abbrev pub row : List (List Arc) → ℕ → List Arc
row rows p = slice_index_or rows p []

-- how many arcs stand in rows
abbrev pub count_rows : List (List Arc) → ℕ
count_rows [] = 0
count_rows (row ∷ rows) = length row + count_rows rows

-- bounds that rise from 0 to the end of the arcs, at least one
pub record AreBounds (bounds : List ℕ) (arcs : List Arc) : Type 0 where
  pub some : 0 < length bounds
  pub rising : (p : ℕ) → p + 1 < length bounds → slice_index bounds p ≤ slice_index bounds (p + 1)
  pub within : (p : ℕ) → p < length bounds → slice_index bounds p ≤ length arcs
  pub first : slice_index bounds 0 ≡ 0
  pub last : slice_index bounds (length bounds - 1) ≡ length arcs

-- each arc leads from its row's place to a higher one
pub record IsUpward (rows : List (List Arc)) : Type 0 where
  pub few : length rows < 2 ^ 32
  pub up : (p k : ℕ) (a : Arc) → slice_get (row rows p) k ≡ Some a → (p < a.to) × (a.to < length rows)
