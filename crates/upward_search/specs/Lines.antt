use Rattle.std.specs.Prelude.{◌≡◌, ℕ, suc, ◌<◌, ◌≤◌, List, [], ◌∷◌, length, take, Some, slice_get}
use Rattle.upward_search.specs.declared.slope.Label.{Label}
use Rattle.upward_search.specs.Ladders.{Ladder}
use Rattle.upward_search.specs.Parts.{AreRoads, roads_length}

-- the first names the place at which the roads begin, at length 0
abbrev pub AreLed : Ladder → ℕ → List Label → ℕ → Type 0
AreLed h p [] q = ⊥
AreLed h p (r ∷ rs) q = (r.place ≡ p) × (r.length ≡ 0) × AreRoads h r.place rs q

-- how far the place at an index is from the first
abbrev pub offset : List Label → ℕ → ℕ
offset line k = roads_length (take (suc k) line)

-- roads of this whole length, in which a place that stands twice is farther the second time, and only the places from `run` on are as far as
-- the last
pub record IsLine (h : Ladder) (p : ℕ) (line : List Label) (run q x : ℕ) : Type 0 where
  pub leads : AreLed h p line q
  pub total : roads_length line ≡ x
  pub apart : (i j : ℕ) (r s : Label) → i < j → slice_get line i ≡ Some r → slice_get line j ≡ Some s → r.place ≡ s.place → offset line i < offset line j
  pub early : (k : ℕ) → k < run → offset line k < x
  pub late : (k : ℕ) → run ≤ k → k < length line → offset line k ≡ x

abbrev pub LacksFrom : List Label → ℕ → ℕ → Type 0
LacksFrom line from p = (k : ℕ) (r : Label) → from ≤ k → slice_get line k ≡ Some r → r.place ≡ p → ⊥

abbrev pub LacksBetween : List Label → ℕ → ℕ → ℕ → Type 0
LacksBetween line from to p = (k : ℕ) (r : Label) → from ≤ k → k < to → slice_get line k ≡ Some r → r.place ≡ p → ⊥

abbrev pub IsFrom : List Label → ℕ → ℕ → ℕ → Type 0
IsFrom line from p k = (from ≤ k) × ((r : Label) × (slice_get line k ≡ Some r) × (r.place ≡ p))
