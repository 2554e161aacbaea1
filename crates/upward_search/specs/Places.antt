use Rattle.std.specs.Prelude.{◌≡◌, ℕ, ◌<◌, ◌≤◌, List, length, Some, slice_get}
use Rattle.upward_search.specs.declared.slope.Label.{Label}
use Rattle.upward_search.specs.Climbs.{IsIn}

abbrev pub LacksPlace : List Label → ℕ → Type 0
LacksPlace space p = (r : Label) → IsIn space r → r.place ≡ p → ⊥

abbrev pub HasPlaceAt : List Label → ℕ → ℕ → Type 0
HasPlaceAt space p k = (r : Label) × (slice_get space k ≡ Some r) × (r.place ≡ p)

abbrev pub HasLength : List Label → ℕ → ℕ → Type 0
HasLength space p x = (r : Label) × IsIn space r × (r.place ≡ p) × (r.length ≡ x)

-- a place can only stand between two bounds
pub record IsBetween (space : List Label) (p low high : ℕ) : Type 0 where
  pub within : high ≤ length space
  pub inside : (k : ℕ) (r : Label) → slice_get space k ≡ Some r → r.place ≡ p → (low ≤ k) × (k < high)
