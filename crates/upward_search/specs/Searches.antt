use Rattle.std.specs.Prelude.{◌≡◌, ℕ, ◌+◌, ◌<◌, ◌≤◌, ◌^◌, ◌⊎◌, List, ◌∷◌, map, length, Some, slice_get, Contains, IsPermutation}
use Rattle.std.specs.declared.cmp.Reverse.{Reverse}
use Rattle.upward_search.specs.declared.slope.Arc.{Arc}
use Rattle.upward_search.specs.declared.slope.Label.{Label}
use Rattle.upward_search.specs.Rows.{row}
use Rattle.upward_search.specs.Climbs.{IsIn, IsClimb, climb_length, IsRisingWithin}

-- the labels of a heap of reversed ones
abbrev pub held_of : List (Reverse Label) → List Label
held_of = map (λ (r : Reverse Label). r.0)

-- a label that is taken before another, or could be
abbrev pub IsNoLater : Label → Label → Type 0
IsNoLater r o = (r.place < o.place) ⊎ ((o.place ≡ r.place) × (r.length ≤ o.length))

abbrev pub AreStale : ℕ → List Label → Type 0
AreStale floor waiting = (o : Label) → Contains waiting o → o.place < floor

-- the first label not below a place was taken, and those below it dropped
pub record IsNext (floor : ℕ) (old new : List Label) (r : Label) : Type 0 where
  pub high : floor ≤ r.place
  pub was : Contains old r
  pub kept : (o : Label) → Contains old o → (o.place < floor) ⊎ ((o ≡ r) ⊎ Contains new o)
  pub only : (o : Label) → Contains new o → Contains old o
  pub first : (o : Label) → Contains new o → IsNoLater r o

-- the same while those below are dropped
pub record AreDropped (floor : ℕ) (old now : List Label) : Type 0 where
  pub kept : (o : Label) → Contains old o → (o.place < floor) ⊎ Contains now o
  pub only : (o : Label) → Contains now o → Contains old o

abbrev pub offer : Label → Arc → Label
offer r a = record { place = a.to; length = r.length + a.length }

-- the end of an arc waits, or is too far
abbrev pub Offers : Label → Arc → List Label → List Label → Type 0
Offers r a old new = ((2 ^ 53 ≤ r.length + a.length) × (new ≡ old)) ⊎ ((r.length + a.length < 2 ^ 53) × IsPermutation (offer r a ∷ old) new)

-- the ends of the arcs below an index wait at their lengths over a label, where these are near enough
pub record AreOffered (arcs : List Arc) (r : Label) (old new : List Label) (i : ℕ) : Type 0 where
  pub kept : (o : Label) → Contains old o → Contains new o
  pub each : (k : ℕ) (a : Arc) → k < i → slice_get arcs k ≡ Some a → r.length + a.length < 2 ^ 53 → Contains new (offer r a)
  pub only : (o : Label) → Contains new o → Contains old o ⊎ ((k : ℕ) × (a : Arc) × (slice_get arcs k ≡ Some a) × (o ≡ offer r a) × (r.length + a.length < 2 ^ 53))

-- the same of all arcs of a label's row
abbrev pub IsRowOffered : List (List Arc) → Label → List Label → List Label → Type 0
IsRowOffered rows r old new = AreOffered (row rows r.place) r old new (length (row rows r.place))

abbrev pub IsTaken : List Label → ℕ → ℕ → Type 0
IsTaken space q x = (r : Label) × IsIn space r × (r.place ≡ q) × (r.length ≤ x)

abbrev pub Waits : List Label → ℕ → ℕ → Type 0
Waits waiting q x = (o : Label) × Contains waiting o × (o.place ≡ q) × (o.length ≤ x)

-- a place that is reached at a length needn't be looked for there again
abbrev pub IsKnown : List Label → List Label → ℕ → ℕ → Type 0
IsKnown space waiting q x = IsTaken space q x ⊎ (Waits waiting q x ⊎ (2 ^ 53 ≤ x))

pub record IsReal (rows : List (List Arc)) (start : ℕ) (r : Label) : Type 0 where
  pub arcs : List Arc
  pub leads : IsClimb rows start r.place arcs
  pub long : climb_length arcs ≡ r.length
  pub near : r.length < 2 ^ 53
  pub place : r.place < length rows

-- what holds of a search while it goes on
pub record IsSearch (rows : List (List Arc)) (start floor : ℕ) (space waiting : List Label) : Type 0 where
  pub begun : IsKnown space waiting start 0
  pub rising : IsRisingWithin 0 floor space
  pub within : floor ≤ length rows
  pub taken : (r : Label) → IsIn space r → IsReal rows start r
  pub found : (o : Label) → Contains waiting o → IsReal rows start o
  pub stale : (o : Label) → Contains waiting o → o.place < floor → IsTaken space o.place o.length
  pub offered : (r : Label) → IsIn space r → (a : Arc) → IsIn (row rows r.place) a → IsKnown space waiting a.to (r.length + a.length)
