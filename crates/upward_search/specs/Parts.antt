use Rattle.std.specs.Prelude.{◌≡◌, ◌≢◌, ℕ, ◌+◌, ◌<◌, ◌≤◌, ◌⊎◌, List, [], ◌∷◌, Option, Some, None, slice_get, sum_by}
use Rattle.upward_search.specs.declared.slope.Arc.{Arc}
use Rattle.upward_search.specs.declared.slope.Label.{Label}
use Rattle.upward_search.specs.declared.unpacking.Part.{Part}
use Rattle.upward_search.specs.Rows.{row}
use Rattle.upward_search.specs.Climbs.{IsIn}
use Rattle.upward_search.specs.Ladders.{Ladder}

abbrev pub HasArcTo : List Arc → ℕ → Type 0
HasArcTo arcs to = (a : Arc) × IsIn arcs a × (a.to ≡ to)

pub record IsLeastArc (arcs : List Arc) (to : ℕ) (a : Arc) : Type 0 where
  pub stands : IsIn arcs a
  pub ends : a.to ≡ to
  pub least : (b : Arc) → IsIn arcs b → b.to ≡ to → a.length ≤ b.length

abbrev pub IsLeastArcBelow : List Arc → ℕ → ℕ → Option Arc → Type 0
IsLeastArcBelow arcs to i None = (k : ℕ) (b : Arc) → k < i → slice_get arcs k ≡ Some b → b.to ≡ to → ⊥
IsLeastArcBelow arcs to i (Some a) = IsIn arcs a × (a.to ≡ to) × ((k : ℕ) (b : Arc) → k < i → slice_get arcs k ≡ Some b → b.to ≡ to → a.length ≤ b.length)

abbrev pub IsArcSoFar : Option Arc → Arc → ℕ → Option Arc → Type 0
IsArcSoFar None a to new = ((a.to ≢ to) × (new ≡ None)) ⊎ ((a.to ≡ to) × (new ≡ Some a))
IsArcSoFar (Some b) a to new = ((a.to ≢ to) × (new ≡ Some b)) ⊎ ((a.to ≡ to) × (((b.length ≤ a.length) × (new ≡ Some b)) ⊎ ((a.length ≤ b.length) × (new ≡ Some a))))

abbrev pub arc_of : ℕ → Part → Arc
arc_of to x = record { to = to; length = x.length; middle = x.middle }

-- a part is a climbing or a falling arc
abbrev pub IsPart : Ladder → Part → Type 0
IsPart h x = IsIn (row h.climbs x.from) (arc_of x.to x) ⊎ IsIn (row h.falls x.to) (arc_of x.from x)

pub record IsClimbPart (h : Ladder) (from to : ℕ) (x : Part) : Type 0 where
  pub starts : x.from ≡ from
  pub ends : x.to ≡ to
  pub stands : IsIn (row h.climbs from) (arc_of to x)
  pub least : (b : Arc) → IsIn (row h.climbs from) b → b.to ≡ to → x.length ≤ b.length

pub record IsFallPart (h : Ladder) (from to : ℕ) (x : Part) : Type 0 where
  pub starts : x.from ≡ from
  pub ends : x.to ≡ to
  pub stands : IsIn (row h.falls to) (arc_of from x)
  pub least : (b : Arc) → IsIn (row h.falls to) b → b.to ≡ from → x.length ≤ b.length

-- the middle isn't below both ends, or it is
abbrev pub IsRoad : Part → Type 0
IsRoad x = (x.from ≤ x.middle) ⊎ (x.to ≤ x.middle)

abbrev pub HasMiddle : Part → Type 0
HasMiddle x = (x.middle < x.from) × (x.middle < x.to)

-- a road from one place to another
pub record IsRoadPart (h : Ladder) (from to length : ℕ) : Type 0 where
  pub part : Part
  pub is : IsPart h part
  pub starts : part.from ≡ from
  pub ends : part.to ≡ to
  pub long : part.length ≡ length
  pub road : IsRoad part

-- roads one after another, each as its end and length
abbrev pub AreRoads : Ladder → ℕ → List Label → ℕ → Type 0
AreRoads h p [] q = p ≡ q
AreRoads h p (r ∷ rs) q = IsRoadPart h p r.place r.length × AreRoads h r.place rs q

abbrev pub roads_length : List Label → ℕ
roads_length rs = sum_by (λ (r : Label). r.length) rs

-- parts that wait lead from one place to another, the last of them first
abbrev pub AreWaiting : Ladder → ℕ → ℕ → List Part → Type 0
AreWaiting h p q [] = p ≡ q
AreWaiting h p q (x ∷ xs) = (x.to ≡ q) × IsPart h x × AreWaiting h p x.from xs

abbrev pub parts_length : List Part → ℕ
parts_length xs = sum_by (λ (x : Part). x.length) xs

-- what is unpacked so far, and what waits
pub record IsUnpacking (h : Ladder) (x : Part) (roads : List Label) (parts : List Part) : Type 0 where
  pub here : ℕ
  pub leads : AreRoads h x.from roads here
  pub waits : AreWaiting h here x.to parts
  pub short : roads_length roads + parts_length parts ≤ x.length
