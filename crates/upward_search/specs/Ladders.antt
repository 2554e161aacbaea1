use Rattle.std.specs.Prelude.{◌≡◌, ℕ, ◌+◌, ◌<◌, ◌≤◌, ◌^◌, ◌⊎◌, List, length, Option, Some, None, slice_get, slice_index}
use Rattle.road_graph.specs.declared.road.NodeNo.{NodeNo}
use Rattle.road_graph.specs.Roads.{Roads, least_weight}
use Rattle.road_graph.specs.Walks.{IsDist, NoWalk}
use Rattle.upward_search.specs.declared.slope.Arc.{Arc}
use Rattle.upward_search.specs.declared.way.Way.{Way}
use Rattle.upward_search.specs.declared.way.Way.TheVariants.{From, To}
use Rattle.upward_search.specs.declared.slope.Label.{Label}
use Rattle.upward_search.specs.Rows.{row, IsUpward}
use Rattle.upward_search.specs.Climbs.{IsIn, IsClimb, climb_length, IsSpace, work}

-- the nodes in the order of their ranks, the place of each at its number, the climbing arcs at the places that they leave, and the falling arcs at the places that they
-- enter, each with the higher end as its other end
pub record Ladder : Type 0 where
  pub nodes : List NodeNo
  pub places : List ℕ
  pub climbs : List (List Arc)
  pub falls : List (List Arc)

-- the arcs that a search follows, each at its lower end
abbrev pub climbs_by : Way → Ladder → List (List Arc)
climbs_by From h = h.climbs
climbs_by To h = h.falls

abbrev pub turned : Way → Way
turned From = To
turned To = From

-- the ladder as a search meets it: as it is, or with falling arcs for climbing ones and these for those
abbrev pub faced : Way → Ladder → Ladder
faced way h = record { nodes = h.nodes; places = h.places; climbs = climbs_by way h; falls = climbs_by (turned way) h }

abbrev pub IsAt : Ladder → ℕ → NodeNo → Type 0
IsAt h p n = slice_get h.nodes p ≡ Some n

-- over a lower place a falling and a climbing arc lead from one place to another
pub record IsOverPlace (h : Ladder) (from to k length : ℕ) : Type 0 where
  pub lower : k < from
  pub below : k < to
  pub fall : Arc
  pub falls : IsIn (row h.falls k) fall
  pub starts : fall.to ≡ from
  pub climb : Arc
  pub climbs : IsIn (row h.climbs k) climb
  pub ends : climb.to ≡ to
  pub sum : fall.length + climb.length ≡ length

-- the ranks are the places, each arc of both kinds leads up in its rows, and one with a middle below both ends is a falling and a climbing arc over it
pub record IsLadder (h : Ladder) : Type 0 where
  pub climbs_many : length h.climbs ≡ length h.nodes
  pub falls_many : length h.falls ≡ length h.nodes
  pub climbs_up : IsUpward h.climbs
  pub falls_up : IsUpward h.falls
  pub climbs_over : (p : ℕ) (a : Arc) → IsIn (row h.climbs p) a → a.middle < p → IsOverPlace h p a.to a.middle a.length
  pub falls_over : (p : ℕ) (a : Arc) → IsIn (row h.falls p) a → a.middle < p → IsOverPlace h a.to p a.middle a.length

pub record IsRoadArc (g : Roads) (h : Ladder) (from to length : ℕ) : Type 0 where
  pub u : NodeNo
  pub v : NodeNo
  pub starts : IsAt h from u
  pub ends : IsAt h to v
  pub weight : least_weight g.roads u v ≡ Some length

-- a way over the highest place of a walk
pub record IsTop (h : Ladder) (p q x : ℕ) : Type 0 where
  pub top : ℕ
  pub up : List Arc
  pub climbs : IsClimb h.climbs p top up
  pub down : List Arc
  pub falls : IsClimb h.falls q top down
  pub sum : climb_length up + climb_length down ≡ x

-- the least of these ways, where only lengths below 2^53 count
abbrev pub IsLeastTop : Ladder → ℕ → ℕ → Option ℕ → Type 0
IsLeastTop h p q None = (x : ℕ) → IsTop h p q x → 2 ^ 53 ≤ x
IsLeastTop h p q (Some y) = IsTop h p q y × ((x : ℕ) → IsTop h p q x → (y ≤ x) ⊎ (2 ^ 53 ≤ x))

-- exactly the arcs of a place's space along climbing arcs and of another's against falling arcs were read, or no more
abbrev pub ReadsTwoSpaces : Ladder → ℕ → ℕ → ℕ → ℕ → Type 0
ReadsTwoSpaces h p q old new = (left right : List Label) → IsSpace h.climbs p left → IsSpace h.falls q right → new ≡ old + (work h.climbs left + work h.falls right)

abbrev pub IsWithinTwoSpaces : Ladder → ℕ → ℕ → ℕ → ℕ → Type 0
IsWithinTwoSpaces h p q old new = (left right : List Label) → IsSpace h.climbs p left → IsSpace h.falls q right → new ≤ old + (work h.climbs left + work h.falls right)

abbrev pub IsNamed : Ladder → NodeNo → Type 0
IsNamed h n = (1 ≤ n.0) × (n.0 ≤ length h.nodes)

-- each node's number is where its place stands
pub record ArePlaces (nodes : List NodeNo) (places : List ℕ) : Type 0 where
  pub many : length places ≡ length nodes + 1
  pub each : (n : NodeNo) → 1 ≤ n.0 → n.0 ≤ length nodes → slice_get nodes (slice_index places n.0) ≡ Some n
  pub back : (p : ℕ) (n : NodeNo) → slice_get nodes p ≡ Some n → slice_index places n.0 ≡ p
  pub inside : (p : ℕ) (n : NodeNo) → slice_get nodes p ≡ Some n → n.0 < length places
  pub some : (p : ℕ) (n : NodeNo) → slice_get nodes p ≡ Some n → 1 ≤ n.0

-- no node has two places
abbrev pub AreApart : Ladder → Type 0
AreApart h = (p q : ℕ) (n : NodeNo) → IsAt h p n → IsAt h q n → p ≡ q

-- the distance, or none where there is no walk
abbrev pub IsAnswer : Roads → NodeNo → NodeNo → Option ℕ → Type 0
IsAnswer g u v None = NoWalk g u v
IsAnswer g u v (Some x) = IsDist g u v x

-- the same from a node, or to it
abbrev pub IsAnswerBy : Way → Roads → NodeNo → NodeNo → Option ℕ → Type 0
IsAnswerBy From g u v found = IsAnswer g u v found
IsAnswerBy To g u v found = IsAnswer g v u found
