use Rattle.std.specs.Prelude.{◌≡◌, ℕ, ◌+◌, ◌<◌, ◌≤◌, ◌==◌, cond, List, [], ◌∷◌, map, Option, Some, None, slice_get, refl}
use Rattle.std.specs.List.Sorted.{IsStrictlyIncreasing}
use Rattle.road_graph.specs.declared.road.NodeNo.{NodeNo}
use Rattle.road_graph.specs.declared.road.Road.{Road}
use Rattle.road_graph.specs.Roads.{Roads, IsNode, node}
use Rattle.plain_search.specs.declared.potential.Potential.{Potential}
use Rattle.plain_search.specs.declared.reached.Way.{Way}
use Rattle.plain_search.specs.declared.reached.Way.TheVariants.{From, To}
use Rattle.plain_search.specs.Reaching.{IsWalkBy, IsDistBy}

-- the value that is listed for a node
abbrev pub listed_value : List (NodeNo × ℕ) → NodeNo → Option ℕ
listed_value [] n = None
listed_value (pair ∷ pairs) n = cond (pair.0.0 == n.0) (Some pair.1) (listed_value pairs n)

abbrev pub or_else : Option ℕ → Option ℕ → Option ℕ
or_else None y = y
or_else (Some x) y = Some x

-- the value of a node, where none is larger than every number
abbrev pub value_of : Potential → NodeNo → Option ℕ
value_of p n = or_else (listed_value p.listed n) p.rest

abbrev pub further_by : Option ℕ → ℕ → Option ℕ
further_by None w = None
further_by (Some x) w = Some (x + w)

abbrev pub IsAtMost : Option ℕ → Option ℕ → Type 0
IsAtMost x None = Unit {0}
IsAtMost None (Some y) = ⊥
IsAtMost (Some x) (Some y) = x ≤ y

-- over a road the value grows by no more than the weight, against the way of the search
abbrev pub MeetsRoad : Way → Potential → Road → Type 0
MeetsRoad From p road = IsAtMost (value_of p road.to) (further_by (value_of p road.from) road.weight)
MeetsRoad To p road = IsAtMost (value_of p road.from) (further_by (value_of p road.to) road.weight)

abbrev pub IsBelow : ℕ → Option ℕ → Type 0
IsBelow x None = Unit {0}
IsBelow x (Some rest) = x < rest

-- the rest is no longer than a walk, and with none there is no walk
abbrev pub IsNoLonger : Option ℕ → ℕ → Type 0
IsNoLonger None x = ⊥
IsNoLonger (Some rest) x = rest ≤ x

-- listed values are the distances, the rest bounds the others, and each road is met
pub record IsPotential (way : Way) (g : Roads) (start : NodeNo) (p : Potential) : Type 0 where
  pub start_at : listed_value p.listed start ≡ Some 0
  pub nodes : (n : NodeNo) (x : ℕ) → listed_value p.listed n ≡ Some x → IsNode g n
  pub below : (n : NodeNo) (x : ℕ) → listed_value p.listed n ≡ Some x → IsBelow x p.rest
  pub exact : (n : NodeNo) (x : ℕ) → listed_value p.listed n ≡ Some x → IsDistBy way g start n x
  pub others : (n : NodeNo) → listed_value p.listed n ≡ None → (nodes : List NodeNo) (x : ℕ) → IsWalkBy way g start n nodes x → IsNoLonger p.rest x
  pub roads : (k : ℕ) (road : Road) → slice_get g.roads k ≡ Some road → MeetsRoad way p road

-- the numbers of the listed nodes rise
abbrev pub IsRising : List (NodeNo × ℕ) → Type 0
IsRising pairs = IsStrictlyIncreasing (map (λ (pair : NodeNo × ℕ). pair.0.0) pairs)

-- 3 lies 20 from node 1, and node 4 farther than the rest of 21 less one
abbrev sample : Potential
sample = record { listed = (node 1, 0) ∷ (node 2, 10) ∷ (node 3, 20) ∷ []; rest = Some 21 }

listed_one : value_of sample (node 3) ≡ Some 20
listed_one = refl

unlisted_one : value_of sample (node 4) ≡ Some 21
unlisted_one = refl
