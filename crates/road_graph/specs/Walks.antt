use Rattle.std.specs.Prelude.{◌≡◌, ℕ, suc, ◌+◌, ◌<◌, ◌≤◌, nat_eq, cond, List, [], ◌∷◌, length, take, map, Option, Some, None, slice_index, MatchOption, refl}
use Rattle.std.specs.List.{IsDistinct}
use Rattle.road_graph.specs.declared.road.NodeNo.{NodeNo}
use Rattle.road_graph.specs.Roads.{Roads, is_node, least_weight, node, example}
use Rattle.road_graph.specs.Paths.{Path, length_of}

abbrev pub both : Option ℕ → Option ℕ → Option ℕ
both None y = None
both (Some x) None = None
both (Some x) (Some y) = Some (x + y)

-- The length of a list of nodes as a walk, absent where it is none: a walk is a nonempty list of nodes of the graph in which each
-- neighbouring pair is joined by a road, and of parallel roads the least weight counts.
abbrev pub walk_length : Roads → List NodeNo → Option ℕ
walk_length g [] = None
walk_length g (u ∷ []) = cond (is_node g.nodes u) (Some 0) None
walk_length g (u ∷ v ∷ more) = both (least_weight g.roads u v) (walk_length g (v ∷ more))

abbrev pub last_of : NodeNo → List NodeNo → NodeNo
last_of u [] = u
last_of u (v ∷ more) = last_of v more

-- the first of the nodes is u and the last is v
abbrev pub Joins : NodeNo → NodeNo → List NodeNo → Type 0
Joins u v [] = ⊥
Joins u v (w ∷ more) = (w ≡ u) × (last_of w more ≡ v)

-- these nodes are a walk from u to v of this length
abbrev pub IsWalk : Roads → NodeNo → NodeNo → List NodeNo → ℕ → Type 0
IsWalk g u v nodes x = Joins u v nodes × (walk_length g nodes ≡ Some x)

-- x is the least length of the walks from u to v
pub record IsDist (g : Roads) (u v : NodeNo) (x : ℕ) : Type 0 where
  pub reached : (nodes : List NodeNo) × IsWalk g u v nodes x
  pub least : (nodes : List NodeNo) (y : ℕ) → IsWalk g u v nodes y → x ≤ y

abbrev pub NoWalk : Roads → NodeNo → NodeNo → Type 0
NoWalk g u v = (nodes : List NodeNo) (x : ℕ) → IsWalk g u v nodes x → ⊥

-- the nodes are a walk of the graph, and each offset is the length of the walk up to its node
pub record IsMeasured (g : Roads) (w : Path) : Type 0 where
  pub many : length w.offsets ≡ length w.nodes
  pub whole : walk_length g w.nodes ≡ Some (length_of w)
  pub each : (k : ℕ) → k < length w.nodes → walk_length g (take (suc k) w.nodes) ≡ Some (slice_index w.offsets k)

abbrev pub numbers : List NodeNo → List ℕ
numbers nodes = map (λ (n : NodeNo). n.0) nodes

-- no node stands twice
abbrev pub IsSimple : List NodeNo → Type 0
IsSimple nodes = IsDistinct nat_eq (numbers nodes)

-- a walk of least length from u to v without a repeated node
pub record IsLeastWalk (g : Roads) (u v : NodeNo) (w : Path) : Type 0 where
  pub joins : Joins u v w.nodes
  pub measured : IsMeasured g w
  pub simple : IsSimple w.nodes
  pub least : IsDist g u v (length_of w)

-- a least walk from u to v, or none where there is no walk
abbrev pub IsLeastWalkOrNone : Roads → NodeNo → NodeNo → Option Path → Type 0
IsLeastWalkOrNone g u v found = MatchOption found (NoWalk g u v) (IsLeastWalk g u v)

two_steps : walk_length example (node 1 ∷ node 2 ∷ node 3 ∷ []) ≡ Some 4294967300
two_steps = refl

round : walk_length example (node 2 ∷ node 2 ∷ []) ≡ Some 1
round = refl

no_way_back : walk_length example (node 2 ∷ node 1 ∷ []) ≡ None
no_way_back = refl

stays : walk_length example (node 4 ∷ []) ≡ Some 0
stays = refl

no_such_node : walk_length example (node 5 ∷ []) ≡ None
no_such_node = refl

no_nodes : walk_length example [] ≡ None
no_nodes = refl
