use Rattle.std.specs.Prelude.{◌≡◌, ℕ, ◌+◌, ◌-◌, ◌<◌, ◌≤◌, List, ◌∷◌, ◌++◌, length, slice_get, slice_index, Option, Some}
use Rattle.road_graph.specs.declared.road.NodeNo.{NodeNo}
use Rattle.road_graph.specs.declared.road.Road.{Road}
use Rattle.road_graph.specs.Graphs.{IsGraph}
use Rattle.road_graph.specs.Limits.{far}
use Rattle.road_graph.specs.Roads.{Roads, least_weight}
use Rattle.road_graph.specs.Paths.{Path}
use Rattle.road_graph.specs.Walks.{walk_length, Joins, IsWalk, IsDist, IsSimple, IsLeastWalk}

-- a law holds of every graph
abbrev pub HoldsOfGraphs : (Roads → Type 0) → Type 0
HoldsOfGraphs Law = (g : Roads) → IsGraph g → Law g

-- each walk can be shortened to one with no node twice
abbrev pub WalksShorten : Roads → Type 0
WalksShorten g = (u v : NodeNo) (nodes : List NodeNo) (x : ℕ) → IsWalk g u v nodes x → (short : List NodeNo) × (y : ℕ) × IsWalk g u v short y × IsSimple short × (y ≤ x)

-- a walk with no node twice has no more nodes than the graph
abbrev pub SimpleWalksAreFew : Roads → Type 0
SimpleWalksAreFew g = (u v : NodeNo) (nodes : List NodeNo) (x : ℕ) → IsWalk g u v nodes x → IsSimple nodes → length nodes ≤ g.nodes

-- and is shorter than the limit, and so is each distance
abbrev pub SimpleWalksAreShort : Roads → Type 0
SimpleWalksAreShort g = (u v : NodeNo) (nodes : List NodeNo) (x : ℕ) → IsWalk g u v nodes x → IsSimple nodes → x < far

abbrev pub DistancesAreShort : Roads → Type 0
DistancesAreShort g = (u v : NodeNo) (x : ℕ) → IsDist g u v x → x < far

-- two nodes have one distance, and they have it where there is a walk
abbrev pub DistancesAreOne : Roads → Type 0
DistancesAreOne g = (u v : NodeNo) (x y : ℕ) → IsDist g u v x → IsDist g u v y → x ≡ y

abbrev pub WalksHaveDistances : Roads → Type 0
WalksHaveDistances g = (u v : NodeNo) (nodes : List NodeNo) (x : ℕ) → IsWalk g u v nodes x → (y : ℕ) × IsDist g u v y × (y ≤ x)

-- a distance is the length of a walk with no node twice
abbrev pub DistancesAreSimple : Roads → Type 0
DistancesAreSimple g = (u v : NodeNo) (x : ℕ) → IsDist g u v x → (nodes : List NodeNo) × IsWalk g u v nodes x × IsSimple nodes

-- a way over a third node is no shorter
abbrev pub IsTriangular : Roads → Type 0
IsTriangular g = (u v w : NodeNo) (x y : ℕ) → IsDist g u v x → IsDist g v w y → (z : ℕ) × IsDist g u w z × (z ≤ x + y)

-- each part of a least walk is a least walk between its ends
abbrev pub PartsAreLeast : Roads → Type 0
PartsAreLeast g = (u v : NodeNo) (w : Path) → IsLeastWalk g u v w → (front part back : List NodeNo) → w.nodes ≡ front ++ (part ++ back)
    → (a b : NodeNo) → Joins a b part → (x : ℕ) × IsWalk g a b part x × IsDist g a b x × IsSimple part

-- and between two of its places its length is the difference of their offsets
abbrev pub PlacesAreLeast : Roads → Type 0
PlacesAreLeast g = (u v : NodeNo) (w : Path) → IsLeastWalk g u v w → (i j : ℕ) (a b : NodeNo) → i ≤ j → slice_get w.nodes i ≡ Some a → slice_get w.nodes j ≡ Some b
    → (slice_index w.offsets i ≤ slice_index w.offsets j) × IsDist g a b (slice_index w.offsets j - slice_index w.offsets i)

-- a walk of two nodes or more begins by the lightest road to its second node
pub record HasFirstStep (g : Roads) (u v : NodeNo) (more : List NodeNo) (x : ℕ) : Type 0 where
  pub weight : ℕ
  pub rest : ℕ
  pub road : least_weight g.roads u v ≡ Some weight
  pub walk : walk_length g (v ∷ more) ≡ Some rest
  pub sum : weight + rest ≡ x

-- a road of this weight leads from u to v
pub record HasRoad (roads : List Road) (u v : NodeNo) (w : ℕ) : Type 0 where
  pub k : ℕ
  pub road : Road
  pub stands : slice_get roads k ≡ Some road
  pub from : road.from.0 ≡ u.0
  pub to : road.to.0 ≡ v.0
  pub weight : road.weight ≡ w

-- a road of this weight leads from u into n
pub record IsRoadInto (roads : List Road) (u n : NodeNo) (w : ℕ) : Type 0 where
  pub k : ℕ
  pub road : Road
  pub stands : slice_get roads k ≡ Some road
  pub from : road.from ≡ u
  pub to : road.to ≡ n
  pub weight : road.weight ≡ w

-- a weight that is there, and no more than w
abbrev pub IsAtMost : Option ℕ → ℕ → Type 0
IsAtMost o w = (v : ℕ) × (o ≡ Some v) × (v ≤ w)
