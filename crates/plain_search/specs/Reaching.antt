use Rattle.std.specs.Prelude.{◌≡◌, ℕ, zero, suc, ◌+◌, ◌-◌, ◌<◌, ◌≤◌, ◌==◌, cond, List, [], ◌∷◌, map, reverse, Option, Some, None, slice_get, refl}
use Rattle.std.specs.List.Sorted.{IsNonDecreasingBy}
use Rattle.road_graph.specs.declared.road.NodeNo.{NodeNo}
use Rattle.road_graph.specs.Limits.{far}
use Rattle.road_graph.specs.Roads.{Roads, IsNode, least_weight, node}
use Rattle.road_graph.specs.Graphs.{IsGraph}
use Rattle.road_graph.specs.Reads.{roads_out, roads_into, read_along}
use Rattle.road_graph.specs.Paths.{Path}
use Rattle.road_graph.specs.Walks.{IsWalk, IsDist, IsSimple, IsLeastWalk}
use Rattle.plain_search.specs.declared.reached.Way.{Way}
use Rattle.plain_search.specs.declared.reached.Way.TheVariants.{From, To}
use Rattle.plain_search.specs.declared.reached.Reached.{Reached}

-- what a search lists: each node that it reached, from its start or to it, where a radius bounds how far it goes
pub record Listing : Type 0 where
  pub way : Way
  pub start : NodeNo
  pub radius : Option ℕ
  pub listed : List Reached

-- a walk of this length between the start and a node, in the way of the search
abbrev pub IsWalkBy : Way → Roads → NodeNo → NodeNo → List NodeNo → ℕ → Type 0
IsWalkBy From g start n nodes x = IsWalk g start n nodes x
IsWalkBy To g start n nodes x = IsWalk g n start nodes x

-- the nodes of a walk that leads to the start, in the way of the search
abbrev pub in_way : Way → List NodeNo → List NodeNo
in_way From nodes = reverse nodes
in_way To nodes = nodes

-- the least length of those walks
abbrev pub IsDistBy : Way → Roads → NodeNo → NodeNo → ℕ → Type 0
IsDistBy From g start n x = IsDist g start n x
IsDistBy To g start n x = IsDist g n start x

-- the least weight of the roads between a parent and the node that it was found from
abbrev pub weight_by : Way → Roads → NodeNo → NodeNo → Option ℕ
weight_by From g parent n = least_weight g.roads parent n
weight_by To g parent n = least_weight g.roads n parent

-- a radius that a search takes
abbrev pub IsRadius : Option ℕ → Type 0
IsRadius None = Unit {0}
IsRadius (Some radius) = radius ≤ far - 2

-- with no radius all is inside
abbrev pub IsInside : Option ℕ → ℕ → Type 0
IsInside None x = Unit {0}
IsInside (Some radius) x = x ≤ radius

abbrev pub IsOutside : Option ℕ → ℕ → Type 0
IsOutside None x = ⊥
IsOutside (Some radius) x = radius < x

-- each walk between the start and the node is longer than the radius; with no radius there is none
abbrev pub IsBeyond : Way → Roads → NodeNo → Option ℕ → NodeNo → Type 0
IsBeyond way g start radius n = (nodes : List NodeNo) (x : ℕ) → IsWalkBy way g start n nodes x → IsOutside radius x

-- the distance that is listed for a node
abbrev pub distance_of : List Reached → NodeNo → Option ℕ
distance_of [] n = None
distance_of (r ∷ rs) n = cond (r.node.0 == n.0) (Some r.distance) (distance_of rs n)

abbrev pub nodes_of : List Reached → List NodeNo
nodes_of listed = map (λ (r : Reached). r.node) listed

-- how many roads a search follows from nodes
abbrev pub roads_by : Way → Roads → List NodeNo → ℕ
roads_by From g nodes = roads_out g nodes
roads_by To g nodes = roads_into g nodes

-- the nodes of a walk, none where there is none
abbrev pub nodes_found : Option Path → List NodeNo
nodes_found None = []
nodes_found (Some w) = w.nodes

-- the node stands at this place of the list
abbrev pub StandsAt : List Reached → NodeNo → ℕ → Type 0
StandsAt listed n k = (r : Reached) × (slice_get listed k ≡ Some r) × (r.node ≡ n)

-- the parent stands before the node in the list, and a road between them makes up the rest of the distance
pub record HasParent (way : Way) (g : Roads) (listed : List Reached) (k : ℕ) (r : Reached) : Type 0 where
  pub place : ℕ
  pub before : place < k
  pub parent : Reached
  pub stands : slice_get listed place ≡ Some parent
  pub named : r.parent ≡ Some parent.node
  pub weight : ℕ
  pub road : weight_by way g parent.node r.node ≡ Some weight
  pub sum : parent.distance + weight ≡ r.distance

-- the start stands first, at 0 and without a parent; each other one has a parent
abbrev pub HasWayBack : Way → Roads → NodeNo → List Reached → ℕ → Reached → Type 0
HasWayBack way g start listed zero r = r ≡ record { node = start; distance = 0; parent = None }
HasWayBack way g start listed (suc k) r = HasParent way g listed (suc k) r

-- what is listed is right: each listed node once, at its distance, in rising order, with its way back to the start
pub record AreReached (g : Roads) (s : Listing) : Type 0 where
  pub graph : IsGraph g
  pub start : IsNode g s.start
  pub exact : (n : NodeNo) (x : ℕ) → distance_of s.listed n ≡ Some x → IsDistBy s.way g s.start n x
  pub each : (k : ℕ) (r : Reached) → slice_get s.listed k ≡ Some r → distance_of s.listed r.node ≡ Some r.distance
  pub once : IsSimple (nodes_of s.listed)
  pub rising : IsNonDecreasingBy (λ (r : Reached). r.distance) s.listed
  pub back : (k : ℕ) (r : Reached) → slice_get s.listed k ≡ Some r → HasWayBack s.way g s.start s.listed k r

-- and exactly the nodes within the radius are listed
pub record IsReach (g : Roads) (s : Listing) : Type 0 where
  pub reached : AreReached g s
  pub within : (n : NodeNo) (x : ℕ) → distance_of s.listed n ≡ Some x → IsInside s.radius x
  pub others : (n : NodeNo) → distance_of s.listed n ≡ None → IsBeyond s.way g s.start s.radius n

-- each road into a node that was listed is read once, and those out of the nodes of the walk that was found
pub record AreWalkReads (g : Roads) (to : NodeNo) (found : Option Path) (old new : ℕ) : Type 0 where
  pub listed : List Reached
  pub reached : AreReached g (record { way = To; start = to; radius = None; listed = listed })
  pub reads : new ≡ old + (roads_into g (nodes_of listed) + read_along g (nodes_found found))

-- a least walk between the start and a node, in the way of the search
abbrev pub IsLeastWalkBy : Way → Roads → NodeNo → NodeNo → Path → Type 0
IsLeastWalkBy From g start n w = IsLeastWalk g start n w
IsLeastWalkBy To g start n w = IsLeastWalk g n start w

-- two nodes that were reached from the first, one of them over the other
abbrev sample : List Reached
sample = record { node = node 1; distance = 0; parent = None } ∷ record { node = node 2; distance = 10; parent = Some (node 1) } ∷ record { node = node 3; distance = 20; parent = Some (node 2) } ∷ []

listed_there : distance_of sample (node 3) ≡ Some 20
listed_there = refl

not_listed : distance_of sample (node 4) ≡ None
not_listed = refl

back_to_front : in_way From (node 3 ∷ node 2 ∷ node 1 ∷ []) ≡ node 1 ∷ node 2 ∷ node 3 ∷ []
back_to_front = refl
