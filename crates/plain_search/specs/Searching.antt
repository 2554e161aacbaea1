use Rattle.std.specs.Prelude.{◌≡◌, ℕ, ◌+◌, ◌==◌, cond, ◌<◌, ◌≤◌, ◌⊎◌, List, [], ◌∷◌, ◌++◌, length, Option, Some, None, All, Contains, IsPermutation, slice_get, slice_set}
use Rattle.std.specs.List.Sorted.{IsNonDecreasingBy}
use Rattle.road_graph.specs.declared.road.NodeNo.{NodeNo}
use Rattle.road_graph.specs.Roads.{Roads, IsNode, ins}
use Rattle.road_graph.specs.Graphs.{IsGraph}
use Rattle.road_graph.specs.Walks.{IsDist}
use Rattle.plain_search.specs.declared.nearest.Candidate.{Candidate}
use Rattle.plain_search.specs.declared.reached.Reached.{Reached}
use Rattle.plain_search.specs.declared.reached.Way.{Way}
use Rattle.plain_search.specs.declared.reached.Way.TheVariants.{From, To}
use Rattle.plain_search.specs.declared.reached.Mark.{Mark}
use Rattle.plain_search.specs.declared.reached.Mark.TheVariants.{Seen, Settled}
use Rattle.plain_search.specs.declared.search.Search.{Search}
use Rattle.plain_search.specs.Marking.{mark_of, ArePlaces}
use Rattle.plain_search.specs.Reaching.{IsInside, IsOutside, HasWayBack, nodes_of, roads_by}
use Rattle.road_graph.specs.Turned.{turned}

-- the graph in which a search goes to its start
abbrev pub faced : Way → Roads → Roads
faced From g = turned g
faced To g = g

-- the node of a candidate's parent, where its number is one of a node
abbrev pub parent_in : NodeNo → Option NodeNo
parent_in p = cond (p.0 == 0) None (Some p)

-- a candidate's distance goes over a road to a node that is settled
pub record IsFoundFrom (h : Roads) (done : List Reached) (c : Candidate) (p : NodeNo) : Type 0 where
  pub place : ℕ
  pub parent : Reached
  pub stands : slice_get done place ≡ Some parent
  pub named : parent.node ≡ p
  pub index : ℕ
  pub weight : ℕ
  pub road : slice_get (ins h p) index ≡ Some (c.node, weight)
  pub sum : parent.distance + weight ≡ c.distance

abbrev pub IsFound : Roads → NodeNo → List Reached → Candidate → Option NodeNo → Type 0
IsFound h start done c None = (c.node ≡ start) × (c.distance ≡ 0)
IsFound h start done c (Some p) = IsFoundFrom h done c p

pub record IsCandidate (h : Roads) (start : NodeNo) (radius : Option ℕ) (done : List Reached) (c : Candidate) : Type 0 where
  pub node : IsNode h c.node
  pub inside : IsInside radius c.distance
  pub found : IsFound h start done c (parent_in c.parent)

-- the node waits at this distance or less
pub record Waits (open' : List Candidate) (n : NodeNo) (x : ℕ) : Type 0 where
  pub candidate : Candidate
  pub waits : Contains open' candidate
  pub is : candidate.node ≡ n
  pub near : candidate.distance ≤ x

abbrev pub IsSettled : List Mark → NodeNo → Type 0
IsSettled marks n = (k : ℕ) × (mark_of marks n ≡ Settled k)

-- a node at this distance needn't be looked for again
abbrev pub IsOffered : Option ℕ → List Mark → List Candidate → NodeNo → ℕ → Type 0
IsOffered radius marks open' n x = IsSettled marks n ⊎ (IsOutside radius x ⊎ Waits open' n x)

-- the roads of the settled nodes are offered; of the last one those below an index
abbrev pub AreOffered : Roads → Option ℕ → List Reached → List Mark → List Candidate → ℕ → Type 0
AreOffered h radius done marks open' i =
    (k : ℕ) (r : Reached) → slice_get done k ≡ Some r → (j : ℕ) (road : NodeNo × ℕ) → slice_get (ins h r.node) j ≡ Some road → (k + 1 < length done) ⊎ (j < i)
    → IsOffered radius marks open' road.0 (r.distance + road.1)

-- what holds of a search while it goes on
pub record IsSearch (h : Roads) (start : NodeNo) (radius : Option ℕ) (done : List Reached) (marks : List Mark) (open' : List Candidate) : Type 0 where
  pub graph : IsGraph h
  pub places : ArePlaces done marks
  pub many : length marks ≡ h.nodes + 1
  pub node : IsNode h start
  pub exact : (k : ℕ) (r : Reached) → slice_get done k ≡ Some r → IsDist h r.node start r.distance
  pub inside : (k : ℕ) (r : Reached) → slice_get done k ≡ Some r → IsInside radius r.distance
  pub rising : IsNonDecreasingBy (λ (r : Reached). r.distance) done
  pub back : (k : ℕ) (r : Reached) → slice_get done k ≡ Some r → HasWayBack To h start done k r
  pub candidates : All (IsCandidate h start radius done) open'
  pub above : (k : ℕ) (r : Reached) → slice_get done k ≡ Some r → All (λ (c : Candidate). r.distance ≤ c.distance) open'
  pub seen : (n : NodeNo) (x : ℕ) → mark_of marks n ≡ Seen x → Waits open' n x
  pub begun : IsOffered radius marks open' start 0

abbrev pub AllOffered : Roads → Option ℕ → List Reached → List Mark → List Candidate → Type 0
AllOffered h radius done marks open' =
    (k : ℕ) (r : Reached) → slice_get done k ≡ Some r → (j : ℕ) (road : NodeNo × ℕ) → slice_get (ins h r.node) j ≡ Some road → IsOffered radius marks open' road.0 (r.distance + road.1)

-- a candidate as the node that it becomes
abbrev pub reached_by : Candidate → Reached
reached_by c = record { node = c.node; distance = c.distance; parent = parent_in c.parent }

-- a mark and the radius tell that a node at this distance needn't be looked for
abbrev pub IsKnownBy : Option ℕ → Mark → ℕ → Type 0
IsKnownBy radius mark x = ((k : ℕ) × (mark ≡ Settled k)) ⊎ (IsOutside radius x ⊎ ((y : ℕ) × (mark ≡ Seen y) × (y ≤ x)))

-- or that it is
pub record IsNewBy (radius : Option ℕ) (mark : Mark) (x : ℕ) : Type 0 where
  pub inside : IsInside radius x
  pub unsettled : (k : ℕ) → mark ≡ Settled k → ⊥

-- a candidate now waits, and its node is marked so
pub record IsAdded (radius : Option ℕ) (marks marked : List Mark) (old new : List Candidate) (c : Candidate) : Type 0 where
  pub inside : IsInside radius c.distance
  pub unsettled : IsSettled marks c.node → ⊥
  pub is : marked ≡ slice_set marks c.node.0 (Seen c.distance)
  pub waits : IsPermutation (c ∷ old) new

-- a candidate was offered
abbrev pub Offers : Option ℕ → List Mark → List Mark → List Candidate → List Candidate → Candidate → Type 0
Offers radius marks marked old new c = (IsKnownBy radius (mark_of marks c.node) c.distance × (marked ≡ marks) × (new ≡ old)) ⊎ IsAdded radius marks marked old new c

abbrev pub IsSearchOf : Roads → Search → Type 0
IsSearchOf h s = IsSearch h s.start s.radius s.reached s.marks s.waiting

abbrev pub AllOfferedIn : Roads → Search → Type 0
AllOfferedIn h s = AllOffered h s.radius s.reached s.marks s.waiting

-- the search goes on with the same start, way and radius
pub record IsSameSearch (old new : Search) : Type 0 where
  pub way : new.way ≡ old.way
  pub start : new.start ≡ old.start
  pub radius : new.radius ≡ old.radius

-- what was listed stays, one node more comes after it
pub record HasOneMore (old new : Search) : Type 0 where
  pub node : Reached
  pub is : new.reached ≡ old.reached ++ node ∷ []

-- how many roads a search followed from the nodes that it listed
abbrev pub listed_roads : Way → Roads → Search → ℕ
listed_roads way g s = roads_by way g (nodes_of s.reached)

-- a count rose by the roads of the nodes that were listed, or by no more than the graph's roads leave
abbrev pub ReadsListed : Way → Roads → Search → Search → ℕ → ℕ → Type 0
ReadsListed way g old new before after = after + listed_roads way g old ≡ before + listed_roads way g new

abbrev pub ReadsNoMore : Way → Roads → Search → ℕ → ℕ → Type 0
ReadsNoMore way g old before after = after + listed_roads way g old ≤ before + length g.roads
