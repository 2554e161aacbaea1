use Rattle.std.specs.Prelude.{◌≡◌, ℕ, ◌+◌, ◌<◌, ◌≤◌, ◌==◌, List, [], ◌∷◌, length, map, filter, Contains, Option, refl}
use Rattle.std.specs.List.Sorted.{IsStrictlyIncreasing}
use Rattle.road_graph.specs.declared.road.NodeNo.{NodeNo}
use Rattle.road_graph.specs.Limits.{far}
use Rattle.road_graph.specs.Roads.{Roads, node}
use Rattle.road_graph.specs.Graphs.{IsGraph}
use Rattle.upward_search.specs.declared.arc.RankArc.{RankArc}
use Rattle.upward_search.specs.declared.way.Way.TheVariants.{From, To}
use Rattle.upward_search.specs.Chains.{IsChain, IsLeastChain}
use Rattle.upward_search.specs.Fitting.{rank_of, line_climbing, line_falling, line_ranks}
use Rattle.upward_search.specs.Names.{AreRestsBy}
use Rattle.upward_search.specs.Hierarchies.{Ranking, Fits, HasRank}

-- each node of a space ranks below the next
abbrev pub AreRisingRanks : Ranking → List (NodeNo × ℕ) → Type 0
AreRisingRanks h space = IsStrictlyIncreasing (map (λ (l : NodeNo × ℕ). rank_of h.ranks l.0) space)

-- nodes with ranks, each below the next
pub record AreRankedNodes (h : Ranking) (space : List (NodeNo × ℕ)) : Type 0 where
  pub rising : AreRisingRanks h space
  pub ranked : (n : NodeNo) (x : ℕ) → Contains space (n, x) → HasRank h n

-- exactly the nodes that climbing arcs reach from a node with a least length below the limit, each with that length
pub record IsForwardSpace (h : Ranking) (start : NodeNo) (space : List (NodeNo × ℕ)) : Type 0 where
  pub nodes : AreRankedNodes h space
  pub exact : (n : NodeNo) (x : ℕ) → Contains space (n, x) → IsLeastChain h.climbing start n x × (x < far)
  pub whole : (n : NodeNo) (chain : List RankArc) (x : ℕ) → IsChain (Contains h.climbing) start n chain x → x < far → (y : ℕ) × Contains space (n, y)

-- exactly the nodes from which falling arcs reach a node with a least length below the limit, each with that length
pub record IsBackwardSpace (h : Ranking) (end : NodeNo) (space : List (NodeNo × ℕ)) : Type 0 where
  pub nodes : AreRankedNodes h space
  pub exact : (n : NodeNo) (x : ℕ) → Contains space (n, x) → IsLeastChain h.falling n end x × (x < far)
  pub whole : (n : NodeNo) (chain : List RankArc) (x : ℕ) → IsChain (Contains h.falling) n end chain x → x < far → (y : ℕ) × Contains space (n, y)

-- how many arcs leave a node, and how many enter it
abbrev pub arcs_out : List RankArc → NodeNo → ℕ
arcs_out arcs n = length (filter (λ (a : RankArc). a.from.0 == n.0) arcs)

abbrev pub arcs_into : List RankArc → NodeNo → ℕ
arcs_into arcs n = length (filter (λ (a : RankArc). a.to.0 == n.0) arcs)

-- how many climbing arcs leave the nodes of a space, and how many falling arcs enter them
abbrev pub climbing_arcs : Ranking → List (NodeNo × ℕ) → ℕ
climbing_arcs h [] = 0
climbing_arcs h (l ∷ space) = arcs_out h.climbing l.0 + climbing_arcs h space

abbrev pub falling_arcs : Ranking → List (NodeNo × ℕ) → ℕ
falling_arcs h [] = 0
falling_arcs h (l ∷ space) = arcs_into h.falling l.0 + falling_arcs h space

-- exactly the arcs of the space were read
abbrev pub ReadsForward : Ranking → ℕ → ℕ → List (NodeNo × ℕ) → Type 0
ReadsForward h old new space = new ≡ old + climbing_arcs h space

abbrev pub ReadsBackward : Ranking → ℕ → ℕ → List (NodeNo × ℕ) → Type 0
ReadsBackward h old new space = new ≡ old + falling_arcs h space

-- no more was read than the arcs of the space
abbrev pub IsWithinForward : Ranking → NodeNo → ℕ → ℕ → Type 0
IsWithinForward h node old new = (space : List (NodeNo × ℕ)) → IsForwardSpace h node space → new ≤ old + climbing_arcs h space

abbrev pub IsWithinBackward : Ranking → NodeNo → ℕ → ℕ → Type 0
IsWithinBackward h node old new = (space : List (NodeNo × ℕ)) → IsBackwardSpace h node space → new ≤ old + falling_arcs h space

-- the spaces in which a search from one node to another looks, and the arcs that it reads there
abbrev pub AreSpaces : Ranking → NodeNo → NodeNo → List (NodeNo × ℕ) → List (NodeNo × ℕ) → Type 0
AreSpaces h from to there back = IsForwardSpace h from there × IsBackwardSpace h to back

abbrev pub both_arcs : Ranking → List (NodeNo × ℕ) → List (NodeNo × ℕ) → ℕ
both_arcs h there back = climbing_arcs h there + falling_arcs h back

-- exactly these were read, or no more
abbrev pub ReadsBoth : Ranking → NodeNo → NodeNo → ℕ → ℕ → Type 0
ReadsBoth h from to old new = (there back : List (NodeNo × ℕ)) → AreSpaces h from to there back → new ≡ old + both_arcs h there back

abbrev pub IsWithinBoth : Ranking → NodeNo → NodeNo → ℕ → ℕ → Type 0
IsWithinBoth h from to old new = (there back : List (NodeNo × ℕ)) → AreSpaces h from to there back → new ≤ old + both_arcs h there back

-- on each graph that the hierarchy fits these are the distances from the nodes of a space to a node
abbrev pub AreRestsTo : Ranking → List (NodeNo × ℕ) → NodeNo → List (Option ℕ) → Type 0
AreRestsTo h space to rests = (g : Roads) → IsGraph g → Fits g h → AreRestsBy From g space to rests

-- and these those from a node to them
abbrev pub AreRestsFrom : Ranking → List (NodeNo × ℕ) → NodeNo → List (Option ℕ) → Type 0
AreRestsFrom h space from rests = (g : Roads) → IsGraph g → Fits g h → AreRestsBy To g space from rests

-- the line of four nodes, on which the space of 2 is 2, 3, 1 and 4
abbrev pub line_hierarchy : Ranking
line_hierarchy = record { ranks = line_ranks; climbing = line_climbing; falling = line_falling }

abbrev pub line_space : List (NodeNo × ℕ)
line_space = (node 2, 0) ∷ (node 3, 10) ∷ (node 1, 10) ∷ (node 4, 20) ∷ []

all_five : climbing_arcs line_hierarchy line_space ≡ 5
all_five = refl

two_leave_two : arcs_out line_climbing (node 2) ≡ 2
two_leave_two = refl

none_enter_four : arcs_into line_falling (node 4) ≡ 0
none_enter_four = refl
