use Rattle.std.specs.Prelude.{◌≡◌, ℕ, suc, ◌<◌, ◌≤◌, nat_lt, cond, List, [], ◌∷◌, ◌++◌, length, map, MatchOption, Option, Some, None, slice_index_or, refl}
use Rattle.road_graph.specs.declared.road.NodeNo.{NodeNo}
use Rattle.road_graph.specs.Roads.{Roads, IsNode, node}
use Rattle.road_graph.specs.Graphs.{IsGraph}
use Rattle.road_graph.specs.Walks.{IsDist, NoWalk}
use Rattle.upward_search.specs.declared.arc.RankArc.{RankArc}
use Rattle.upward_search.specs.declared.slope.Arc.{Arc}
use Rattle.upward_search.specs.Chains.{arc}
use Rattle.upward_search.specs.Fitting.{AreArcs, IsFitting}
use Rattle.upward_search.specs.Rows.{row}
use Rattle.upward_search.specs.Climbs.{IsIn}
use Rattle.upward_search.specs.Ladders.{Ladder, IsAt, IsRoadArc, IsTop}

-- the rank of each node, and the arcs
pub record Ranking : Type 0 where
  pub ranks : List ℕ
  pub climbing : List RankArc
  pub falling : List RankArc

-- the hierarchy fits the graph
abbrev pub Fits : Roads → Ranking → Type 0
Fits g h = IsFitting g h.ranks h.climbing h.falling

-- the hierarchy has as many climbing and as many falling arcs
abbrev pub HasAsMany : List RankArc → List RankArc → Ranking → Type 0
HasAsMany climbing falling h = (length h.climbing ≡ length climbing) × (length h.falling ≡ length falling)

-- on each graph that the hierarchy fits this is the distance, or there is no walk
abbrev pub IsDistanceOn : Ranking → NodeNo → NodeNo → Option ℕ → Type 0
IsDistanceOn h from to found = (g : Roads) → IsGraph g → Fits g h → MatchOption found (NoWalk g from to) (IsDist g from to)

-- the node has a rank
abbrev pub HasRank : Ranking → NodeNo → Type 0
HasRank h n = (1 ≤ n.0) × (n.0 < length h.ranks)

-- the node at a place, and the one that an arc at this lower end leads over
abbrev pub node_at : List NodeNo → ℕ → NodeNo
node_at nodes p = slice_index_or nodes p (node 0)

abbrev pub middle_at : List NodeNo → ℕ → ℕ → Option NodeNo
middle_at nodes low k = cond (nat_lt k low) (Some (node_at nodes k)) None

-- an arc of the row of its lower end, between nodes
abbrev pub climbing_arc : List NodeNo → ℕ → Arc → RankArc
climbing_arc nodes low a = record { from = node_at nodes low; to = node_at nodes a.to; length = a.length; middle = middle_at nodes low a.middle }

abbrev pub falling_arc : List NodeNo → ℕ → Arc → RankArc
falling_arc nodes low a = record { from = node_at nodes a.to; to = node_at nodes low; length = a.length; middle = middle_at nodes low a.middle }

-- the arcs of rows one after another, the first of them that of a place
abbrev pub arcs_by : (ℕ → Arc → RankArc) → ℕ → List (List Arc) → List RankArc
arcs_by make p [] = []
arcs_by make p (row ∷ rows) = map (make p) row ++ arcs_by make (suc p) rows

-- the places as ranks, and the arcs between nodes
abbrev pub ranking_of : Ladder → Ranking
ranking_of l = record { ranks = l.places; climbing = arcs_by (climbing_arc l.nodes) 0 l.climbs; falling = arcs_by (falling_arc l.nodes) 0 l.falls }

-- the hierarchy fits the graph, by its places
pub record LadderFits (g : Roads) (h : Ladder) : Type 0 where
  pub graph : IsGraph g
  pub nodes : (p : ℕ) (n : NodeNo) → IsAt h p n → IsNode g n
  pub climbing : (p : ℕ) (a : Arc) → IsIn (row h.climbs p) a → p ≤ a.middle → IsRoadArc g h p a.to a.length
  pub falling : (p : ℕ) (a : Arc) → IsIn (row h.falls p) a → p ≤ a.middle → IsRoadArc g h a.to p a.length
  pub arcs : AreArcs g (ranking_of h).ranks (ranking_of h).climbing (ranking_of h).falling
  pub covers : (p q : ℕ) (u v : NodeNo) (x : ℕ) → IsAt h p u → IsAt h q v → IsDist g u v x → IsTop h p q x

-- nodes 2, 1 and 3 in rising rank, with roads from 2 to 1 and to 3, and an arc from 1 over 2 to 3
two_rows : arcs_by (climbing_arc (node 2 ∷ node 1 ∷ node 3 ∷ [])) 0 ((record { to = 1; middle = 1; length = 7 } ∷ record { to = 2; middle = 2; length = 5 } ∷ []) ∷ (record { to = 2; middle = 0; length = 12 } ∷ []) ∷ [] ∷ [])
    ≡ arc 2 1 7 None ∷ arc 2 3 5 None ∷ arc 1 3 12 (Some (node 2)) ∷ []
two_rows = refl
