use Rattle.std.specs.Prelude.{◌≡◌, ℕ, ◌<◌, ◌≤◌, List, [], ◌∷◌, length, get_or, Contains, refl}
use Rattle.road_graph.specs.declared.road.NodeNo.{NodeNo}
use Rattle.road_graph.specs.Roads.{node}
use Rattle.upward_search.specs.declared.arc.RankArc.{RankArc}
use Rattle.contraction.specs.declared.queue.Candidate.{Candidate}
use Rattle.contraction.specs.declared.search.Mark.{Mark}
use Rattle.contraction.specs.declared.search.Search.{Search}
use Rattle.contraction.specs.Removing.{HasChain}
use Rattle.contraction.specs.Rows.{Stands}

-- the mark of a node
abbrev pub mark_of : List Mark → NodeNo → Mark
mark_of marks n = get_or marks n.0 (record { stamp = 0; length = 0 })

-- the marks are of no search
abbrev pub AreUnset : List Mark → Type 0
AreUnset marks = (k : ℕ) → k < length marks → (get_or marks k (record { stamp = 0; length = 0 })).stamp ≡ 0

-- there are so many marks, and none is of a later search
pub record IsMarked (count : ℕ) (s : Search) : Type 0 where
  pub many : length s.marks.items ≡ count
  pub old : (n : NodeNo) → n.0 < count → (mark_of s.marks.items n).stamp ≤ s.stamp

-- no mark is of this search
pub record IsUnmarked (count : ℕ) (s : Search) : Type 0 where
  pub many : length s.marks.items ≡ count
  pub older : (n : NodeNo) → n.0 < count → (mark_of s.marks.items n).stamp < s.stamp

-- arcs that stand in these rows lead from u to the candidate's node, and are together no longer than its key
pub record IsLed (rows : List (List RankArc)) (u : NodeNo) (c : Candidate) : Type 0 where
  pub within : c.node.0 < length rows
  pub chain : HasChain (Stands rows) u c.node c.key

-- the marks of the search and what waits are lengths of arcs that stand in these rows
pub record IsSearch (rows : List (List RankArc)) (s : Search) : Type 0 where
  pub marked : IsMarked (length rows) s
  pub real : (n : NodeNo) → n.0 < length rows → (mark_of s.marks.items n).stamp ≡ s.stamp → HasChain (Stands rows) s.start n (mark_of s.marks.items n).length
  pub waiting : (c : Candidate) → Contains s.waiting c → IsLed rows s.start c

-- so it is for any rows of that many nodes, since it has only begun
abbrev pub IsSearchOfAny : ℕ → Search → Type 0
IsSearchOfAny count s = (rows : List (List RankArc)) → length rows ≡ count → IsSearch rows s

-- the search reached the node by arcs that are together no longer than this
abbrev pub IsReached : Search → NodeNo → ℕ → Type 0
IsReached s n most = ((mark_of s.marks.items n).stamp ≡ s.stamp) × ((mark_of s.marks.items n).length ≤ most)

-- the search goes on as one along the same arcs, if such arcs lead to the candidate's node
abbrev pub Admits : Search → Candidate → Search → Type 0
Admits old c new = (rows : List (List RankArc)) → IsSearch rows old → IsLed rows old.start c → IsSearch rows new

second_mark : mark_of (record { stamp = 0; length = 0 } ∷ record { stamp = 3; length = 20 } ∷ []) (node 1) ≡ record { stamp = 3; length = 20 }
second_mark = refl

no_mark : mark_of [] (node 1) ≡ record { stamp = 0; length = 0 }
no_mark = refl
