use Rattle.std.specs.Prelude.{◌≡◌, ◌≢◌, ℕ, ◌^◌, ◌<◌, ◌≤◌, ◌⊎◌, ◌==◌, ◌&&◌, nat_le, not, Bool, true, false, IsTrue, List, [], ◌∷◌, length, get_or, Contains, Some, None, refl}
use Rattle.road_graph.specs.declared.road.NodeNo.{NodeNo}
use Rattle.road_graph.specs.Roads.{node}
use Rattle.upward_search.specs.declared.arc.RankArc.{RankArc}
use Rattle.upward_search.specs.Chains.{arc}
use Rattle.contraction.specs.declared.rows.End.{End}
use Rattle.contraction.specs.declared.rows.End.TheVariants.{From, To}

abbrev pub near_end : End → RankArc → NodeNo
near_end From a = a.from
near_end To a = a.to

abbrev pub far_end : End → RankArc → NodeNo
far_end From a = a.to
far_end To a = a.from

abbrev pub leads_elsewhere : End → NodeNo → RankArc → Bool
leads_elsewhere end k a = not ((far_end end a).0 == k.0)

-- a doesn't give way to the new arc: it has other ends, or is shorter
abbrev pub is_beside : RankArc → RankArc → Bool
is_beside new a = not ((a.from.0 == new.from.0) && (a.to.0 == new.to.0) && nat_le new.length a.length)

-- the row of a node
abbrev pub row_of : List (List RankArc) → NodeNo → List RankArc
row_of rows n = get_or rows n.0 []

-- from the rows at which these arcs are listed the arcs to k are gone, and no others
pub record AreDetached (end : End) (k : NodeNo) (arcs : List RankArc) (old new : List (List RankArc)) : Type 0 where
  pub many : length new ≡ length old
  pub kept : (n : NodeNo) (a : RankArc) → Contains (row_of old n) a → far_end end a ≢ k → Contains (row_of new n) a
  pub was : (n : NodeNo) (a : RankArc) → Contains (row_of new n) a → Contains (row_of old n) a
  pub gone : (o : RankArc) → Contains arcs o → (a : RankArc) → Contains (row_of new (near_end end o)) a → far_end end a ≢ k

-- the arc came into the row at which it is listed, and those that give way to it are gone
pub record IsAttached (end : End) (arc : RankArc) (old new : List (List RankArc)) : Type 0 where
  pub many : length new ≡ length old
  pub kept : (n : NodeNo) (a : RankArc) → Contains (row_of old n) a → IsTrue (is_beside arc a) → Contains (row_of new n) a
  pub came : Contains (row_of new (near_end end arc)) arc
  pub was : (n : NodeNo) (a : RankArc) → near_end end a ≡ n → Contains (row_of new n) a → (Contains (row_of old n) a × IsTrue (is_beside arc a)) ⊎ (arc ≡ a)
  pub own : (n : NodeNo) (a : RankArc) → Contains (row_of new n) a → Contains (row_of old n) a ⊎ (near_end end a ≡ n)

-- each arc stands in the row of its first node and in the row of its last
pub record AreStanding (outs ins : List (List RankArc)) : Type 0 where
  pub out_from : (n : NodeNo) (a : RankArc) → Contains (row_of outs n) a → a.from ≡ n
  pub in_to : (n : NodeNo) (a : RankArc) → Contains (row_of ins n) a → a.to ≡ n
  pub in_both : (a : RankArc) → Contains (row_of outs a.from) a → Contains (row_of ins a.to) a
  pub out_both : (a : RankArc) → Contains (row_of ins a.to) a → Contains (row_of outs a.from) a

-- the arc stands in its row
abbrev pub Stands : List (List RankArc) → RankArc → Type 0
Stands outs a = Contains (row_of outs a.from) a

-- an arc of this kind has the same ends and is no longer
pub record HasNoLonger (Kind : RankArc → Type 0) (a : RankArc) : Type 0 where
  pub arc : RankArc
  pub here : Kind arc
  pub from : arc.from ≡ a.from
  pub to : arc.to ≡ a.to
  pub short : arc.length ≤ a.length

-- these arcs came into both of their rows, and where one of two between the same nodes is no longer, the other may be gone
pub record ArePut (arcs : List RankArc) (outs ins outs' ins' : List (List RankArc)) : Type 0 where
  pub standing : AreStanding outs' ins'
  pub many_outs : length outs' ≡ length outs
  pub many_ins : length ins' ≡ length ins
  pub kept : (a : RankArc) → Stands outs a → HasNoLonger (Stands outs') a
  pub came : (a : RankArc) → Contains arcs a → HasNoLonger (Stands outs') a
  pub was : (a : RankArc) → Stands outs' a → Stands outs a ⊎ Contains arcs a

-- the ends of the arc are below a number, and it is short
pub record IsHere (count : ℕ) (a : RankArc) : Type 0 where
  pub from : a.from.0 < count
  pub to : a.to.0 < count
  pub light : a.length < 2 ^ 53

abbrev pub AreHere : ℕ → List RankArc → Type 0
AreHere count arcs = (a : RankArc) → Contains arcs a → IsHere count a

-- each arc stands in the row of one of its ends, and both have rows
abbrev pub AreSound : End → List (List RankArc) → Type 0
AreSound end rows = (n : NodeNo) (a : RankArc) → Contains (row_of rows n) a → IsHere (length rows) a × (near_end end a ≡ n)

longer_gives_way : is_beside (arc 1 2 5 None) (arc 1 2 7 (Some (node 3))) ≡ false
longer_gives_way = refl

shorter_stays : is_beside (arc 1 2 5 None) (arc 1 2 4 None) ≡ true
shorter_stays = refl

another_end_stays : is_beside (arc 1 2 5 None) (arc 1 3 7 None) ≡ true
another_end_stays = refl

to_the_node : leads_elsewhere From (node 2) (arc 1 2 5 None) ≡ false
to_the_node = refl

row_of_two : row_of ([] ∷ (arc 1 2 5 None ∷ []) ∷ (arc 2 1 5 None ∷ []) ∷ []) (node 2) ≡ arc 2 1 5 None ∷ []
row_of_two = refl

row_of_none : row_of ([] ∷ (arc 1 2 5 None ∷ []) ∷ []) (node 2) ≡ []
row_of_none = refl
