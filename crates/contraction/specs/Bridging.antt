use Rattle.std.specs.Prelude.{◌≡◌, ◌≢◌, ℕ, ◌+◌, ◌^◌, ◌<◌, ◌⊎◌, List, [], ◌∷◌, Option, Some, None, Contains}
use Rattle.road_graph.specs.declared.road.NodeNo.{NodeNo}
use Rattle.upward_search.specs.declared.arc.RankArc.{RankArc}
use Rattle.contraction.specs.declared.search.Search.{Search}
use Rattle.contraction.specs.Removing.{HasChain, IsBridge, AreBridged, IsEither}
use Rattle.contraction.specs.Rows.{Stands}
use Rattle.contraction.specs.Searching.{IsSearch}

-- each arc is shorter than far
abbrev pub AreLight : ℕ → List RankArc → Type 0
AreLight far arcs = (a : RankArc) → Contains arcs a → a.length < far

-- no arc is needed over a node, or the one that is
abbrev pub Bridges : ℕ → NodeNo → (RankArc → Type 0) → RankArc → RankArc → Option RankArc → Type 0
Bridges far k Beside down up None = down.length + up.length < far → HasChain Beside down.from up.to (down.length + up.length)
Bridges far k Beside down up (Some a) = (a ≡ record { from = down.from; to = up.to; length = down.length + up.length; middle = Some k }) × (down.from ≢ up.to) × (down.length + up.length < far)

-- the arcs that came over k for one arc into it and each of these out of it
pub record AreFrom (far : ℕ) (k : NodeNo) (down : RankArc) (outs : List RankArc) (Beside : RankArc → Type 0) (old new : List RankArc) : Type 0 where
  pub kept : (a : RankArc) → Contains old a → Contains new a
  pub made : (a : RankArc) → Contains new a → Contains old a ⊎ IsBridge far k (down ∷ []) outs a
  pub bridged : (up : RankArc) → Contains outs up → down.length + up.length < far → HasChain (IsEither Beside new) down.from up.to (down.length + up.length)

-- for each arc into k and each out of it the arcs aside and these are enough, and each of these is needed for two of those
pub record AreBridges (far : ℕ) (k : NodeNo) (ins outs : List RankArc) (Beside : RankArc → Type 0) (found : List RankArc) : Type 0 where
  pub made : (a : RankArc) → Contains found a → IsBridge far k ins outs a
  pub bridged : AreBridged far ins outs (IsEither Beside found)

-- the way over the two arcs doesn't lead back, and isn't too long
abbrev pub IsWanted : RankArc → RankArc → Type 0
IsWanted down up = (down.from ≢ up.to) × (down.length + up.length < 2 ^ 53)

-- the way is too long, or there are arcs that lead to its end and are no longer
abbrev pub IsSpared : RankArc → RankArc → Search → Type 0
IsSpared down up s = down.length + up.length < 2 ^ 53 → (rows : List (List RankArc)) → IsSearch rows s → s.start ≡ down.from → HasChain (Stands rows) down.from up.to (down.length + up.length)

-- the same of whatever rows the search went along, from the first node
abbrev pub BridgesBy : NodeNo → RankArc → RankArc → Search → Option RankArc → Type 0
BridgesBy k down up s o = (rows : List (List RankArc)) → IsSearch rows s → s.start ≡ down.from → Bridges (2 ^ 53) k (Stands rows) down up o
