use Rattle.std.specs.Prelude.{◌≡◌, ℕ, ◌+◌, ◌^◌, ◌<◌, ◌≤◌, ◌⊎◌, List, length, Contains}
use Rattle.road_graph.specs.declared.road.NodeNo.{NodeNo}
use Rattle.road_graph.specs.Roads.{Roads, IsNode}
use Rattle.upward_search.specs.Fitting.{rank_of}
use Rattle.upward_search.specs.declared.arc.RankArc.{RankArc}
use Rattle.contraction.specs.declared.rows.End.TheVariants.{From, To}
use Rattle.contraction.specs.declared.work.Work.{Work}
use Rattle.contraction.specs.Removing.{IsContracting}
use Rattle.contraction.specs.Rows.{row_of, AreStanding, AreSound, Stands}

-- so many nodes of the graph have been removed
pub record IsWork (g : Roads) (count : ℕ) (w : Work) : Type 0 where
  pub standing : AreStanding w.outs.items w.ins.items
  pub many_outs : length w.outs.items ≡ g.nodes + 1
  pub many_ins : length w.ins.items ≡ g.nodes + 1
  pub state : IsContracting g (2 ^ 53) w.ranks.items count w.climbing.items (Stands w.outs.items) w.falling.items

-- the rows are for so many numbers, and their arcs between such
pub record AreRows (count : ℕ) (w : Work) : Type 0 where
  pub many_outs : length w.outs.items ≡ count
  pub many_ins : length w.ins.items ≡ count
  pub outs : AreSound From w.outs.items
  pub ins : AreSound To w.ins.items

-- every node has been removed
abbrev pub AllDone : Roads → Work → ℕ → Type 0
AllDone g w count = (n : NodeNo) → IsNode g n → rank_of w.ranks.items n < count

-- these are the nodes 1 to a number
pub record AreNumbers (last : ℕ) (nodes : List NodeNo) : Type 0 where
  pub many : length nodes ≡ last
  pub each : (n : NodeNo) → 1 ≤ n.0 → n.0 ≤ last → Contains nodes n
  pub within : (n : NodeNo) → Contains nodes n → (1 ≤ n.0) × (n.0 ≤ last)

-- the node is removed, and those that were removed stay so
pub record IsNext (g : Roads) (old new : Work) (node : NodeNo) (rank next : ℕ) : Type 0 where
  pub few : next ≤ rank + 1
  pub done : rank_of new.ranks.items node < next
  pub kept : (n : NodeNo) → IsNode g n → rank_of old.ranks.items n < rank → rank_of new.ranks.items n < next

-- of these nodes some still have to be removed, and no others
pub record AreWaiting (g : Roads) (w : Work) (count : ℕ) (waiting : List NodeNo) : Type 0 where
  pub few : count + length waiting ≤ g.nodes
  pub nodes : (n : NodeNo) → Contains waiting n → IsNode g n
  pub each : (n : NodeNo) → IsNode g n → (rank_of w.ranks.items n < count) ⊎ Contains waiting n

-- these are so many rows, and none has an arc
pub record AreEmpty (count : ℕ) (rows : List (List RankArc)) : Type 0 where
  pub many : length rows ≡ count
  pub none : (n : NodeNo) (a : RankArc) → Contains (row_of rows n) a → ⊥
