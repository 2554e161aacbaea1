use Rattle.std.proofs.Common.{◌≡◌, ◌≢◌, ℕ, ◌<◌, ◌≤◌, drop, slice_set}
use Rattle.board_core.specs.Arrivals.{HasLeast, leaves_of}
use Rattle.board_core.proofs.arrivals.put_leaf.Given as goal

abbrev pub invariant-loop-node : goal.invariant-loop-node
invariant-loop-node l = record {
  within : l.node < leaves_of l.fn.tree;
  least : (k : ℕ) → 1 ≤ k → k < leaves_of l.fn.tree → k ≢ l.node → HasLeast l.tree k;
  leaves : drop (leaves_of l.fn.tree) l.tree ≡ slice_set (drop (leaves_of l.fn.tree) l.fn.tree) l.place l.moment;
}

abbrev pub decreases-loop-node : goal.decreases-loop-node
decreases-loop-node l = l.node
