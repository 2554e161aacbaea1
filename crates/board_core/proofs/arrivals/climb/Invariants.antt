use Rattle.std.proofs.Common.{◌+◌, ◌*◌, ◌-◌, ◌%◌, ◌≤◌}
use Rattle.board_core.specs.Arrivals.{PassesNone, above, leaves_of}
use Rattle.board_core.proofs.arrivals.climb.Given as goal

abbrev pub invariant-loop-node : goal.invariant-loop-node
invariant-loop-node l = record {
  some : 1 ≤ l.node;
  within : l.node ≤ above l.height (2 * leaves_of l.tree - 1);
  passed : PassesNone (leaves_of l.tree) l.tree (leaves_of l.tree + l.place) l.now l.node l.height;
}

-- each pass goes up, or to the right from a node with an even number
abbrev pub decreases-loop-node : goal.decreases-loop-node
decreases-loop-node l = 2 * (2 * leaves_of l.tree - l.height) + 1 - l.node % 2
