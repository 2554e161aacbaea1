use Rattle.std.proofs.Common.{ℕ}
use Rattle.board_core.specs.Arrivals.{IsDue, PassesNone, leaves_of}
use Rattle.board_core.proofs.arrivals.descend.Given as goal

abbrev pub invariant-loop-height : goal.invariant-loop-height
invariant-loop-height l = record {
  due : IsDue (leaves_of l.tree) l.tree l.now l.node l.height;
  passed : (leaf : ℕ) → PassesNone (leaves_of l.tree) l.tree leaf l.now l.initial.node l.initial.height → PassesNone (leaves_of l.tree) l.tree leaf l.now l.node l.height;
}

abbrev pub decreases-loop-height : goal.decreases-loop-height
decreases-loop-height l = l.height
