use Rattle.std.proofs.Common.{◌≤◌}
use Rattle.contraction.proofs.bridge.count_from.Given as goal

abbrev pub invariant-loop-up : goal.invariant-loop-up
invariant-loop-up l = l.count ≤ l.up-index
