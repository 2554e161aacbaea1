use Rattle.std.proofs.Common.{length}
use Rattle.contraction.specs.Searching.{IsMarked}
use Rattle.contraction.proofs.costs.count_needed.Given as goal

abbrev pub invariant-loop-down : goal.invariant-loop-down
invariant-loop-down l = IsMarked (length l.work.outs.items) l.search
