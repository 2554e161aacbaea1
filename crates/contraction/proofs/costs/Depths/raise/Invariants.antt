use Rattle.std.proofs.Common.{◌≡◌, length}
use Rattle.contraction.proofs.costs.Depths.raise.Given as goal

abbrev pub invariant-loop-arc : goal.invariant-loop-arc
invariant-loop-arc l = length l.self.each.items ≡ length l.fn.self.each.items
