use Rattle.plain_search.proofs.ArePairs.{ArePairs}
use Rattle.plain_search.proofs.tree.Reach.potential.Given as goal

abbrev pub invariant-loop-number : goal.invariant-loop-number
invariant-loop-number l = ArePairs l.fn.self.listed l.listed l.number
