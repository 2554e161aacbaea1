use Rattle.plain_search.proofs.WalkBack.{IsTracing, left_after}
use Rattle.plain_search.proofs.tree.Reach.walk_back.Given as goal

abbrev pub invariant-loop-at : goal.invariant-loop-at
invariant-loop-at g l = IsTracing l.fn.graph l.fn.self l.fn.node l.nodes.items l.at

abbrev pub decreases-loop-at : goal.decreases-loop-at
decreases-loop-at g l = left_after l.at
