use Rattle.std.proofs.Common.{length}
use Rattle.upward_search.specs.Searches.{AreDropped}
use Rattle.upward_search.proofs.waiting.Waiting.next_from.Given as goal

abbrev pub invariant-loop-first : goal.invariant-loop-first
invariant-loop-first l = AreDropped l.fn.floor l.fn.self l.self

abbrev pub decreases-loop-first : goal.decreases-loop-first
decreases-loop-first l = length l.self
