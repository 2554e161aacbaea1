use Rattle.std.proofs.Common.{◌-◌, length}
use Rattle.journal_text.proofs.RunsOfLines.{ArePairsSoFar}
use Rattle.journal_text.proofs.runs.next_pairs.Given as goal

abbrev pub invariant-loop-rest : goal.invariant-loop-rest
invariant-loop-rest l = ArePairsSoFar l.run l.last l.fn.last l.rest l.bytes

abbrev pub decreases-loop-rest : goal.decreases-loop-rest
decreases-loop-rest l = 32 - length l.run
