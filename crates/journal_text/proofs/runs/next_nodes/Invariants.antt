use Rattle.std.proofs.Common.{◌-◌, length}
use Rattle.journal_text.proofs.RunsOfLines.{AreNodesSoFar}
use Rattle.journal_text.proofs.runs.next_nodes.Given as goal

abbrev pub invariant-loop-rest : goal.invariant-loop-rest
invariant-loop-rest l = AreNodesSoFar l.run l.rest l.bytes

abbrev pub decreases-loop-rest : goal.decreases-loop-rest
decreases-loop-rest l = 64 - length l.run
