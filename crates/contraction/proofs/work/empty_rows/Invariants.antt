use Rattle.contraction.specs.Working.{AreEmpty}
use Rattle.contraction.proofs.work.empty_rows.Given as goal

abbrev pub invariant-empty : goal.invariant-empty
invariant-empty l = AreEmpty l.counter l.rows.items
