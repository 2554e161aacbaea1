use Rattle.std.proofs.Common.{IsSome}
use Rattle.journal_cases.proofs.texts.Journal.next.Given as goal

abbrev pub invariant-asks : goal.invariant-asks
invariant-asks l = IsSome l.shelf.begun
