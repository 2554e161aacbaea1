use Rattle.std.proofs.Common.{IsSome}
use Rattle.journal_cases.proofs.texts.survey.Given as goal

abbrev pub invariant-groups : goal.invariant-groups
invariant-groups l = IsSome l.shelf.begun
