use Rattle.std.proofs.Common.{IsSome}
use Rattle.program_cases.proofs.journals.read_through.Given as goal

abbrev pub invariant-groups : goal.invariant-groups
invariant-groups l = IsSome l.shelf.begun
