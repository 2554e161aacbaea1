use Rattle.std.proofs.Common.{◌≡◌, Some}
use Rattle.lock_cases.proofs.notes.note_many.Given as goal

abbrev pub invariant-loop-number : goal.invariant-loop-number
invariant-loop-number g l = l.desk.lock ≡ Some l.lock
