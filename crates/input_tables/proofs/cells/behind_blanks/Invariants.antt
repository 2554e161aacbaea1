use Rattle.std.proofs.Common.{◌≡◌, length}
use Rattle.input_tables.specs.Fleets.{behind_blanks}
use Rattle.input_tables.proofs.cells.behind_blanks.Given as goal

abbrev pub invariant-loop-first : goal.invariant-loop-first
invariant-loop-first l = behind_blanks l.rest ≡ behind_blanks l.fn.field

abbrev pub decreases-loop-first : goal.decreases-loop-first
decreases-loop-first l = length l.rest
