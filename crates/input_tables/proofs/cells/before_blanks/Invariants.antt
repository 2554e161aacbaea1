use Rattle.std.proofs.Common.{◌≡◌, length, reverse}
use Rattle.input_tables.specs.Fleets.{behind_blanks}
use Rattle.input_tables.proofs.cells.before_blanks.Given as goal

abbrev pub invariant-loop-last : goal.invariant-loop-last
invariant-loop-last l = behind_blanks (reverse l.rest) ≡ behind_blanks (reverse l.fn.field)

abbrev pub decreases-loop-last : goal.decreases-loop-last
decreases-loop-last l = length l.rest
