use Rattle.std.proofs.Common.{◌≡◌, ◌++◌, drop}
use Rattle.journal_text.specs.Groups.{spaced}
use Rattle.journal_text.proofs.line.push_numbers.Given as goal

abbrev pub invariant-loop-number : goal.invariant-loop-number
invariant-loop-number l = l.out.items ++ spaced (drop l.number-index l.numbers) ≡ l.fn.out.items ++ spaced l.numbers
