use Rattle.std.proofs.Common.{◌≡◌, ◌+◌, ◌++◌, drop}
use Rattle.journal_text.specs.Certificates.{numbered_lines, joins_lines}
use Rattle.journal_text.proofs.certificate.push_joins.Given as goal

abbrev pub invariant-loop-potential : goal.invariant-loop-potential
invariant-loop-potential l = (l.out.items ++ numbered_lines l.number (drop l.potential-index l.joins) ≡ l.fn.out.items ++ joins_lines l.joins) × (l.number ≡ 5 + l.potential-index)
