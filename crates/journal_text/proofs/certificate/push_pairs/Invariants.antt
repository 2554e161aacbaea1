use Rattle.std.proofs.Common.{◌≡◌, ◌++◌, drop}
use Rattle.journal_text.specs.Certificates.{pairs_after}
use Rattle.journal_text.proofs.certificate.push_pairs.Given as goal

abbrev pub invariant-loop-node : goal.invariant-loop-node
invariant-loop-node l = l.out.items ++ pairs_after l.left (drop l.node-index l.pairs) ≡ l.fn.out.items ++ pairs_after 0 l.pairs
