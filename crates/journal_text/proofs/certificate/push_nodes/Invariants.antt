use Rattle.std.proofs.Common.{◌≡◌, ◌++◌, drop}
use Rattle.journal_text.specs.Certificates.{direct_after}
use Rattle.journal_text.proofs.certificate.push_nodes.Given as goal

abbrev pub invariant-loop-node : goal.invariant-loop-node
invariant-loop-node l = l.out.items ++ direct_after l.left (drop l.node-index l.nodes) ≡ l.fn.out.items ++ direct_after 64 l.nodes
