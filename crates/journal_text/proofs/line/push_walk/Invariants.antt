use Rattle.std.proofs.Common.{◌≡◌, ◌++◌, drop}
use Rattle.journal_text.specs.Groups.{nodes_after, walk_lines}
use Rattle.journal_text.proofs.line.push_walk.Given as goal

abbrev pub invariant-loop-node : goal.invariant-loop-node
invariant-loop-node l = l.out.items ++ nodes_after l.leg l.left (drop l.node-index l.nodes) ≡ l.fn.out.items ++ walk_lines l.leg l.nodes
