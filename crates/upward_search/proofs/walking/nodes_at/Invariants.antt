use Rattle.std.proofs.Common.{take}
use Rattle.upward_search.specs.Names.{AreNamed}
use Rattle.upward_search.proofs.walking.nodes_at.Given as goal

abbrev pub invariant-loop-label : goal.invariant-loop-label
invariant-loop-label l = AreNamed l.nodes (take l.label-index l.line) l.named.items
