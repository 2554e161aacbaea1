use Rattle.std.proofs.Common.{take}
use Rattle.upward_search.specs.Names.{AreListed}
use Rattle.upward_search.proofs.levels.listed_nodes.Given as goal

abbrev pub invariant-loop-label : goal.invariant-loop-label
invariant-loop-label l = AreListed l.nodes (take l.label-index l.labels) l.listed
