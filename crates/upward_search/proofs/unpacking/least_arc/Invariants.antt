use Rattle.upward_search.specs.Parts.{IsLeastArcBelow}
use Rattle.upward_search.proofs.unpacking.least_arc.Given as goal

abbrev pub invariant-loop-arc : goal.invariant-loop-arc
invariant-loop-arc l = IsLeastArcBelow l.arcs l.to l.arc-index l.least
