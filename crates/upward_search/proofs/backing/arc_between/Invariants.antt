use Rattle.upward_search.specs.WaysBack.{LacksArc}
use Rattle.upward_search.proofs.backing.arc_between.Given as goal

abbrev pub invariant-loop-arc : goal.invariant-loop-arc
invariant-loop-arc l = LacksArc l.arcs l.below l.at l.arc-index
