use Rattle.upward_search.specs.Joints.{LackJoints}
use Rattle.upward_search.proofs.topping.top_of.Given as goal

abbrev pub invariant-loop-index : goal.invariant-loop-index
invariant-loop-index l = LackJoints l.left l.right l.total l.index
