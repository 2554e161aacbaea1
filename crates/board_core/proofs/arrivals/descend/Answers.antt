use Rattle.std.proofs.Common.{rules, arith, ◌*◌, ◌<◌, length}
use Rattle.board_core.specs.Arrivals.{leaves_of}
use Rattle.board_core.proofs.ArrivalTrees.{inner, left_reached, right_reached, passed_more, lowered}
use Rattle.board_core.proofs.arrivals.descend.Goals as goal
use Rattle.board_core.proofs.arrivals.descend.Goals.{then-tree-node, else-tree-node}

pub bounds-tree-node : goal.bounds-tree-node
bounds-tree-node c = omega (arith, c.requires.tree.many, inner (leaves_of c.args.tree.now) c.loop-height.height c.loop-height.node c.requires.tree.some c.loop-height-test.true c.loop-height.invariant.due.within)

pub loop-height-preserved : goal.loop-height-preserved
loop-height-preserved c = elim c.if-tree-node.branch [
  | then-tree-node w ↦ rw w.node-is (record {
    due = right_reached _ _ c.requires.tree _ _ _ c.loop-height-test.true c.loop-height.invariant.due w.if-tree-node.true;
    passed = λ leaf a. passed_more _ _ c.requires.tree _ _ _ _ (omega (arith, c.loop-height.invariant.due.some)) w.if-tree-node.true (lowered _ _ _ _ _ _ c.loop-height-test.true (c.loop-height.invariant.passed leaf a));
  })
  | else-tree-node w ↦ rw w.node-is (record {
    due = left_reached _ _ _ _ _ c.loop-height-test.true c.loop-height.invariant.due w.if-tree-node.false;
    passed = λ leaf a. lowered _ _ _ _ _ _ c.loop-height-test.true (c.loop-height.invariant.passed leaf a);
  })
]

pub overflow_mul-node : goal.overflow_mul-node
overflow_mul-node c = let h : 2 * c.loop-height.node < length c.args.tree.now = omega (arith, c.requires.tree.many, inner (leaves_of c.args.tree.now) c.loop-height.height c.loop-height.node c.requires.tree.some c.loop-height-test.true c.loop-height.invariant.due.within) in search rules

pub offset_bounds-tree-node : goal.offset_bounds-tree-node
offset_bounds-tree-node c = let h : 2 * c.loop-height.node < length c.args.tree.now = omega (arith, c.requires.tree.many, inner (leaves_of c.args.tree.now) c.loop-height.height c.loop-height.node c.requires.tree.some c.loop-height-test.true c.loop-height.invariant.due.within) in search rules
