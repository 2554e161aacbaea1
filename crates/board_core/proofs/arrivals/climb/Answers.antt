use Rattle.std.proofs.Common.{rules, arith, ◌≡◌, ◌+◌, ◌*◌, ◌-◌, ◌/◌, ◌<◌, ◌≤◌, length}
use Rattle.board_core.specs.Arrivals.{above, leaves_of}
use Rattle.board_core.proofs.ArrivalTrees.{above-le, height-le, sentinel, passed_more, lifted, within_above}
use Rattle.board_core.proofs.arrivals.climb.Goals as goal

pub bounds-tree-node : goal.bounds-tree-node
bounds-tree-node c = omega (arith, c.requires.tree.many, c.loop-node.invariant.within, above-le c.loop-node.height (2 * leaves_of c.args.tree.now - 1))

pub overflow_add-height : goal.overflow_add-height
overflow_add-height c = let h : c.loop-node.height + 1 ≤ length c.args.tree.now = omega (arith, c.requires.tree.many, c.requires.tree.some, height-le c.loop-node.height (2 * leaves_of c.args.tree.now - 1) (omega (arith, c.loop-node.invariant.some, c.loop-node.invariant.within))) in search rules

pub loop-node-smaller-then-node-eq0 : goal.loop-node-smaller-then-node-eq0
loop-node-smaller-then-node-eq0 c =
    let h : 2 * c.loop-node.height ≤ 2 * leaves_of c.args.tree.now - 1 = height-le c.loop-node.height (2 * leaves_of c.args.tree.now - 1) (omega (arith, c.loop-node.invariant.some, c.loop-node.invariant.within)) in
    grind (arith, h, c.if-node-eq0.true, c.requires.tree.some)

pub loop-node-preserved : goal.loop-node-preserved
loop-node-preserved c = record {
  some = omega arith;
  within = sentinel _ _ c.requires.tree c.args.now _ _ c.loop-node.invariant.some c.loop-node.invariant.within c.loop-node-test.true;
  passed = passed_more _ _ c.requires.tree _ _ _ _ c.loop-node.invariant.some c.loop-node-test.true c.loop-node.invariant.passed;
}

pub loop-node-preserved-then-node-eq0 : goal.loop-node-preserved-then-node-eq0
loop-node-preserved-then-node-eq0 c =
    let within : c.loop-node.node + 1 ≤ above c.loop-node.height (2 * leaves_of c.args.tree.now - 1) = sentinel _ _ c.requires.tree c.args.now _ _ c.loop-node.invariant.some c.loop-node.invariant.within c.loop-node-test.true in
    let even : c.loop-node.node + 1 ≡ 2 * ((c.loop-node.node + 1) / 2) = grind (arith, c.if-node-eq0.true) in
    record {
      some = omega (arith, even);
      within = within_above _ c.loop-node.height (2 * leaves_of c.args.tree.now - 1) within;
      passed = lifted _ _ _ _ _ _ even (passed_more _ _ c.requires.tree _ _ _ _ c.loop-node.invariant.some c.loop-node-test.true c.loop-node.invariant.passed);
    }

pub offset_bounds-tree-node : goal.offset_bounds-tree-node
offset_bounds-tree-node c = let h : c.loop-node.node < length c.args.tree.now = omega (arith, c.requires.tree.many, c.loop-node.invariant.within, above-le c.loop-node.height (2 * leaves_of c.args.tree.now - 1)) in search rules
