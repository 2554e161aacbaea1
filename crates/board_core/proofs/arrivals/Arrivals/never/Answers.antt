use Rattle.std.proofs.Common.{arith, ◌≡◌, ◌+◌, ◌*◌, ◌∙◌, length}
use Rattle.board_core.proofs.ArrivalTrees.{written, first_tree, first_places, half_of}
use Rattle.board_core.proofs.arrivals.Arrivals.never.Goals as goal

pub invariant_of-result : goal.invariant_of-result
invariant_of-result c =
    let many : length c.put_leaf.new.tree ≡ 2 * c.args.count + 2 = c.put_leaf.auto.tree ∙ c.deref_mut.ensures.len ∙ c.in_ok-tree.ensures.len in
    let long : c.in_ok-tree.tree.len ≡ length c.put_leaf.new.tree = omega (arith, many, c.in_ok-tree.ensures.len) in
    rw (written c.put_leaf.new.tree c.in_ok-tree.tree.items c.in_ok-tree.tree.len long)
    (let halves = half_of (length c.deref_mut.result.now) (c.args.count + 1) (omega (arith, c.deref_mut.ensures.len, c.in_ok-tree.ensures.len)) in first_tree c.args.count 18446744073709551615 c.put_leaf.new.tree many (rw halves at c.put_leaf.ensures.least)
    (rw (halves, c.deref_mut.ensures.value, c.in_ok-tree.ensures.items_if_clones_equal (λ y e. e)) at c.put_leaf.ensures.leaves))

pub returns : goal.returns
returns c =
    let many : length c.put_leaf.new.tree ≡ 2 * c.args.count + 2 = c.put_leaf.auto.tree ∙ c.deref_mut.ensures.len ∙ c.in_ok-tree.ensures.len in
    let long : c.in_ok-tree.tree.len ≡ length c.put_leaf.new.tree = omega (arith, many, c.in_ok-tree.ensures.len) in
    rw (written c.put_leaf.new.tree c.in_ok-tree.tree.items c.in_ok-tree.tree.len long)
    (let halves = half_of (length c.deref_mut.result.now) (c.args.count + 1) (omega (arith, c.deref_mut.ensures.len, c.in_ok-tree.ensures.len)) in first_places c.args.count 18446744073709551615 c.put_leaf.new.tree
    (rw (halves, c.deref_mut.ensures.value, c.in_ok-tree.ensures.items_if_clones_equal (λ y e. e)) at c.put_leaf.ensures.leaves))
