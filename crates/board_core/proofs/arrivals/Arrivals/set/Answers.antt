use Rattle.std.proofs.Common.{arith, ◌≡◌, ◌+◌, ◌∙◌, ap, length}
use Rattle.board_core.proofs.ArrivalTrees.{written, set_tree, places_long, half_of}
use Rattle.board_core.proofs.arrivals.Arrivals.set.Goals as goal

pub invariant_of-self : goal.invariant_of-self
invariant_of-self c =
    let same : length c.put_leaf.new.tree ≡ length c.self.inside.tree.items = c.put_leaf.auto.tree ∙ ap length c.deref_mut.ensures.value in
    let long : c.self.inside.tree.len ≡ length c.put_leaf.new.tree = omega (arith, same, c.self.inside.tree.ok.0) in
    rw (written c.put_leaf.new.tree c.self.inside.tree.items c.self.inside.tree.len long) (
    let halves = half_of (length c.deref_mut.result.now) (c.self.inside.places + 1) (ap length c.deref_mut.ensures.value ∙ c.self.invariant.many) in
    let least = rw halves at c.put_leaf.ensures.least in
    let leaves = rw (halves, c.deref_mut.ensures.value) at c.put_leaf.ensures.leaves in
    set_tree c.self.inside.places c.self.inside.tree.items c.put_leaf.new.tree c.args.place c.args.moment c.self.invariant same least leaves (omega (arith, c.requires, ap length c.self.view_is, places_long c.self.inside.places c.self.inside.tree.items c.self.invariant.many)))
