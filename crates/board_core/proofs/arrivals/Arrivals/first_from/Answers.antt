use Rattle.std.proofs.Common.{◌+◌, length}
use Rattle.board_core.proofs.ArrivalTrees.{half_of, found_place, none_found}
use Rattle.board_core.proofs.arrivals.Arrivals.first_from.Goals as goal

pub returns-then-found-self : goal.returns-then-found-self
returns-then-found-self c =
    let halves = half_of (length c.self.inside.tree.items) (c.self.inside.places + 1) c.self.invariant.many in
    let passed = rw (c.deref.ensures.value, halves) at c.climb-node.ensures.passed in
    let below = rw (c.deref-2.ensures.value, halves) at c.descend.ensures.passed in
    let due = rw (c.deref-2.ensures.value, halves) at c.descend.ensures.due in
    rw (← c.self.view_is) (found_place _ _ c.self.invariant.many _ _ _ (below _ passed) due c.if-found-self.true)

pub returns-else-found-self : goal.returns-else-found-self
returns-else-found-self c =
    let halves = half_of (length c.self.inside.tree.items) (c.self.inside.places + 1) c.self.invariant.many in
    let passed = rw (c.deref.ensures.value, halves) at c.climb-node.ensures.passed in
    let below = rw (c.deref-2.ensures.value, halves) at c.descend.ensures.passed in
    rw (← c.self.view_is) (none_found _ _ c.self.invariant.many _ _ _ (below _ passed) c.if-found-self.false)
