use Rattle.board_core.proofs.SignTrees.{first_least}
use Rattle.board_core.proofs.waiting.Signs.least.Goals as goal

pub returns-in-Some : goal.returns-in-Some
returns-in-Some c =
    let long = rw c.deref.ensures.value at c.in-Some.ensures.lookup.3.0 in
    let here = rw c.deref.ensures.value at (c.in-Some.ensures.lookup.3.1 0) in
    rw (← c.self.view_is) (first_least c.self.inside.tree.items c.in-Some.least.now c.self.invariant long here)
