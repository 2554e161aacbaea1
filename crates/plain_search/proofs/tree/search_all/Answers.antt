use Rattle.plain_search.proofs.IsReach.{falls, finished_after}
use Rattle.plain_search.proofs.tree.search_all.Goals as goal

pub settling-smaller : goal.settling-smaller
settling-smaller g c =
    let more = rw c.if-branch.true at c.in_ok-settle_nearest.ensures.more in
    falls c.args.graph.now c.settling.search c.settle_nearest.new.self more c.in_ok-settle_nearest.ensures.search

pub returns-clause-exact : goal.returns-clause-exact
returns-clause-exact g c =
    let e = c.in_ok-settle_nearest.ensures in
    let last = rw c.if-branch.false at e.more in
    rw c.of.ensures (finished_after c.args.graph.now c.settling.search c.settle_nearest.new.self e.same e.search e.offered last.0)
