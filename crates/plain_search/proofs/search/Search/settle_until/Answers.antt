use Rattle.plain_search.proofs.IsReach.{falls}
use Rattle.plain_search.proofs.search.Search.settle_until.Goals as goal

pub settling-smaller : goal.settling-smaller
settling-smaller g c =
    let more = rw c.if-branch.true at c.in_ok-settle_nearest.ensures.more in
    falls c.args.graph.now c.settling.self c.settle_nearest.new.self more c.in_ok-settle_nearest.ensures.search
