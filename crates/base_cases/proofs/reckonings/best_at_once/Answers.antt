use Rattle.base_cases.proofs.WaysAlong.{along}
use Rattle.base_cases.proofs.reckonings.best_at_once.Goals as goal

pub best_from-requires-clause-ways : goal.best_from-requires-clause-ways
best_from-requires-clause-ways c =
    (c.args.graph.now, along c.args.graph.now c.args.request.now c.args.front.now c.args.schedule.now.stops c.in-Some.direct c.in_ok-direct.field-0 c.in_ok-ways.ways.items c.as_slice.result.now c.nodes.ensures.kept c.in_ok-direct.ensures c.in-Some.is c.in_ok-ways.ensures c.as_slice.ensures.value)
