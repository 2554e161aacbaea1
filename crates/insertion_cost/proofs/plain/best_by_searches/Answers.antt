use Rattle.std.proofs.lemmas.Result.{IfOk-weaker}
use Rattle.insertion_cost.proofs.WaysAlong.{along_read, no_direct}
use Rattle.insertion_cost.proofs.plain.best_by_searches.Goals as goal

pub returns-in-None : goal.returns-in-None
returns-in-None c = λ g car lawful are is. no_direct g c.args.request.now c.args.searches.now are c.args.params.now c.args.vehicle.place car c.args.front.now c.in-None.ensures

pub best_from-requires-clause-ways : goal.best_from-requires-clause-ways
best_from-requires-clause-ways c =
    (c.requires.graph.0, along_read c.requires.graph.0 c.args.request.now c.args.searches.now c.requires.graph.2 c.args.front.now c.args.schedule.now.stops c.stops.result.now _ c.deref.result.now c.in-Some.direct c.requires.graph.1 c.in-Some.ensures c.stops.ensures.value c.in_ok-gather.ensures c.deref.ensures.value)

pub returns-in-Some : goal.returns-in-Some
returns-in-Some c = IfOk-weaker c.best_from.result _ _ (λ best all. λ g car lawful are is. all g car
    (along_read g c.args.request.now c.args.searches.now are c.args.front.now c.args.schedule.now.stops c.stops.result.now _ c.deref.result.now c.in-Some.direct lawful c.in-Some.ensures c.stops.ensures.value c.in_ok-gather.ensures c.deref.ensures.value) is) c.best_from.ensures
