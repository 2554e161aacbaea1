use Rattle.std.proofs.Common.{refl, arith}
use Rattle.std.proofs.lemmas.Result.{IfOk-weaker}
use Rattle.insertion_cost.proofs.InFleet.{is_ahead, is_over_graph, is_kept, is_entry}
use Rattle.insertion_cost.proofs.BestPlain.{nodes_at, ways_all}
use Rattle.insertion_cost.proofs.distances.best_at.Goals as goal

pub front-front-requires : goal.front-front-requires
front-front-requires g c = record { ahead = is_ahead (g.F.FleetView.fleet c.args.view.now) c.args.place c.schedule-schedule.result.now c.clock.result c.requires.place c.schedule-schedule.ensures c.clock.ensures (g.D.Distances.graph c.args.distances.now) c.requires.fleet }

pub gather_ways-requires-clause-nodes : goal.gather_ways-requires-clause-nodes
gather_ways-requires-clause-nodes g c =
    nodes_at (g.D.Distances.graph c.args.distances.now) c.requires.graph (g.F.FleetView.fleet c.args.view.now) c.requires.fleet c.args.place c.schedule-schedule.result.now c.clock.result c.front-front.result c.stops.result.now c.requires.place
    c.schedule-schedule.ensures c.clock.ensures c.front-front.ensures.value c.stops.ensures.value

pub best_from-requires-clause-front : goal.best_from-requires-clause-front
best_from-requires-clause-front g c =
    c.front-front.ensures.time (let l = c.requires.fleet.clock in let e = c.clock.ensures in omega arith)
    (is_over_graph (g.F.FleetView.fleet c.args.view.now) c.args.place c.schedule-schedule.result.now c.clock.result c.requires.place c.schedule-schedule.ensures c.clock.ensures (g.D.Distances.graph c.args.distances.now) c.requires.graph c.requires.fleet)

pub best_from-requires-clause-kept : goal.best_from-requires-clause-kept
best_from-requires-clause-kept g c =
    is_kept (g.F.FleetView.fleet c.args.view.now) c.args.place c.schedule-schedule.result.now c.clock.result c.requires.place c.schedule-schedule.ensures c.clock.ensures (g.D.Distances.graph c.args.distances.now) c.requires.fleet c.params-params.result.now c.params-params.ensures

pub returns-clause-best : goal.returns-clause-best
returns-clause-best g c = IfOk-weaker c.best_from.result _ _ (λ best all. λ car h. (is_entry (g.F.FleetView.fleet c.args.view.now) c.args.place c.schedule-schedule.result.now c.clock.result c.requires.place c.schedule-schedule.ensures c.clock.ensures (g.D.Distances.graph c.args.distances.now) c.args.request.now
    (record { no = c.no.result; place = c.args.place }) c.params-params.result.now c.front-front.result best refl c.no.ensures c.params-params.ensures c.front-front.ensures.value
    (λ d is. all (g.D.Distances.graph c.args.distances.now) d
    (ways_all (g.D.Distances.graph c.args.distances.now) c.args.request.now c.front-front.result c.schedule-schedule.result.now.stops c.stops.result.now c.args.direct _ c.deref.result.now c.requires.graph c.requires.direct c.stops.ensures.value c.in_ok-gather_ways.ensures.ways c.deref.ensures.value) is) car h).best) c.best_from.ensures
