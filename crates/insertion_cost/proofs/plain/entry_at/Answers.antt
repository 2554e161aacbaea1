use Rattle.insertion_cost.proofs.InFleet.{is_ahead, is_over_graph, is_kept, is_entry}
use Rattle.std.proofs.Common.{refl, arith}
use Rattle.insertion_cost.proofs.plain.entry_at.Goals as goal

pub front-front-requires : goal.front-front-requires
front-front-requires g c = record { ahead = is_ahead (g.F.FleetView.fleet c.args.view.now) c.args.place c.schedule-schedule.result.now c.clock.result c.requires.place c.schedule-schedule.ensures c.clock.ensures c.requires.searched.graph c.requires.searched.good }

pub best_by_searches-requires-clause-front : goal.best_by_searches-requires-clause-front
best_by_searches-requires-clause-front g c =
    c.front-front.ensures.time (let l = c.requires.searched.good.clock in let e = c.clock.ensures in omega arith)
    (is_over_graph (g.F.FleetView.fleet c.args.view.now) c.args.place c.schedule-schedule.result.now c.clock.result c.requires.place c.schedule-schedule.ensures c.clock.ensures c.requires.searched.graph c.requires.searched.lawful c.requires.searched.good)

pub best_by_searches-requires-clause-kept : goal.best_by_searches-requires-clause-kept
best_by_searches-requires-clause-kept g c =
    is_kept (g.F.FleetView.fleet c.args.view.now) c.args.place c.schedule-schedule.result.now c.clock.result c.requires.place c.schedule-schedule.ensures c.clock.ensures c.requires.searched.graph c.requires.searched.good c.params-params.result.now c.params-params.ensures

pub returns : goal.returns
returns g c = λ h lawful are. is_entry (g.F.FleetView.fleet c.args.view.now) c.args.place c.schedule-schedule.result.now c.clock.result c.requires.place c.schedule-schedule.ensures c.clock.ensures h c.args.request.now
    (record { no = c.no.result; place = c.args.place }) c.params-params.result.now c.front-front.result c.in_ok-best.best refl c.no.ensures c.params-params.ensures c.front-front.ensures.value (λ car is. c.in_ok-best.ensures h car lawful are is)
