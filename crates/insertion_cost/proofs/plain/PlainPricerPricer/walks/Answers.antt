use Rattle.insertion_cost.proofs.WalksOf.{offer_stands, offer_is_insertion, offer_has, offer_walks}
use Rattle.insertion_cost.proofs.plain.PlainPricerPricer.walks.Goals as goal

pub schedule-schedule-requires : goal.schedule-schedule-requires
schedule-schedule-requires g c = offer_stands c.args.self.now.graph.now (g.F.FleetView.fleet c.args.view.now) c.args.request.now c.args.offer.now c.requires.offer

pub changed_walks-requires-clause-insertion : goal.changed_walks-requires-clause-insertion
changed_walks-requires-clause-insertion g c = offer_is_insertion c.args.self.now.graph.now (g.F.FleetView.fleet c.args.view.now) c.args.request.now c.args.offer.now c.requires.offer c.schedule-schedule.result.now c.stops.result.now c.front-front.result c.clock.result c.schedule-schedule.ensures c.stops.ensures.value c.clock.ensures c.front-front.ensures.value

pub changed_walks-requires-clause-there : goal.changed_walks-requires-clause-there
changed_walks-requires-clause-there g c = offer_has c.args.self.now.graph.now (g.F.FleetView.fleet c.args.view.now) c.args.request.now c.args.offer.now c.requires.offer c.schedule-schedule.result.now c.stops.result.now c.front-front.result c.clock.result c.schedule-schedule.ensures c.stops.ensures.value c.clock.ensures c.front-front.ensures.value

pub returns-clause-walks : goal.returns-clause-walks
returns-clause-walks g c = offer_walks c.args.self.now.graph.now (g.F.FleetView.fleet c.args.view.now) c.args.request.now c.args.offer.now c.requires.offer c.schedule-schedule.result.now c.stops.result.now c.front-front.result c.clock.result c.schedule-schedule.ensures c.stops.ensures.value c.clock.ensures c.front-front.ensures.value c.changed_walks.result c.changed_walks.ensures.least
