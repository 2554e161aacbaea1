use Rattle.std.proofs.Common.{Ok, refl}
use Rattle.insertion_cost.proofs.InFleet.{is_ahead}
use Rattle.insertion_cost.proofs.PlainAnswer.{best_is, none_is, direct_told, direct_is_dist}
use Rattle.insertion_cost.proofs.WalksOf.{offer_stands, offer_is_insertion, offer_has, offer_walks}
use Rattle.insertion_cost.proofs.WaysAlong.{direct_is}
use Rattle.insertion_cost.proofs.plain.answer_by.Goals as goal

pub returns-in_default-clause-answer : goal.returns-in_default-clause-answer
returns-in_default-clause-answer g c =
    let h = c.args.graph.now in
    let fleet = g.F.FleetView.fleet c.args.view.now in
    let are = c.requires.searches in
    (refl, none_is h fleet c.args.request.now c.in_ok-offer.field-0 c.in_default.is (c.in_ok-offer.ensures h are.to_pickup.is_reach.reached.graph are))

pub unwrap-direct-requires : goal.unwrap-direct-requires
unwrap-direct-requires g c =
    let h = c.args.graph.now in
    let fleet = g.F.FleetView.fleet c.args.view.now in
    let are = c.requires.searches in
    let best = best_is h fleet c.args.request.now c.in_ok-offer.field-0 c.in-Some.offer c.in-Some.is (c.in_ok-offer.ensures h are.to_pickup.is_reach.reached.graph are) in
    rw c.from_pickup.ensures (direct_told h fleet c.args.request.now c.in-Some.offer _ best (direct_is h c.args.request.now c.args.searches.now are))

pub schedule-schedule-requires : goal.schedule-schedule-requires
schedule-schedule-requires g c =
    let h = c.args.graph.now in
    let fleet = g.F.FleetView.fleet c.args.view.now in
    let are = c.requires.searches in
    let best = best_is h fleet c.args.request.now c.in_ok-offer.field-0 c.in-Some.offer c.in-Some.is (c.in_ok-offer.ensures h are.to_pickup.is_reach.reached.graph are) in
    offer_stands h fleet c.args.request.now c.in-Some.offer best.feasible

pub front-front-requires : goal.front-front-requires
front-front-requires g c =
    let h = c.args.graph.now in
    let fleet = g.F.FleetView.fleet c.args.view.now in
    let are = c.requires.searches in
    let best = best_is h fleet c.args.request.now c.in_ok-offer.field-0 c.in-Some.offer c.in-Some.is (c.in_ok-offer.ensures h are.to_pickup.is_reach.reached.graph are) in
    record { ahead = is_ahead fleet c.in-Some.offer.place c.schedule-schedule.result.now c.clock.result (offer_stands h fleet c.args.request.now c.in-Some.offer best.feasible) c.schedule-schedule.ensures c.clock.ensures h c.requires.view.0 }

pub changed_walks-requires-clause-insertion : goal.changed_walks-requires-clause-insertion
changed_walks-requires-clause-insertion g c =
    let h = c.args.graph.now in
    let fleet = g.F.FleetView.fleet c.args.view.now in
    let are = c.requires.searches in
    let best = best_is h fleet c.args.request.now c.in_ok-offer.field-0 c.in-Some.offer c.in-Some.is (c.in_ok-offer.ensures h are.to_pickup.is_reach.reached.graph are) in
    offer_is_insertion h fleet c.args.request.now c.in-Some.offer best.feasible c.schedule-schedule.result.now c.stops.result.now c.front-front.result c.clock.result c.schedule-schedule.ensures c.stops.ensures.value c.clock.ensures c.front-front.ensures.value

pub changed_walks-requires-clause-there : goal.changed_walks-requires-clause-there
changed_walks-requires-clause-there g c =
    let h = c.args.graph.now in
    let fleet = g.F.FleetView.fleet c.args.view.now in
    let are = c.requires.searches in
    let best = best_is h fleet c.args.request.now c.in_ok-offer.field-0 c.in-Some.offer c.in-Some.is (c.in_ok-offer.ensures h are.to_pickup.is_reach.reached.graph are) in
    offer_has h fleet c.args.request.now c.in-Some.offer best.feasible c.schedule-schedule.result.now c.stops.result.now c.front-front.result c.clock.result c.schedule-schedule.ensures c.stops.ensures.value c.clock.ensures c.front-front.ensures.value

pub returns-clause-answer : goal.returns-clause-answer
returns-clause-answer g c =
    let h = c.args.graph.now in
    let fleet = g.F.FleetView.fleet c.args.view.now in
    let are = c.requires.searches in
    let best = best_is h fleet c.args.request.now c.in_ok-offer.field-0 c.in-Some.offer c.in-Some.is (c.in_ok-offer.ensures h are.to_pickup.is_reach.reached.graph are) in
    record {
      best = best;
      direct_way = direct_is_dist h c.args.request.now c.from_pickup.result c.unwrap-direct.result c.unwrap-direct.ensures (rw c.from_pickup.ensures (direct_is h c.args.request.now c.args.searches.now are));
      walks = offer_walks h fleet c.args.request.now c.in-Some.offer best.feasible c.schedule-schedule.result.now c.stops.result.now c.front-front.result c.clock.result c.schedule-schedule.ensures c.stops.ensures.value c.clock.ensures c.front-front.ensures.value {E = Unit {0}} (Ok c.in_ok-walks.walks) c.in_ok-walks.ensures.least;
    }
