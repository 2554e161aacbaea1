use Rattle.std.proofs.Common.{Option, sym, subst}
use Rattle.road_graph.specs.declared.road.NodeNo.{NodeNo}
use Rattle.road_graph.specs.Paths.{Path}
use Rattle.road_graph.specs.Walks.{IsLeastWalk}
use Rattle.insertion_cost.specs.Pricers.{HasDistance}
use Rattle.insertion_cost.proofs.ChangedWalks.{LeadsOut, leads_out, leads_nowhere, walks_together, walks_apart, has_into, has_between, has_on, has_in, has_out}
use Rattle.insertion_cost.proofs.plain.changed_walks.Goals as goal
use Rattle.insertion_cost.proofs.plain.changed_walks.Goals.{then-at-stops+in_ok-walk_between, else-at-stops}

pub walk_between-requires-clause-there : goal.walk_between-requires-clause-there
walk_between-requires-clause-there g c = subst (λ (n : NodeNo). HasDistance c.args.graph.now n c.args.request.now.pickup) (sym c.node_at-before.ensures) (has_into c.args.graph.now c.args.stops.now c.args.front.now c.args.request.now c.args.at c.requires.there)

pub walk_between-requires-then-at-stops-clause-there : goal.walk_between-requires-then-at-stops-clause-there
walk_between-requires-then-at-stops-clause-there g c = subst (λ (n : NodeNo). HasDistance c.args.graph.now c.args.request.now.dropoff n) (sym c.node_at-behind.ensures) (has_out c.args.graph.now c.args.stops.now c.args.front.now c.args.request.now c.args.at c.requires.there c.if-at-stops.true)

pub walk_between-requires-then-at-clause-there : goal.walk_between-requires-then-at-clause-there
walk_between-requires-then-at-clause-there g c = has_between c.args.graph.now c.args.stops.now c.args.front.now c.args.request.now c.args.at c.requires.there c.if-at.true

pub walk_between-requires-2-clause-there : goal.walk_between-requires-2-clause-there
walk_between-requires-2-clause-there g c = subst (λ (n : NodeNo). HasDistance c.args.graph.now c.args.request.now.pickup n) (sym c.node_at-next.ensures) (has_on c.args.graph.now c.args.stops.now c.args.front.now c.args.request.now c.args.at c.requires.there c.if-at.false)

pub walk_between-requires-3-clause-there : goal.walk_between-requires-3-clause-there
walk_between-requires-3-clause-there g c = subst (λ (n : NodeNo). HasDistance c.args.graph.now n c.args.request.now.dropoff) (sym c.node_at-last.ensures) (has_in c.args.graph.now c.args.stops.now c.args.front.now c.args.request.now c.args.at c.requires.there c.if-at.false)

pub returns-then-at-clause-least : goal.returns-then-at-clause-least
returns-then-at-clause-least g c =
    rw c.in_order.ensures
    (walks_together c.args.graph.now c.args.stops.now c.args.front.now c.args.request.now c.args.at c.in_ok-before_pickup.before_pickup c.in_ok-between.between c.if-at-stops.after_dropoff c.if-at.true
    (subst (λ (n : NodeNo). IsLeastWalk c.args.graph.now n c.args.request.now.pickup c.in_ok-before_pickup.before_pickup) c.node_at-before.ensures c.in_ok-before_pickup.ensures.walk) c.in_ok-between.ensures.walk
    (elim c.if-at-stops.branch [
      | then-at-stops+in_ok-walk_between v ↦ subst (λ (o : Option Path). LeadsOut c.args.graph.now c.args.stops.now c.args.front.now c.args.request.now c.args.at o) (sym v.after_dropoff-is) (leads_out c.args.graph.now c.args.stops.now c.args.front.now c.args.request.now c.args.at v.in_ok-walk_between.field-0 v.if-at-stops.true (subst (λ (n : NodeNo). IsLeastWalk c.args.graph.now c.args.request.now.dropoff n v.in_ok-walk_between.field-0) v.node_at-behind.ensures v.in_ok-walk_between.ensures.walk))
      | else-at-stops v ↦ subst (λ (o : Option Path). LeadsOut c.args.graph.now c.args.stops.now c.args.front.now c.args.request.now c.args.at o) (sym v.after_dropoff-is) (leads_nowhere c.args.graph.now c.args.stops.now c.args.front.now c.args.request.now c.args.at v.if-at-stops.false)
    ]))

pub returns-clause-least : goal.returns-clause-least
returns-clause-least g c =
    rw c.in_order-2.ensures
    (walks_apart c.args.graph.now c.args.stops.now c.args.front.now c.args.request.now c.args.at c.in_ok-before_pickup.before_pickup c.in_ok-after_pickup.after_pickup c.in_ok-before_dropoff.before_dropoff c.if-at-stops.after_dropoff c.if-at.false
    (subst (λ (n : NodeNo). IsLeastWalk c.args.graph.now n c.args.request.now.pickup c.in_ok-before_pickup.before_pickup) c.node_at-before.ensures c.in_ok-before_pickup.ensures.walk)
    (subst (λ (n : NodeNo). IsLeastWalk c.args.graph.now c.args.request.now.pickup n c.in_ok-after_pickup.after_pickup) c.node_at-next.ensures c.in_ok-after_pickup.ensures.walk)
    (subst (λ (n : NodeNo). IsLeastWalk c.args.graph.now n c.args.request.now.dropoff c.in_ok-before_dropoff.before_dropoff) c.node_at-last.ensures c.in_ok-before_dropoff.ensures.walk)
    (elim c.if-at-stops.branch [
      | then-at-stops+in_ok-walk_between v ↦ subst (λ (o : Option Path). LeadsOut c.args.graph.now c.args.stops.now c.args.front.now c.args.request.now c.args.at o) (sym v.after_dropoff-is) (leads_out c.args.graph.now c.args.stops.now c.args.front.now c.args.request.now c.args.at v.in_ok-walk_between.field-0 v.if-at-stops.true (subst (λ (n : NodeNo). IsLeastWalk c.args.graph.now c.args.request.now.dropoff n v.in_ok-walk_between.field-0) v.node_at-behind.ensures v.in_ok-walk_between.ensures.walk))
      | else-at-stops v ↦ subst (λ (o : Option Path). LeadsOut c.args.graph.now c.args.stops.now c.args.front.now c.args.request.now c.args.at o) (sym v.after_dropoff-is) (leads_nowhere c.args.graph.now c.args.stops.now c.args.front.now c.args.request.now c.args.at v.if-at-stops.false)
    ]))
