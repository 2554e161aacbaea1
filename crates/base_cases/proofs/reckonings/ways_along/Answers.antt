use Rattle.std.proofs.Common.{List, length, ap, subst, arith}
use Rattle.road_graph.specs.declared.road.NodeNo.{NodeNo}
use Rattle.insertion_cost.specs.NodeWays.{AreWaysOf}
use Rattle.stop_schedule.specs.declared.stop.Stop.{Stop}
use Rattle.stop_schedule.specs.Lists.{node_at}
use Rattle.base_cases.proofs.WaysAlong.{ways_more}
use Rattle.base_cases.proofs.reckonings.ways_along.Goals as goal

pub loop-k-preserved : goal.loop-k-preserved
loop-k-preserved c = record {
  within = let more = c.loop-k-test.true in let many = ap length c.stops.ensures.value in omega arith;
  ways = ways_more c.args.graph.now c.args.request.now c.args.front.now c.args.schedule.now.stops c.loop-k.k c.loop-k.ways.items _ _ c.loop-k.invariant.ways (subst (λ (stops : List Stop). AreWaysOf c.args.graph.now c.args.request.now (node_at c.args.front.now stops c.loop-k.k) c.in_ok-ways_of.field-0) c.stops-in-loop-k.ensures.value (subst (λ (n : NodeNo). AreWaysOf c.args.graph.now c.args.request.now n c.in_ok-ways_of.field-0) c.node_at-node.ensures c.in_ok-ways_of.ensures)) c.in_ok-push.ensures.items;
}
