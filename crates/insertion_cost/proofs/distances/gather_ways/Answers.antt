use Rattle.std.proofs.Common.{◌∙◌, sym, subst}
use Rattle.road_graph.specs.Roads.{Roads}
use Rattle.insertion_cost.specs.NodeWays.{AreNodesOf}
use Rattle.insertion_cost.proofs.BestPlain.{next_is_node, ways_more}
use Rattle.insertion_cost.proofs.distances.gather_ways.Goals as goal

pub ways_of-requires-in-loop-stop-clause-node : goal.ways_of-requires-in-loop-stop-clause-node
ways_of-requires-in-loop-stop-clause-node g c =
    next_is_node (g.D.Distances.graph c.loop-stop.distances) c.args.request.now c.args.front.now c.args.stops.now c.loop-stop.stop-index _ c.loop-stop-test.true
    (subst (λ (h : Roads). AreNodesOf h c.args.front.now c.args.stops.now) (sym c.loop-stop.invariant.kept) c.requires.nodes)

pub loop-stop-preserved : goal.loop-stop-preserved
loop-stop-preserved g c = record {
  kept = c.ways_of-in-loop-stop.ensures.kept ∙ c.loop-stop.invariant.kept;
  ways = ways_more (g.D.Distances.graph c.args.distances.now) c.args.request.now c.args.front.now c.args.stops.now c.loop-stop.stop-index _ c.loop-stop.ways.items c.push-in-loop-stop.new.self.items c.in_ok-ways_of-2.field-0 (g.D.Distances.graph c.loop-stop.distances) c.loop-stop-test.true
      c.loop-stop.invariant.ways c.loop-stop.invariant.kept c.in_ok-ways_of-2.ensures.ways c.in_ok-push-2.ensures.items;
}
