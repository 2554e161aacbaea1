use Rattle.std.proofs.Common.{◌∙◌, ap, arith, ℕ}
use Rattle.contraction.proofs.AreFirst.{into_more}
use Rattle.contraction.proofs.start.roads_into.Goals as goal

pub loop-index-preserved : goal.loop-index-preserved
loop-index-preserved g c = record {
  found = into_more c.args.graph.now c.args.node c.loop-index.index c.args.found.now c.loop-index.found c.push_maybe.new.found c.in_road-weight.result.0 c.in_road-weight.result.1 c.road_arc.result
      c.loop-index.invariant.found c.in_road-weight.ensures.road c.road_arc.ensures.first c.in_ok-push_maybe.ensures;
  asks = c.road_arc.ensures.asks ∙ (ap (λ (p : ℕ × ℕ). p.1) c.in_road-weight.ensures.steps ∙ c.loop-index.invariant.asks);
  steps = (let r = c.road_arc.ensures.steps in let e = ap (λ (p : ℕ × ℕ). p.0) c.in_road-weight.ensures.steps in let b = c.loop-index.invariant.steps in omega arith);
}
