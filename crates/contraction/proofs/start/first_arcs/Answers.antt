use Rattle.std.proofs.Common.{◌+◌, ◌∙◌, refl, arith}
use Rattle.contraction.proofs.AreFirst.{first_none, first_more}
use Rattle.contraction.proofs.start.first_arcs.Goals as goal

pub loop-number-init : goal.loop-number-init
loop-number-init g c = record { found = rw c.new-found.ensures (first_none c.args.graph.now c.nodes-number-end.ensures.kept); asks = refl; steps = omega arith }

pub loop-number-preserved : goal.loop-number-preserved
loop-number-preserved g c = record {
  found = first_more c.args.graph.now c.loop-number.number (record { 0 = c.loop-number.number + 1 }) c.loop-number.found c.roads_into.new.found refl c.loop-number.invariant.found c.in_ok-roads_into.ensures.found;
  asks = c.in_ok-roads_into.ensures.asks ∙ c.loop-number.invariant.asks;
  steps = (let a = c.in_ok-roads_into.ensures.steps in let b = c.loop-number.invariant.steps in omega arith);
}
