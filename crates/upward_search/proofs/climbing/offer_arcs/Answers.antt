use Rattle.std.proofs.Common.{arith, ap, ℕ, ◌∙◌}
use Rattle.upward_search.proofs.IsSearch.{offer_at}
use Rattle.upward_search.specs.Rows.{row}
use Rattle.upward_search.proofs.climbing.offer_arcs.Goals as goal

pub loop-arc-preserved : goal.loop-arc-preserved
loop-arc-preserved g c =
    let l = c.loop-arc.invariant in
    record {
      offered = offer_at (row c.args.slopes.now c.args.label.place) c.row-arc-items.result.now c.args.label c.args.waiting.now c.loop-arc.waiting c.offer.new.waiting c.loop-arc.arc-index (record { to = 0; length = 0; middle = 0 }) c.row-arc-items.ensures.row c.loop-arc-test.true l.offered c.in_ok-offer.ensures;
      steps = (let e = ap (λ (p : ℕ × ℕ). p.0) c.tick.ensures in let s = l.steps in omega arith);
      asks = ap (λ (p : ℕ × ℕ). p.1) c.tick.ensures ∙ l.asks;
    }
