use Rattle.std.proofs.Common.{◌-◌, arith}
use Rattle.stop_schedule.proofs.ListLaws.{no_stop}
use Rattle.stop_schedule.proofs.TimeLaws.{read_at}
use Rattle.leeway.proofs.LatestArrivals.{leaves_more}
use Rattle.leeway.proofs.leeways.leaves_by.Goals as goal

pub loop-k-preserved : goal.loop-k-preserved
loop-k-preserved c =
    let p = c.args.schedule.now in
    let k = c.loop-k.k - 1 in
    let there = read_at c.stops.result.now p.stops k no_stop c.stops.ensures.value (omega (arith, c.loop-k-test.true, c.loop-k.invariant)) in
    record {
      latest = leaves_more c.args.params.now.stop p.until p k c.loop-k.k _ c.loop-k.latest _ _ _ _ _ _ _ _ (omega (arith, c.loop-k-test.true)) there c.leg.ensures.value c.loop-k.invariant.latest c.halt_at.ensures
          c.stop_at-takes.ensures.value c.left_by.ensures c.saturating_sub.ensures c.reached_by-reached.ensures c.length.ensures.length c.saturating_sub-latest.ensures;
      from = omega (arith, c.loop-k-test.true);
      to = omega (arith, c.loop-k.invariant);
    }
