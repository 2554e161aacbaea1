use Rattle.std.proofs.Common.{arith}
use Rattle.stop_schedule.specs.Times.{getting_on, getting_off}
use Rattle.stop_schedule.specs.declared.stop.StopKind.TheVariants.{Pickup, Dropoff}
use Rattle.stop_schedule.proofs.Aboard.{counts_one, few_more, few_taking}
use Rattle.stop_schedule.proofs.schedule.riders_before.Goals as goal
use Rattle.stop_schedule.proofs.schedule.riders_before.Goals.{in-Pickup, in-Dropoff}

pub loop-stop-preserved : goal.loop-stop-preserved
loop-stop-preserved c =
    let stops = c.args.stops.now in
    let k = c.loop-stop.stop-index in
    elim c.match-stop.branch [
      | in-Pickup w ↦ record {
        off = counts_one (getting_off c.args.seat) Pickup stops k c.loop-stop.off _ _ c.loop-stop-test.true w.in-Pickup.is (omega (arith, w.off-is)) c.loop-stop.invariant.off;
        on = counts_one (getting_on c.args.seat) Pickup stops k c.loop-stop.on _ _ c.loop-stop-test.true w.in-Pickup.is (omega (arith, w.on-is, w.taking-on.ensures)) c.loop-stop.invariant.on;
        few_off = omega (arith, w.off-is);
        few_on = few_more c.args.seat stops k c.loop-stop.on _ c.loop-stop-test.true (few_taking c.args.seat stops c.requires.small) (omega (arith, w.on-is, w.taking-on.ensures)) c.loop-stop.invariant.few_on;
      }
      | in-Dropoff w ↦ record {
        off = counts_one (getting_off c.args.seat) Dropoff stops k c.loop-stop.off _ _ c.loop-stop-test.true w.in-Dropoff.is (omega (arith, w.off-is, w.taking-off.ensures)) c.loop-stop.invariant.off;
        on = counts_one (getting_on c.args.seat) Dropoff stops k c.loop-stop.on _ _ c.loop-stop-test.true w.in-Dropoff.is (omega (arith, w.on-is)) c.loop-stop.invariant.on;
        few_off = few_more c.args.seat stops k c.loop-stop.off _ c.loop-stop-test.true (few_taking c.args.seat stops c.requires.small) (omega (arith, w.off-is, w.taking-off.ensures)) c.loop-stop.invariant.few_off;
        few_on = omega (arith, w.on-is);
      }
    ]
