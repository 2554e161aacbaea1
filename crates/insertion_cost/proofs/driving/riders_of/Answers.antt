use Rattle.insertion_cost.proofs.Aboard.{on_more, off_more}
use Rattle.insertion_cost.proofs.driving.riders_of.Goals as goal

pub loop-stop-preserved : goal.loop-stop-preserved
loop-stop-preserved c =
    let on = on_more c.args.seat _ _ _ _ _ _ c.loop-stop-test.true c.requires.small c.loop-stop.invariant.on c.loop-stop.invariant.few_on c.with-riders.ensures.on in
    let off = off_more c.args.seat _ _ _ _ _ _ c.loop-stop-test.true c.requires.small c.loop-stop.invariant.off c.loop-stop.invariant.few_off c.with-riders.ensures.off in
    record { on = on.0; off = off.0; few_on = on.1; few_off = off.1 }
