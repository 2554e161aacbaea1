use Rattle.std.proofs.Common.{arith}
use Rattle.stop_schedule.proofs.TimeLaws.{read_at}
use Rattle.stop_schedule.proofs.ListLaws.{no_stop}
use Rattle.insertion_cost.proofs.BehindStops.{behind_more}
use Rattle.insertion_cost.proofs.behind.one_before.Goals as goal

pub returns : goal.returns
returns c =
    let p = c.args.schedule.now in
    let k = c.args.k in
    let there = read_at c.stops.result.now p.stops k no_stop c.stops.ensures.value c.requires.within in
    let small = c.stops.ensures.bounded.stops k _ there in
    behind_more c.args.params.now.stop p.until c.args.start.now p k c.length-length.result c.stop_at-takes.result c.saturating_sub.result c.halt_before.result _ c.leg.result.now c.args.behind.now c.with.result c.with-2.result
    there c.leg.ensures.value c.length-length.ensures.length c.halt_before.ensures c.stop_at-takes.ensures.value (let r = c.reached_by.ensures in let e = c.saturating_sub.ensures in omega (arith, r, e)) c.with.ensures.on c.with.ensures.off c.with-2.ensures.on c.with-2.ensures.off
    (let short = c.leg.ensures.bound in let e = c.length-length.ensures.length in omega (arith, short, e)) c.stop_at-takes.ensures.bound (let f = small.riders in omega (arith, f)) (let f = small.spaces in omega (arith, f)) c.requires.behind
