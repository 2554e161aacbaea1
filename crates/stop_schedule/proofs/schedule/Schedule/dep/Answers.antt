use Rattle.std.proofs.Common.{arith, sym, rules}
use Rattle.stop_schedule.specs.Plans.{course_of}
use Rattle.stop_schedule.proofs.Departs.{departs_more, halts_more, length_at, read_at}
use Rattle.stop_schedule.proofs.Aboard.{no_stop}
use Rattle.stop_schedule.proofs.schedule.Schedule.dep.Goals as goal

pub loop-k-preserved : goal.loop-k-preserved
loop-k-preserved c =
    let p = c.args.self.now in
    let k = c.loop-k.k in
    let there = read_at c.stops.result.now p.stops k no_stop c.stops.ensures.value (omega (arith, c.loop-k-test.true, c.requires)) in
    let leg = length_at p.legs k c.leg.result.now c.leg.ensures.value in
    record {
      time = departs_more c.args.params.now.stop (course_of p) k c.loop-k.departure _ _ c.loop-k.halt _ c.loop-k.invariant.time c.loop-k.invariant.halt there (sym leg) (search rules);
      halt = halts_more (course_of p) k _ there;
      small = search rules;
    }
