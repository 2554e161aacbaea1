use Rattle.std.proofs.Common.{arith, rules, Some, None, refl, ap, length}
use Rattle.std.specs.Prelude.{if◌then◌else◌}
use Rattle.stop_schedule.specs.Plans.{course_of}
use Rattle.stop_schedule.proofs.TimeLaws.{halts_more, stop_times_more, read_at}
use Rattle.stop_schedule.proofs.ListLaws.{no_stop}
use Rattle.insertion_cost.proofs.NewLengths.{driving_more}
use Rattle.insertion_cost.proofs.pricing.busy_time_of.Goals as goal

pub loop-k-preserved : goal.loop-k-preserved
loop-k-preserved c =
    let p = c.args.schedule.now in
    let k = c.loop-k.k in
    let e = record (course_of p) { halt = if c.args.start.now.halt then Some c.args.start.now.node else None; departure = c.args.start.now.departure } in
    let there = read_at c.stops.result.now p.stops k no_stop c.stops.ensures.value (let many = ap length c.stops-k-end.ensures.value in omega (arith, c.loop-k-test.true, many)) in
    let stops = stop_times_more c.args.params.now.stop e k c.loop-k.halt _ _ c.loop-k.invariant.halt there c.stop_at.ensures.value in
    let ways = driving_more p.legs k _ _ _ c.leg.ensures.value c.length.ensures.length refl in
    record {
      busy_time = omega (arith, stops, ways, c.loop-k.invariant.busy_time);
      halt = halts_more e k _ there;
      small = search rules;
    }
