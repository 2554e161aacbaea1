use Rattle.std.proofs.Common.{drop, map, refl, sym, ◌∙◌, rules}
use Rattle.road_graph.specs.Paths.{length_of}
use Rattle.stop_schedule.specs.Plans.{course_of}
use Rattle.stop_schedule.proofs.Aboard.{no_stop}
use Rattle.stop_schedule.proofs.Departs.{read_at}
use Rattle.stop_schedule.proofs.IsKept.{many_lengths}
use Rattle.stop_schedule.proofs.KeepsAhead.{is_kept-from, holds_last, holds_on, holds_not}
use Rattle.stop_schedule.proofs.schedule.Schedule.is_kept_from.Goals as goal

pub returns-then-kept_time-stop : goal.returns-then-kept_time-stop
returns-then-kept_time-stop c =
    let p = c.args.self.now in
    let stop = c.args.params.now.stop in
    let there = read_at c.stops.result.now p.stops c.loop-k.k no_stop c.stops.ensures.value (rw c.stops-k-end.ensures.value at c.loop-k-test.true) in
    let fails = holds_not stop p.until p c.loop-k.halt c.loop-k.departure c.loop-k.k c.length.result c.stop_at.result _ c.max-departure.result c.kept_time.result _ _ there c.leg.ensures.value c.length.ensures.length refl c.stop_at.ensures.value (search rules) (search rules) (search rules) in
    sym (is_kept-from stop p.until (course_of p) c.args.i c.args.departure (many_lengths p c.stops.ensures.bounded) ∙ sym c.loop-k.invariant.rest ∙ fails)

pub loop-k-preserved : goal.loop-k-preserved
loop-k-preserved c =
    let p = c.args.self.now in
    let stop = c.args.params.now.stop in
    let there = read_at c.stops.result.now p.stops c.loop-k.k no_stop c.stops.ensures.value (rw c.stops-k-end.ensures.value at c.loop-k-test.true) in
    record {
      rest = holds_on stop p.until p c.loop-k.halt c.loop-k.departure c.loop-k.k c.length.result c.stop_at.result _ c.max-departure.result c.kept_time.result _ _ there c.leg.ensures.value c.length.ensures.length refl c.stop_at.ensures.value (search rules) (search rules) (search rules) ∙ c.loop-k.invariant.rest;
      small = search rules;
    }

pub returns : goal.returns
returns c =
    let p = c.args.self.now in
    let stop = c.args.params.now.stop in
    let over = holds_last stop p.until c.loop-k.halt c.loop-k.departure c.loop-k.k p.stops (drop c.loop-k.k (map length_of p.legs)) (search rules) in
    rw c.until.ensures (over ∙ c.loop-k.invariant.rest ∙ sym (is_kept-from stop p.until (course_of p) c.args.i c.args.departure (many_lengths p c.stops-k-end.ensures.bounded)))
