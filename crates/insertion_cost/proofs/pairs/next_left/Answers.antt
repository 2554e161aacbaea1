use Rattle.std.proofs.Common.{sym, rules}
use Rattle.stop_schedule.specs.Plans.{course_of}
use Rattle.stop_schedule.proofs.TimeLaws.{departs_more, length_at, read_at}
use Rattle.stop_schedule.proofs.ListLaws.{no_stop}
use Rattle.insertion_cost.proofs.pairs.next_left.Goals as goal

pub returns : goal.returns
returns c = λ within time.
    let p = c.args.schedule.now in
    let i = c.args.i in
    let there = read_at c.stops-stops.result.now p.stops i no_stop c.stops-stops.ensures.value within in
    let leg = length_at p.legs i c.leg.result.now c.leg.ensures.value in
    departs_more c.args.params.now.stop (course_of p) i c.args.left _ _ c.halt_at.result _ time c.halt_at.ensures there (sym leg)
    (search rules)
