use Rattle.std.proofs.Common.{◌≡◌, ◌+◌, ◌-◌, ap, ◌∙◌, arith}
use Rattle.stop_schedule.specs.Plans.{course_of}
use Rattle.stop_schedule.proofs.TimeLaws.{kept_of_keeps, many_lengths}
use Rattle.leeway.specs.Leeways.{latest_at}
use Rattle.leeway.proofs.LatestArrivals.{keeps_by_latest}
use Rattle.leeway.proofs.leeways.latest.Goals as goal

pub returns-clause-exact : goal.returns-clause-exact
returns-clause-exact c h arrival =
    let p = c.args.schedule.now in
    let stop = c.args.params.now.stop in
    let k = c.args.i - 1 in
    let kept = kept_of_keeps stop p (course_of p) h (omega (arith, c.requires)) in
    let by = keeps_by_latest stop p.until (course_of p) k (many_lengths p c.next_by.ensures.bounded) (omega (arith, c.requires)) kept arrival in
    let before : k + 1 - 1 ≡ k = omega arith in
    let same : c.next_by.result ≡ latest_at stop p.until (course_of p) k = c.next_by.ensures.value ∙ ap (latest_at stop p.until (course_of p)) before in
    rw same by
