use Rattle.std.proofs.Common.{◌≡◌, ◌+◌, ◌-◌, ap, ◌∙◌, arith}
use Rattle.stop_schedule.specs.Plans.{course_of}
use Rattle.stop_schedule.proofs.TimeLaws.{kept_of_keeps, many_lengths}
use Rattle.leeway.specs.Leeways.{latest_at}
use Rattle.leeway.proofs.LatestArrivals.{slack_holds_leg}
use Rattle.leeway.proofs.leeways.slack.Goals as goal

pub returns-clause-leg : goal.returns-clause-leg
returns-clause-leg c h =
    let p = c.args.schedule.now in
    let stop = c.args.params.now.stop in
    let kept = kept_of_keeps stop p (course_of p) h (omega (arith, c.requires)) in
    let leg = slack_holds_leg stop p.until (course_of p) c.args.i (many_lengths p c.next_by.ensures.bounded) (omega (arith, c.requires)) kept in
    let before : c.args.i + 1 - 1 ≡ c.args.i = omega arith in
    let same : c.next_by.result ≡ latest_at stop p.until (course_of p) c.args.i = c.next_by.ensures.value ∙ ap (latest_at stop p.until (course_of p)) before in
    omega (arith, leg, same, c.dep.ensures.value, c.saturating_sub.ensures)
