use Rattle.std.proofs.Common.{◌≡◌, length, ap, ◌∙◌}
use Rattle.stop_schedule.specs.Plans.{course_of}
use Rattle.stop_advance.specs.Advance.{reached_by}
use Rattle.stop_advance.proofs.Reached.{left_is, start_early, length-served_of, reached_at_most}
use Rattle.stop_advance.proofs.advance.advanced.Goals as goal

pub left_behind-requires-clause-departure : goal.left_behind-requires-clause-departure
left_behind-requires-clause-departure c =
    let b = c.reached_until.ensures.bounded in
    start_early c.args.params.now c.args.schedule.now c.args.now c.in_ok-served.start.departure c.requires b.departure b.until c.in_ok-served.ensures.start.departure

pub returns-clause-schedule : goal.returns-clause-schedule
returns-clause-schedule c =
    let p = c.args.schedule.now in
    let rates = c.args.params.now in
    let most = reached_at_most rates.stop (course_of p) c.args.now (length p.stops) in
    let many : c.len.result ≡ reached_by rates p c.args.now = c.len.ensures ∙ ap length c.in_ok-served.ensures.served ∙ length-served_of rates.stop (course_of p) c.args.now (reached_by rates p c.args.now) most in
    c.in_ok-left.ensures ∙ left_is rates p c.args.now c.in_ok-served.start c.len.result c.in_ok-served.ensures.start many
