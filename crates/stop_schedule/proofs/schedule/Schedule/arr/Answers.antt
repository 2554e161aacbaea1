use Rattle.std.proofs.Common.{arith, ◌-◌}
use Rattle.stop_schedule.specs.Plans.{course_of}
use Rattle.stop_schedule.proofs.Departs.{arrives_after, length_at}
use Rattle.stop_schedule.proofs.schedule.Schedule.arr.Goals as goal

pub returns-clause-value : goal.returns-clause-value
returns-clause-value c =
    let after = arrives_after c.args.params.now.stop (course_of c.args.self.now) c.args.i (c.args.i - 1) (omega arith) in
    let leg = length_at c.args.self.now.legs (c.args.i - 1) c.leg.result.now c.leg.ensures.value in
    omega (arith, after, leg)
