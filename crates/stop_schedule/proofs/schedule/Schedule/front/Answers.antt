use Rattle.std.proofs.Common.{◌≡◌, rules}
use Rattle.stop_schedule.specs.Fronts.{front_of}
use Rattle.stop_schedule.proofs.FrontOf.{front_early}
use Rattle.stop_schedule.proofs.schedule.Schedule.front.Goals as goal

pub returns-clause-time : goal.returns-clause-time
returns-clause-time c soon over =
    let early = front_early over.0 over.1 c.args.self.now c.args.now over.2 soon c.stops.ensures.bounded.departure in
    let same : c.front_on.result ≡ front_of c.args.self.now c.args.now = search rules in
    rw same early
