use Rattle.std.proofs.Common.{◌≡◌, rules}
use Rattle.stop_schedule.specs.Lists.{inserted_in}
use Rattle.stop_schedule.proofs.IsBounded.{inserted_bounded}
use Rattle.stop_schedule.proofs.schedule.Schedule.inserted.Goals as goal

pub invariant_of-result : goal.invariant_of-result
invariant_of-result c =
    let p = inserted_in c.args.self.now c.args.front.now c.args.request.now c.args.at c.args.promise.now c.args.walks.now in
    let b = inserted_bounded c.args.self.now c.args.front.now c.args.request.now c.args.at c.args.promise.now c.args.walks.now (search rules) c.requires.room c.requires.insertion.0 c.requires.insertion.1 c.requires.as_many c.requires.short c.requires.time c.requires.moment c.requires.riders c.requires.spaces c.requires.pickup c.requires.arrival in
    let stops : c.in_ok-stops.stops ≡ p.stops = search rules in
    let legs : c.in_ok-legs.legs ≡ p.legs = search rules in
    record {
      few = rw stops b.few;
      as_many_legs = rw (stops, legs) b.as_many_legs;
      departure = c.start-start.ensures.bound;
      until = c.self.invariant.until;
      stops = rw stops b.stops;
      legs = rw legs b.legs;
    }
