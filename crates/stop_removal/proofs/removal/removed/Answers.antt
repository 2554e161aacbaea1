use Rattle.std.proofs.Common.{◌≡◌, ◌<◌, ◌^◌, sym, arith, rules, subst}
use Rattle.road_graph.specs.Paths.{Path, length_of}
use Rattle.stop_schedule.specs.Bounds.{IsSmallStop, AreSmallStops, AreShortLegs}
use Rattle.stop_removal.specs.Removals.{without_both, with_joined}
use Rattle.stop_removal.proofs.Bounded.{each_joined, each_without, length-joined, length-without}
use Rattle.stop_removal.proofs.removal.removed.Goals as goal

abbrev IsShort : Path → Type 0
IsShort leg = length_of leg < 2 ^ 53

pub with_lists-requires-clause-as_many : goal.with_lists-requires-clause-as_many
with_lists-requires-clause-as_many c =
    let p = c.args.schedule.now in
    let stops : c.in_ok-stops.stops ≡ without_both p.stops c.args.pickup c.args.dropoff = search rules in
    let legs : c.in_ok-legs.legs ≡ with_joined p.legs c.args.pickup c.args.dropoff c.args.walks.now = search rules in
    let many = c.stops.ensures.bounded.as_many_legs in
    let left = length-without p.stops c.args.pickup c.args.dropoff c.requires.from_first c.requires.order c.requires.to_last in
    let joined = length-joined p.legs c.args.walks.now p.stops c.args.front.now c.args.pickup c.args.dropoff c.requires.from_first c.requires.order c.requires.to_last many c.requires.as_many in
    rw (stops, legs) (omega (arith, left, joined, many))

pub with_lists-requires-clause-small : goal.with_lists-requires-clause-small
with_lists-requires-clause-small c =
    let p = c.args.schedule.now in
    let stops : c.in_ok-stops.stops ≡ without_both p.stops c.args.pickup c.args.dropoff = search rules in
    subst AreSmallStops (sym stops) (each_without IsSmallStop p.stops c.args.pickup c.args.dropoff c.stops.ensures.bounded.stops)

pub with_lists-requires-clause-short : goal.with_lists-requires-clause-short
with_lists-requires-clause-short c =
    let p = c.args.schedule.now in
    let legs : c.in_ok-legs.legs ≡ with_joined p.legs c.args.pickup c.args.dropoff c.args.walks.now = search rules in
    subst AreShortLegs (sym legs) (each_joined IsShort p.legs c.args.walks.now c.args.pickup c.args.dropoff c.stops.ensures.bounded.legs c.requires.short)
