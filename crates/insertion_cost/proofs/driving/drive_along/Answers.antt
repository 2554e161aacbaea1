use Rattle.std.proofs.Common.{◌≡◌, ◌+◌, max, length, arith, ap, ◌∙◌}
use Rattle.std.proofs.lemmas.Bool.{le-leb, lt-leb}
use Rattle.std.proofs.lemmas.Option.{slice_get_within}
use Rattle.stop_schedule.specs.declared.stop.SeatKind.TheVariants.{Seat, Space}
use Rattle.stop_schedule.specs.Lists.{new_course, started}
use Rattle.insertion_cost.specs.Changes.{party, boarding, alighting, new_stops}
use Rattle.insertion_cost.specs.Spans.{lengths_of}
use Rattle.insertion_cost.proofs.Aboard.{on_among, off_among, ahead_start, ahead_more}
use Rattle.insertion_cost.proofs.DriveAlong.{along_start, along_more, along_end, full_at, spaces_full_at, broken_at, late_at, lists_match}
use Rattle.stop_schedule.specs.Times.{halt_time}
use Rattle.stop_schedule.proofs.TimeLaws.{departs_more, halts_as}
use Rattle.insertion_cost.proofs.driving.drive_along.Goals as goal
use Rattle.insertion_cost.proofs.driving.drive_along.Goals.{then-aboard-from-via-then-aboard-from, then-aboard-from-via-else-aboard-from+then-aboard-from-2, then-aboard-from-via-else-aboard-from+else-aboard-from-2+then-departure-until, then-aboard-from-via-else-aboard-from+else-aboard-from-2+else-departure-until+then-kept_time-stop}

pub loop-k-init : goal.loop-k-init
loop-k-init c =
    let s = c.args.schedule.now in
    let r = c.args.request.now in
    along_start c.args.params.now s c.args.at (new_course s c.args.front.now r c.args.at (lengths_of c.args.spans.now)) _ _ _ _ c.start-start.ensures.departure (halts_as (started c.args.at c.args.front.now s) _ _ _ c.start-start.ensures.halt c.start-start.ensures.node c.halts_at-halt.ensures) c.start-start.ensures.bound
    (ahead_start Seat s.stops s.until c.args.at r _ c.requires.insertion.0 (c.riders_of-on_seats.ensures.on ∙ ap (λ l. boarding Seat l + party Seat r) c.stops-2.ensures.value) (c.riders_of-on_seats.ensures.off ∙ ap (λ l. alighting Seat l + party Seat r) c.stops-2.ensures.value))
    (ahead_start Space s.stops s.until c.args.at r _ c.requires.insertion.0 (c.riders_of-in_spaces.ensures.on ∙ ap (λ l. boarding Space l + party Space r) c.stops-3.ensures.value) (c.riders_of-in_spaces.ensures.off ∙ ap (λ l. alighting Space l + party Space r) c.stops-3.ensures.value))

pub returns-then-aboard-from-clause-none : goal.returns-then-aboard-from-clause-none
returns-then-aboard-from-clause-none c =
    let s = c.args.schedule.now in
    let f = c.args.front.now in
    let r = c.args.request.now in
    let at = c.args.at in
    let k = c.loop-k.k in
    let stop = c.new_stop-stop.result in
    let lengths = lengths_of c.args.spans.now in
    let rates = c.args.params.now in
    let departure = c.loop-k.departure in
    let x = c.new_length-length.result in
    let next = c.max-departure.result in
    let stands = c.new_stop-stop.ensures.value in
    let within = slice_get_within (new_stops s.stops s.until r at) k stop stands in
    let later : next ≡ max (departure + x + halt_time rates.stop c.loop-k.halt stop.node) stop.ready = omega (arith, c.stop_at-takes.ensures.value, c.max-departure.ensures) in
    let left = departs_more rates.stop (new_course s f r at lengths) k departure x next c.loop-k.halt stop c.loop-k.invariant.left c.loop-k.invariant.halts stands c.new_length-length.ensures.value later in
    elim c.then-aboard-from.branch [
      | then-aboard-from-via-then-aboard-from w ↦ full_at rates s f r at lengths k c.loop-k.on_seats within c.loop-k.invariant.seat_takers (omega arith)
      | then-aboard-from-via-else-aboard-from+then-aboard-from-2 w ↦ spaces_full_at rates s f r at lengths k c.loop-k.in_spaces within c.loop-k.invariant.space_takers (omega arith)
      | then-aboard-from-via-else-aboard-from+else-aboard-from-2+then-departure-until w ↦ late_at rates s f r at lengths k next within left (omega arith)
      | then-aboard-from-via-else-aboard-from+else-aboard-from-2+else-departure-until+then-kept_time-stop w ↦ broken_at rates s f r at lengths k departure x next stop stands c.loop-k.invariant.left c.new_length-length.ensures.value left (lt-leb _ _ (omega arith))
    ]

pub past-on_seats-requires-clause-on : goal.past-on_seats-requires-clause-on
past-on_seats-requires-clause-on c =
    on_among Seat (new_stops c.args.schedule.now.stops c.args.schedule.now.until c.args.request.now c.args.at) c.loop-k.k c.new_stop-stop.result c.loop-k.on_seats c.new_stop-stop.ensures.value c.loop-k.invariant.seat_takers

pub past-on_seats-requires-clause-off : goal.past-on_seats-requires-clause-off
past-on_seats-requires-clause-off c =
    off_among Seat (new_stops c.args.schedule.now.stops c.args.schedule.now.until c.args.request.now c.args.at) c.loop-k.k c.new_stop-stop.result c.loop-k.on_seats c.new_stop-stop.ensures.value c.loop-k.invariant.seat_takers

pub past-in_spaces-requires-clause-on : goal.past-in_spaces-requires-clause-on
past-in_spaces-requires-clause-on c =
    on_among Space (new_stops c.args.schedule.now.stops c.args.schedule.now.until c.args.request.now c.args.at) c.loop-k.k c.new_stop-stop.result c.loop-k.in_spaces c.new_stop-stop.ensures.value c.loop-k.invariant.space_takers

pub past-in_spaces-requires-clause-off : goal.past-in_spaces-requires-clause-off
past-in_spaces-requires-clause-off c =
    off_among Space (new_stops c.args.schedule.now.stops c.args.schedule.now.until c.args.request.now c.args.at) c.loop-k.k c.new_stop-stop.result c.loop-k.in_spaces c.new_stop-stop.ensures.value c.loop-k.invariant.space_takers

pub loop-k-preserved : goal.loop-k-preserved
loop-k-preserved c =
    let s = c.args.schedule.now in
    let match = lists_match s c.args.front.now c.args.request.now c.args.at c.args.spans.now c.requires.insertion.0 c.requires.insertion.1 c.stops.ensures.bounded.as_many_legs c.requires.spans in
    along_more c.args.params.now s c.args.at (new_course s c.args.front.now c.args.request.now c.args.at (lengths_of c.args.spans.now)) c.loop-k.k c.loop-k.departure c.max-departure.result c.loop-k.halt c.loop-k.on_seats c.loop-k.in_spaces c.past-on_seats.result c.past-in_spaces.result c.loop-k.drive c.with_leg-drive.result c.new_stop-stop.result c.new_length-length.result c.stop_at-takes.result
    c.stops.ensures.bounded.until match.1 c.loop-k.invariant (record {
      stands = c.new_stop-stop.ensures.value;
      length_is = c.new_length-length.ensures.value;
      takes_is = c.stop_at-takes.ensures.value;
      left = omega (arith, c.max-departure.ensures);
      seated = omega arith;
      in_service = omega arith;
      kept = le-leb _ _ (omega arith);
      spaced = omega arith;
      seat_takers = ahead_more Seat _ c.loop-k.k _ _ _ c.new_stop-stop.ensures.value c.loop-k.invariant.seat_takers c.past-on_seats.ensures.on c.past-on_seats.ensures.off;
      space_takers = ahead_more Space _ c.loop-k.k _ _ _ c.new_stop-stop.ensures.value c.loop-k.invariant.space_takers c.past-in_spaces.ensures.on c.past-in_spaces.ensures.off;
      busy_time = c.with_leg-drive.ensures.busy_time;
      leave = c.with_leg-drive.ensures.leave;
      arrive = c.with_leg-drive.ensures.arrive;
    })

pub returns-clause-some : goal.returns-clause-some
returns-clause-some c =
    let s = c.args.schedule.now in
    let match = lists_match s c.args.front.now c.args.request.now c.args.at c.args.spans.now c.requires.insertion.0 c.requires.insertion.1 c.stops.ensures.bounded.as_many_legs c.requires.spans in
    let stops = ap length c.stops.ensures.value in
    along_end c.args.params.now s c.args.front.now c.args.request.now c.args.at (lengths_of c.args.spans.now) c.loop-k.k c.loop-k.departure c.loop-k.halt c.loop-k.on_seats c.loop-k.in_spaces c.loop-k.drive c.requires.insertion.0 c.requires.insertion.1 (omega (arith, stops)) c.stops.ensures.bounded.until match.0 match.1 (omega (arith, stops, match.0)) c.loop-k.invariant
