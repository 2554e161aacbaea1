use Rattle.std.proofs.Common.{None, Some, length, unwrap_or, arith, subst, refl}
use Rattle.insertion_cost.specs.declared.on_the_way.OnTheWay.{OnTheWay}
use Rattle.insertion_cost.specs.OnWays.{EndsSo}
use Rattle.insertion_cost.proofs.IsTried.{no_lengths}
use Rattle.insertion_cost.proofs.PricedBy.{late_none, ended_none, ended_some, short_in, short_out}
use Rattle.insertion_cost.proofs.pairs.priced_at.Goals as goal

pub past-dropped-requires-clause-length : goal.past-dropped-requires-clause-length
past-dropped-requires-clause-length c =
    short_in c.args.schedule.now c.args.ways.now c.args.direct c.args.at c.in_ok-spans.spans c.length_in-length.result c.requires.ways c.in_ok-spans.ensures.read_off c.requires.direct c.requires.insertion.0 c.requires.insertion.1 c.length_in-length.ensures.together c.length_in-length.ensures.apart

pub length_in-length-requires : goal.length_in-length-requires
length_in-length-requires c = λ l. (c.in_ok-spans.ensures.shape (length c.args.schedule.now.stops) c.requires.ways.many).0.1 l

pub ends_at-requires-clause-way_on : goal.ends_at-requires-clause-way_on
ends_at-requires-clause-way_on c = (c.in_ok-spans.ensures.shape (length c.args.schedule.now.stops) c.requires.ways.many).1

pub ends_at-requires-clause-departure : goal.ends_at-requires-clause-departure
ends_at-requires-clause-departure c =
    let u = short_in c.args.schedule.now c.args.ways.now c.args.direct c.args.at c.in_ok-spans.spans c.length_in-length.result c.requires.ways c.in_ok-spans.ensures.read_off c.requires.direct c.requires.insertion.0 c.requires.insertion.1 c.length_in-length.ensures.together c.length_in-length.ensures.apart in
    let most = c.past-dropped.ensures.departure in
    let soon = c.requires.soon.departure in
    omega arith

pub ends_at-requires-clause-busy_time : goal.ends_at-requires-clause-busy_time
ends_at-requires-clause-busy_time c =
    let u = short_in c.args.schedule.now c.args.ways.now c.args.direct c.args.at c.in_ok-spans.spans c.length_in-length.result c.requires.ways c.in_ok-spans.ensures.read_off c.requires.direct c.requires.insertion.0 c.requires.insertion.1 c.length_in-length.ensures.together c.length_in-length.ensures.apart in
    let most = c.past-dropped.ensures.busy_time in
    let soon = c.requires.soon.departure in
    let busy = c.requires.soon.busy_time in
    omega arith

pub ends_at-requires-clause-short : goal.ends_at-requires-clause-short
ends_at-requires-clause-short c =
    short_out c.args.schedule.now c.args.ways.now c.args.direct c.args.at c.in_ok-spans.spans c.requires.ways c.in_ok-spans.ensures.read_off (c.in_ok-spans.ensures.shape (length c.args.schedule.now.stops) c.requires.ways.many)

pub returns-in_err-spans : goal.returns-in_err-spans
returns-in_err-spans c =
    rw c.from_residual.ensures (λ g front by led room few. no_lengths g c.args.params.now front c.args.schedule.now c.args.request.now c.args.at (c.in_err-spans.ensures.exact g c.args.request.now front c.args.schedule.now.stops by.along))

pub returns-then-arrive-until : goal.returns-then-arrive-until
returns-then-arrive-until c = λ g front by led room few.
    late_none g c.args.params.now c.args.schedule.now front c.args.request.now c.args.direct c.args.ways.now c.args.rows.now by c.args.at c.args.way.now c.args.leave led room c.requires.insertion.1 c.in_ok-spans.spans
    (c.in_ok-spans.ensures.shape (length c.args.schedule.now.stops) c.requires.ways.many) c.in_ok-spans.ensures.read_off (c.in_ok-spans.ensures.exact g c.args.request.now front c.args.schedule.now.stops by.along)
    c.length_in-length.result c.length_in-length.ensures.together c.length_in-length.ensures.apart (omega arith)

pub returns-in_err-busy_time : goal.returns-in_err-busy_time
returns-in_err-busy_time c =
    rw c.from_residual-in_err-busy_time.ensures (λ g front by led room few.
    ended_none g c.args.params.now c.args.schedule.now front c.args.request.now c.args.direct c.args.ways.now c.args.rows.now by c.args.at c.args.way.now c.args.leave led room c.requires.insertion.1 c.in_ok-spans.spans
    (c.in_ok-spans.ensures.shape (length c.args.schedule.now.stops) c.requires.ways.many) c.in_ok-spans.ensures.read_off (c.in_ok-spans.ensures.exact g c.args.request.now front c.args.schedule.now.stops by.along)
    c.length_in-length.result c.length_in-length.ensures.together c.length_in-length.ensures.apart
    (subst (λ (w : OnTheWay). EndsSo c.args.params.now c.args.schedule.now c.args.at.j (unwrap_or c.in_ok-spans.spans.after_dropoff 0) w None) c.past-dropped.ensures.value c.in_err-busy_time.ensures.ends))

pub returns : goal.returns
returns c = λ g front by led room few.
    ended_some g c.args.params.now c.args.schedule.now front c.args.request.now c.args.direct c.args.ways.now c.args.rows.now by c.args.at c.args.way.now c.args.leave led room c.requires.insertion.1 c.in_ok-spans.spans
    (c.in_ok-spans.ensures.shape (length c.args.schedule.now.stops) c.requires.ways.many) c.in_ok-spans.ensures.read_off (c.in_ok-spans.ensures.exact g c.args.request.now front c.args.schedule.now.stops by.along)
    c.length_in-length.result c.length_in-length.ensures.together c.length_in-length.ensures.apart
    c.in_ok-busy_time.busy_time _ _ c.behind_stop.result c.behind_stop.ensures (omega arith)
    (subst (λ (w : OnTheWay). EndsSo c.args.params.now c.args.schedule.now c.args.at.j (unwrap_or c.in_ok-spans.spans.after_dropoff 0) w (Some c.in_ok-busy_time.busy_time)) c.past-dropped.ensures.value c.in_ok-busy_time.ensures.ends)
    refl (rw (c.saturating_sub-detour.ensures, c.saturating_sub.ensures, c.saturating_sub-2.ensures, c.wait_weight.ensures.value, c.trip_weight.ensures.value, c.wait.ensures.value, c.trip_limit.ensures.value) refl)
