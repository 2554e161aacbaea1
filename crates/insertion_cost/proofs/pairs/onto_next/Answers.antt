use Rattle.std.proofs.Common.{◌+◌, ◌<◌, length, arith, ap, sym, subst}
use Rattle.stop_schedule.proofs.TimeLaws.{read_at}
use Rattle.stop_schedule.proofs.ListLaws.{no_stop}
use Rattle.insertion_cost.specs.declared.on_the_way.OnTheWay.{OnTheWay}
use Rattle.insertion_cost.specs.OnWays.{IsLed}
use Rattle.insertion_cost.proofs.Leads.{leads_more, broken, overdue_there}
use Rattle.insertion_cost.proofs.PairPrice.{none_past, none_by, none_onto, long_is}
use Rattle.insertion_cost.proofs.pairs.onto_next.Goals as goal
use Rattle.insertion_cost.proofs.pairs.onto_next.Goals.{then-kept_time-stop-via-then-kept_time-stop, then-kept_time-stop-via-else-kept_time-stop+then-next-until}

pub returns-then-j-stops-clause-leads : goal.returns-then-j-stops-clause-leads
returns-then-j-stops-clause-leads c = λ front r direct leave led room g along.
    none_past g c.args.params.now front c.args.schedule.now r c.args.i (c.args.j + 1) (let many = ap length c.stops-stops.ensures.value in let e = c.if-j-stops.true in omega arith)

pub returns-in_err-length-clause-leads : goal.returns-in_err-length-clause-leads
returns-in_err-length-clause-leads c =
    rw c.from_residual.ensures (λ front r direct leave led room g along.
    let on = c.in_err-length.ensures.value in
    none_onto g c.args.params.now front c.args.schedule.now r direct c.args.ways.now c.args.i c.args.j along on.0 on.1)

pub returns-then-kept_time-stop-clause-leads : goal.returns-then-kept_time-stop-clause-leads
returns-then-kept_time-stop-clause-leads c = λ front r direct leave led room g along.
    let p = c.args.schedule.now in
    let i = c.args.i in
    let j = c.args.j in
    let many = ap length c.stops-stops.ensures.value in
    let within : j < length p.stops = (let e = c.if-j-stops.false in let l = c.requires.within in omega arith) in
    let there = read_at c.stops-stops.result.now p.stops j no_stop c.stops-stops.ensures.value within in
    let long = long_is c.args.params.now p front r c.args.ways.now i leave _ j c.in_ok-length.length c.args.way.now led c.stops-stops.ensures.bounded.as_many_legs within c.in_ok-length.ensures.value in
    let left = ap (λ (w : OnTheWay). w.departure) c.past-next.ensures.value in
    none_by g c.args.params.now front p r direct c.args.ways.now i (j + 1) along
    (λ k u v l inside. elim c.then-kept_time-stop.branch [
      | then-kept_time-stop-via-then-kept_time-stop w ↦ broken c.args.params.now p front r i _ _ leave _ j c.args.way.now led c.in_ok-length.length _ there long (λ h. let e = c.kept_time.ensures in let late = w.if-kept_time-stop.true in let same = rw left at e in omega arith) k u v (omega arith) inside
      | then-kept_time-stop-via-else-kept_time-stop+then-next-until w ↦ overdue_there c.args.params.now p front r i _ _ leave _ j c.args.way.now led c.in_ok-length.length _ there long (let e = w.until.ensures in let late = w.if-next-until.true in omega arith) k u v (omega arith) inside
    ])

pub returns-clause-leads : goal.returns-clause-leads
returns-clause-leads c = λ front r direct leave led room.
    let p = c.args.schedule.now in
    let i = c.args.i in
    let j = c.args.j in
    let many = ap length c.stops-stops.ensures.value in
    let within : j < length p.stops = (let e = c.if-j-stops.false in let l = c.requires.within in omega arith) in
    let there = read_at c.stops-stops.result.now p.stops j no_stop c.stops-stops.ensures.value within in
    let long = long_is c.args.params.now p front r c.args.ways.now i leave _ j c.in_ok-length.length c.args.way.now led c.stops-stops.ensures.bounded.as_many_legs within c.in_ok-length.ensures.value in
    let left = ap (λ (w : OnTheWay). w.departure) c.past-next.ensures.value in
    subst (λ (w : OnTheWay). IsLed c.args.params.now p front r c.args.ways.now i leave (j + 1) w) (sym c.past-next.ensures.value)
    (leads_more c.args.params.now p front r i _ _ leave _ j c.args.way.now led c.in_ok-length.length _ there long room (let e = c.kept_time.ensures in let kept = c.if-kept_time-stop.false in let same = rw left at e in omega arith))
