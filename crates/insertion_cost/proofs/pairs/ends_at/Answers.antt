use Rattle.std.proofs.Common.{◌≡◌, ℕ, ◌+◌, ◌-◌, ◌<◌, ◌^◌, Option, Some, None, length, unwrap_or, arith, ap, sym, subst}
use Rattle.std.specs.Prelude.{IfSome}
use Rattle.stop_schedule.proofs.TimeLaws.{read_at}
use Rattle.stop_schedule.proofs.ListLaws.{no_stop}
use Rattle.insertion_cost.specs.declared.on_the_way.OnTheWay.{OnTheWay}
use Rattle.insertion_cost.specs.OnWays.{EndsSo}
use Rattle.insertion_cost.proofs.PairPrice.{ends_more, ends_broken, ends_too_late}
use Rattle.insertion_cost.proofs.pairs.ends_at.Goals as goal
use Rattle.insertion_cost.proofs.pairs.ends_at.Goals.{then-kept_time-stop-via-then-kept_time-stop, then-kept_time-stop-via-else-kept_time-stop+then-next-behind}

pub returns-then-kept_time-stop-clause-ends : goal.returns-then-kept_time-stop-clause-ends
returns-then-kept_time-stop-clause-ends c =
    let p = c.args.schedule.now in
    let j = c.args.j in
    let many = ap length c.stops-stops.ensures.value in
    let within : j < length p.stops = (let e = c.if-j-stops.false in let l = c.requires.within in omega arith) in
    let there = read_at c.stops-stops.result.now p.stops j no_stop c.stops-stops.ensures.value within in
    let b = c.behind_stop-behind.result in
    let is = c.requires.rows.1.each (length p.stops - (j + 1)) (j + 1) b c.behind_stop-behind.ensures (omega arith) in
    let way : unwrap_or c.args.way_on 0 ≡ c.unwrap-length.result = ap (λ (o : Option ℕ). unwrap_or o 0) c.unwrap-length.ensures in
    let left = ap (λ (w : OnTheWay). w.departure) c.past-next.ensures.value in
    subst (λ (m : ℕ). EndsSo c.args.params.now p j m c.args.dropped.now None) (sym way)
    (elim c.then-kept_time-stop.branch [
      | then-kept_time-stop-via-then-kept_time-stop w ↦ ends_broken c.args.params.now p c.requires.kept c.stops-stops.ensures.bounded.as_many_legs j c.unwrap-length.result c.args.dropped.now _ c.requires.rows.0 b there is (λ h. let e = c.kept_time.ensures in let late = w.if-kept_time-stop.true in let same = rw left at e in omega arith)
      | then-kept_time-stop-via-else-kept_time-stop+then-next-behind w ↦ ends_too_late c.args.params.now p c.requires.kept c.stops-stops.ensures.bounded.as_many_legs j c.unwrap-length.result c.args.dropped.now _ c.requires.rows.0 b there is (let late = w.if-next-behind.true in omega arith)
    ])

pub returns-clause-ends : goal.returns-clause-ends
returns-clause-ends c =
    let p = c.args.schedule.now in
    let j = c.args.j in
    let many = ap length c.stops-stops.ensures.value in
    let within : j < length p.stops = (let e = c.if-j-stops.false in let l = c.requires.within in omega arith) in
    let there = read_at c.stops-stops.result.now p.stops j no_stop c.stops-stops.ensures.value within in
    let b = c.behind_stop-behind.result in
    let is = c.requires.rows.1.each (length p.stops - (j + 1)) (j + 1) b c.behind_stop-behind.ensures (omega arith) in
    let way : unwrap_or c.args.way_on 0 ≡ c.unwrap-length.result = ap (λ (o : Option ℕ). unwrap_or o 0) c.unwrap-length.ensures in
    let left = ap (λ (w : OnTheWay). w.departure) c.past-next.ensures.value in
    let busy = ap (λ (w : OnTheWay). w.busy_time) c.past-next.ensures.value in
    subst (λ (m : ℕ). EndsSo c.args.params.now p j m c.args.dropped.now (Some (c.past-next.result.busy_time + b.busy_time))) (sym way)
    (subst (λ (m : ℕ). EndsSo c.args.params.now p j c.unwrap-length.result c.args.dropped.now (Some (m + b.busy_time))) (sym busy)
    (ends_more c.args.params.now p c.requires.kept c.stops-stops.ensures.bounded.as_many_legs j c.unwrap-length.result c.args.dropped.now _ c.requires.rows.0 b there is
    (let e = c.kept_time.ensures in let kept = c.if-kept_time-stop.false in let same = rw left at e in omega arith) (let kept = c.if-next-behind.false in omega arith)))

pub overflow_add-result : goal.overflow_add-result
overflow_add-result c =
    let p = c.args.schedule.now in
    let j = c.args.j in
    let many = ap length c.stops-stops.ensures.value in
    let within : j < length p.stops = (let e = c.if-j-stops.false in let l = c.requires.within in omega arith) in
    let is = c.requires.rows.1.each (length p.stops - (j + 1)) (j + 1) c.behind_stop-behind.result c.behind_stop-behind.ensures (omega arith) in
    let short = is.short in
    let few = c.stops-stops.ensures.bounded.few in
    let way = subst (λ (o : Option ℕ). IfSome o (λ x. x < 2 ^ 53)) c.unwrap-length.ensures c.requires.short in
    let next = c.past-next.ensures.busy_time in
    let before = c.requires.busy_time in
    omega arith

pub returns-clause-short : goal.returns-clause-short
returns-clause-short c =
    let p = c.args.schedule.now in
    let j = c.args.j in
    let many = ap length c.stops-stops.ensures.value in
    let within : j < length p.stops = (let e = c.if-j-stops.false in let l = c.requires.within in omega arith) in
    let is = c.requires.rows.1.each (length p.stops - (j + 1)) (j + 1) c.behind_stop-behind.result c.behind_stop-behind.ensures (omega arith) in
    let short = is.short in
    let few = c.stops-stops.ensures.bounded.few in
    let way = subst (λ (o : Option ℕ). IfSome o (λ x. x < 2 ^ 53)) c.unwrap-length.ensures c.requires.short in
    let next = c.past-next.ensures.busy_time in
    let before = c.requires.busy_time in
    omega arith
