use Rattle.std.proofs.Common.{◌-◌, refl, sym, ◌∙◌, arith, rules}
use Rattle.std.proofs.lemmas.Bool.{le-leb, lt-leb}
use Rattle.stop_schedule.proofs.Aboard.{no_stop}
use Rattle.stop_schedule.proofs.Departs.{read_at}
use Rattle.stop_schedule.proofs.KeepsAhead.{reaching_is}
use Rattle.stop_schedule.proofs.schedule.Schedule.keeps.Goals as goal

pub returns-then-kept_time-stop : goal.returns-then-kept_time-stop
returns-then-kept_time-stop c =
    let p = c.args.self.now in
    let there = read_at c.stops.result.now p.stops (c.args.i - 1) no_stop c.stops.ensures.value (omega (arith, c.requires)) in
    let whole = reaching_is c.args.params.now.stop p.until p c.args.i (c.args.i - 1) c.args.arrival c.stop_at-takes.result c.max-departure.result c.kept_time.result _ c.stops.ensures.bounded (omega (arith, c.requires)) there (search rules) (search rules) (search rules) in
    let passes = le-leb c.kept_time.result _ c.if-kept_time-stop.true in
    sym (whole ∙ rw passes (sym c.is_kept_from.ensures))

pub returns-else-kept_time-stop : goal.returns-else-kept_time-stop
returns-else-kept_time-stop c =
    let p = c.args.self.now in
    let there = read_at c.stops.result.now p.stops (c.args.i - 1) no_stop c.stops.ensures.value (omega (arith, c.requires)) in
    let whole = reaching_is c.args.params.now.stop p.until p c.args.i (c.args.i - 1) c.args.arrival c.stop_at-takes.result c.max-departure.result c.kept_time.result _ c.stops.ensures.bounded (omega (arith, c.requires)) there (search rules) (search rules) (search rules) in
    let fails = lt-leb c.kept_time.result _ c.if-kept_time-stop.false in
    sym (whole ∙ rw fails refl)
