use Rattle.std.proofs.Common.{◌<◌, length, arith, ap, sym, ◌∙◌}
use Rattle.std.specs.Prelude.{nat_le}
use Rattle.std.proofs.lemmas.Bool.{eqb-false}
use Rattle.stop_advance.proofs.Reached.{reaches_is}
use Rattle.stop_advance.proofs.advance.reaches.Goals as goal

pub returns-then-not-is_empty : goal.returns-then-not-is_empty
returns-then-not-is_empty c =
    let p = c.args.schedule.now in
    let apart = eqb-false (length c.stops.result.now) 0 (sym c.is_empty.ensures ∙ c.if-not-is_empty.true) in
    let some : 0 < length p.stops = (let e = ap length c.stops.ensures.value in omega (arith, e, apart)) in
    reaches_is c.args.params.now p c.args.now (nat_le c.arr.result c.args.now) some (ap (λ (n : _). nat_le n c.args.now) c.arr.ensures.value)
