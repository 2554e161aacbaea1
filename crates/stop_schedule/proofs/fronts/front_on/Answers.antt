use Rattle.std.proofs.Common.{◌≡◌, ◌+◌, ◌-◌, ◌/◌, ◌<◌, length, arith, get_or, sym}
use Rattle.std.specs.Prelude.{slice_get, Some}
use Rattle.std.proofs.lemmas.Option.{slice_get-get_or}
use Rattle.stop_schedule.proofs.FirstReached.{rises, at_most_length, first_is}
use Rattle.stop_schedule.proofs.fronts.front_on.Goals as goal

pub overflow_add-departure : goal.overflow_add-departure
overflow_add-departure c =
    let l = at_most_length c.args.leg.now c.nodes.ensures.path (c.loop-first.first + (c.loop-first.last - c.loop-first.first) / 2) (omega (arith, c.loop-first.invariant, c.loop-first-test.true)) in
    omega (arith, c.offset.ensures.offset, c.requires)

pub loop-first-preserved-then-departure-offset : goal.loop-first-preserved-then-departure-offset
loop-first-preserved-then-departure-offset c =
    let w = c.args.leg.now in
    let path = c.nodes.ensures.path in
    let middle = c.loop-first.first + (c.loop-first.last - c.loop-first.first) / 2 in
    let inside : middle < length w.offsets = (let many = path.many in omega (arith, c.loop-first.invariant, c.loop-first-test.true)) in
    record {
      order = omega (arith, c.loop-first.invariant, c.loop-first-test.true);
      within = omega (arith, c.loop-first.invariant);
      before = λ j l. let up = rises w path j middle (omega arith) inside in omega (arith, c.offset.ensures.offset, c.if-departure-offset.true);
      late = c.loop-first.invariant.late;
    }

pub overflow_add-result : goal.overflow_add-result
overflow_add-result c =
    let l = at_most_length c.args.leg.now c.nodes.ensures.path c.loop-first.first (omega (arith, c.loop-first.invariant)) in
    omega (arith, c.offset-offset.ensures.offset, c.requires)

pub returns-clause-value : goal.returns-clause-value
returns-clause-value c =
    let w = c.args.leg.now in
    let path = c.nodes.ensures.path in
    let k = c.loop-first.first in
    let there : slice_get w.nodes k ≡ Some (get_or c.nodes-2.result.now k (record { 0 = 0 })) = rw c.nodes-2.ensures.nodes (slice_get-get_or w.nodes k (record { 0 = 0 }) (omega (arith, c.loop-first.invariant))) in
    sym
    (first_is c.args.start c.args.departure c.args.now w.nodes w.offsets k _ _ there (let many = path.many in omega (arith, c.loop-first.invariant)) (sym c.offset-offset.ensures.offset)
    (let same : c.loop-first.last ≡ k = omega (arith, c.loop-first.invariant, c.loop-first-test.false) in let late = c.loop-first.invariant.late in rw (c.offset-offset.ensures.offset) (rw same at late)) c.loop-first.invariant.before)

pub returns-clause-offset : goal.returns-clause-offset
returns-clause-offset c =
    let l = at_most_length c.args.leg.now c.nodes.ensures.path c.loop-first.first (omega (arith, c.loop-first.invariant)) in
    omega (arith, c.offset-offset.ensures.offset)
