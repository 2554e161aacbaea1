use Rattle.std.proofs.Common.{◌≡◌, ◌+◌, length, arith, rules, ap, refl}
use Rattle.stop_schedule.specs.Plans.{course_of}
use Rattle.stop_schedule.specs.Times.{departs}
use Rattle.stop_schedule.proofs.TimeLaws.{departs_more, halts_more, length_at, read_at}
use Rattle.stop_advance.specs.Advance.{reached_by}
use Rattle.stop_advance.proofs.Reached.{all_more, late_is, reached_is, served_all, served_next, start_all, start_more, within_all}
use Rattle.stop_advance.proofs.advance.reached_until.Goals as goal

found : (c : goal.Then-arr-now) → reached_by c.args.params.now c.args.schedule.now c.args.now ≡ c.loop-k.k
found c =
    let p = c.args.schedule.now in
    let rates = c.args.params.now in
    let k = c.loop-k.k in
    let many = ap length c.stops-stops.ensures.value in
    let leg = length_at p.legs k c.leg.result.now c.leg.ensures.value in
    let start = c.loop-k.invariant.start in
    reached_is rates p c.args.now k (omega (arith, c.loop-k-test.true, many)) c.loop-k.invariant.all
    (λ _. late_is rates p c.args.now k c.loop-k.start.departure c.length.result start.departure (search rules) c.if-arr-now.true)

pub returns-then-arr-now-clause-served : goal.returns-then-arr-now-clause-served
returns-then-arr-now-clause-served c = served_all c.args.params.now c.args.schedule.now c.args.now c.loop-k.k c.loop-k.served c.loop-k.invariant.served (found c)

pub returns-then-arr-now-clause-within : goal.returns-then-arr-now-clause-within
returns-then-arr-now-clause-within c =
    let many = ap length c.stops-stops.ensures.value in
    within_all c.args.params.now c.args.schedule.now c.args.now c.loop-k.k c.loop-k.served c.loop-k.invariant.served (omega (arith, c.loop-k-test.true, many))

pub returns-then-arr-now-clause-start : goal.returns-then-arr-now-clause-start
returns-then-arr-now-clause-start c = start_all c.args.params.now c.args.schedule.now c.args.now c.loop-k.k c.loop-k.start c.loop-k.invariant.start (found c)

pub loop-k-preserved : goal.loop-k-preserved
loop-k-preserved c =
    let p = c.args.schedule.now in
    let rates = c.args.params.now in
    let k = c.loop-k.k in
    let many = ap length c.stops-stops.ensures.value in
    let there = read_at c.stops-stops.result.now p.stops k _ c.stops-stops.ensures.value (omega (arith, c.loop-k-test.true, many)) in
    let leg = length_at p.legs k c.leg.result.now c.leg.ensures.value in
    let way : c.length.result ≡ _ = search rules in
    let start = c.loop-k.invariant.start in
    let left : c.max-dep.result ≡ departs rates.stop (course_of p) (k + 1) = departs_more rates.stop (course_of p) k c.loop-k.start.departure c.length.result c.max-dep.result c.halts_at.result _ start.departure (search rules) there way (search rules) in
    record {
      all = all_more rates p c.args.now k c.loop-k.start.departure c.length.result c.loop-k.invariant.all start.departure way c.if-arr-now.false;
      served = served_next rates p c.args.now k c.loop-k.served c.push.new.self _ c.loop-k.start.departure c.length.result c.max-dep.result there c.loop-k.invariant.served start.departure way left (search rules);
      start = start_more rates p k _ _ there refl left refl;
      halt = halts_more (course_of p) k _ there;
      small = search rules;
    }

done : (c : goal.After-loop-k) → reached_by c.args.params.now c.args.schedule.now c.args.now ≡ c.loop-k.k
done c =
    let many = ap length c.stops-stops.ensures.value in
    reached_is c.args.params.now c.args.schedule.now c.args.now c.loop-k.k (omega (arith, c.loop-k.auto.k-end, many)) c.loop-k.invariant.all (λ l. absurd (omega (arith, c.loop-k-test.false, many, l)))

pub returns-clause-served : goal.returns-clause-served
returns-clause-served c = served_all c.args.params.now c.args.schedule.now c.args.now c.loop-k.k c.loop-k.served c.loop-k.invariant.served (done c)

pub returns-clause-within : goal.returns-clause-within
returns-clause-within c =
    let many = ap length c.stops-stops.ensures.value in
    within_all c.args.params.now c.args.schedule.now c.args.now c.loop-k.k c.loop-k.served c.loop-k.invariant.served (omega (arith, c.loop-k.auto.k-end, many))

pub returns-clause-start : goal.returns-clause-start
returns-clause-start c = start_all c.args.params.now c.args.schedule.now c.args.now c.loop-k.k c.loop-k.start c.loop-k.invariant.start (done c)
