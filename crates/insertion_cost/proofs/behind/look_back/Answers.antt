use Rattle.std.proofs.Common.{ℕ, ◌≡◌, ◌-◌, length, arith, ap, subst}
use Rattle.insertion_cost.specs.Behind.{IsBehind}
use Rattle.insertion_cost.specs.Changes.{course_from}
use Rattle.insertion_cost.proofs.BehindStops.{rows_one, rows_more}
use Rattle.insertion_cost.proofs.behind.look_back.Goals as goal

pub loop-n-init : goal.loop-n-init
loop-n-init c =
    let e = course_from c.args.start.now c.args.schedule.now in
    let all = ap length c.stops-count.ensures.value in
    let until = c.until.ensures in
    let is = subst (λ (u : ℕ). IsBehind c.args.params.now.stop u e (length e.stops) c.behind_last-behind.result) until (c.behind_last-behind.ensures c.args.params.now.stop e) in
    record {
      all = all;
      within = omega arith;
      rows = rows_one c.args.params.now.stop c.args.schedule.now.until e c.behind_last-behind.result _ _ c.clear.ensures.items c.in_ok-push.ensures.items is;
      last = λ i far. subst (λ (k : ℕ). IsBehind c.args.params.now.stop c.args.schedule.now.until e k c.behind_last-behind.result) (omega arith) is;
    }

pub loop-n-preserved : goal.loop-n-preserved
loop-n-preserved c =
    let e = course_from c.args.start.now c.args.schedule.now in
    let k = length c.stops-count.result.now - 1 - c.loop-n.n in
    let all = c.loop-n.invariant.all in
    let more = c.loop-n-test.true in
    record {
      all = all;
      within = omega arith;
      rows = rows_more c.args.params.now.stop c.args.schedule.now.until e c.loop-n.n k c.one_before-behind.result c.loop-n.rows.items _ c.loop-n.invariant.rows c.in_ok-push-2.ensures.items (omega arith) c.one_before-behind.ensures;
      last = λ i far. subst (λ (h : ℕ). IsBehind c.args.params.now.stop c.args.schedule.now.until e h c.one_before-behind.result) (let same : k ≡ i = omega arith in same) c.one_before-behind.ensures;
    }
