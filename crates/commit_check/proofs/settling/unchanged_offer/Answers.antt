use Rattle.std.proofs.Common.{arith, sym, ◌∙◌}
use Rattle.std.proofs.lemmas.Result.{IfOk-weaker}
use Rattle.commit_check.proofs.Known.{is_unchanged, is_listed, front_now, ahead_now, same_by_parts, other_by_parts}
use Rattle.commit_check.proofs.Redone.{asked_moved}
use Rattle.commit_check.proofs.settling.unchanged_offer.Goals as goal

pub front-front-requires : goal.front-front-requires
front-front-requires g c = record {
  ahead = ahead_now (g.F.FleetView.fleet c.args.view.now) c.args.entry.now.place c.schedule.result.now c.clock.result c.requires.place
      c.schedule.ensures c.clock.ensures
      (g.P.Pricer.graph c.args.pricer.now) c.requires.view.0;
}

pub returns-then-eq-clause-first : goal.returns-then-eq-clause-first
returns-then-eq-clause-first g c = is_listed (g.P.Pricer.graph c.args.pricer.now) (g.F.FleetView.fleet c.args.view.now) c.args.request.now
    c.args.base c.stamp.result c.args.entry.now c.front-front.result
    c.stamp.ensures (λ l. (let n = c.if-base-stamp.false in omega arith)) c.requires.entry
    (same_by_parts c.args.entry.now.front c.front-front.result (sym c.if-eq.ensures))
    (front_now (g.F.FleetView.fleet c.args.view.now) c.args.entry.now.place c.schedule.result.now c.clock.result c.front-front.result
    c.schedule.ensures c.clock.ensures c.front-front.ensures.value)

pub returns-clause-first : goal.returns-clause-first
returns-clause-first g c = IfOk-weaker c.one.result _ _ (λ best h. is_unchanged (g.P.Pricer.graph c.args.pricer.now)
    (g.F.FleetView.fleet c.args.view.now) c.args.request.now c.args.base c.args.entry.now.place c.stamp.result best
    c.stamp.ensures (λ l. (let n = c.if-base-stamp.false in omega arith)) h) c.one.ensures.best

pub returns-clause-few : goal.returns-clause-few
returns-clause-few g c = asked_moved (g.F.FleetView.fleet c.args.view.now) c.args.base c.stamp.result c.args.entry.now c.front-front.result
    c.args.steps.now.1 c.one.new.steps.1 c.requires.place
    c.stamp.ensures (λ l. (let n = c.if-base-stamp.false in omega arith))
    (other_by_parts c.args.entry.now.front c.front-front.result (sym c.eq.ensures ∙ c.if-eq.false))
    (front_now (g.F.FleetView.fleet c.args.view.now) c.args.entry.now.place c.schedule.result.now c.clock.result c.front-front.result
    c.schedule.ensures c.clock.ensures c.front-front.ensures.value) c.one.ensures.few
