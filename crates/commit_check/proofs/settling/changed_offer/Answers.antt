use Rattle.std.proofs.Common.{arith}
use Rattle.std.proofs.lemmas.Result.{IfOk-weaker}
use Rattle.commit_check.proofs.Known.{is_changed}
use Rattle.commit_check.proofs.Redone.{asked_changed}
use Rattle.commit_check.proofs.settling.changed_offer.Goals as goal

pub returns-clause-first : goal.returns-clause-first
returns-clause-first g c = IfOk-weaker c.one.result _ _ (λ best h. is_changed (g.P.Pricer.graph c.args.pricer.now)
    (g.F.FleetView.fleet c.args.view.now) c.args.request.now c.args.base c.args.place c.stamp.result best
    c.stamp.ensures (λ l. (let n = c.if-stamp-base.false in omega arith)) h) c.one.ensures.best

pub returns-clause-few : goal.returns-clause-few
returns-clause-few g c = asked_changed (g.F.FleetView.fleet c.args.view.now) c.args.base c.args.place c.stamp.result c.args.steps.now.1
    c.one.new.steps.1 c.requires.place
    c.stamp.ensures (λ l. (let n = c.if-stamp-base.false in omega arith)) c.one.ensures.few
