use Rattle.std.proofs.Common.{◌≡◌, true, false, sym, ◌∙◌}
use Rattle.commit_check.proofs.Known.{decided_best, settles_decides}
use Rattle.commit_check.proofs.settling.best_now.Goals as goal

pub returns-then-is_decided-clause-best : goal.returns-then-is_decided-clause-best
returns-then-is_decided-clause-best g c = decided_best (g.P.Pricer.graph c.args.pricer.now) (g.F.FleetView.fleet c.args.view.now)
    c.args.request.now c.args.candidates.now c.requires.sound c.in_ok-best.best
    c.in_ok-best.ensures.first (sym c.is_decided.ensures ∙ c.if-is_decided.true)

pub returns-in_err-priced-clause-few : goal.returns-in_err-priced-clause-few
returns-in_err-priced-clause-few g c = λ settles. (let bad : true ≡ false =
    sym (settles_decides (g.P.Pricer.graph c.args.pricer.now) (g.F.FleetView.fleet c.args.view.now) c.args.request.now
    c.args.candidates.now c.requires.sound c.in_ok-best.best c.in_ok-best.ensures.first settles)
    ∙ sym c.is_decided.ensures ∙ c.if-is_decided.false in cc)

pub returns-clause-few : goal.returns-clause-few
returns-clause-few g c = λ settles. (let bad : true ≡ false =
    sym (settles_decides (g.P.Pricer.graph c.args.pricer.now) (g.F.FleetView.fleet c.args.view.now) c.args.request.now
    c.args.candidates.now c.requires.sound c.in_ok-best.best c.in_ok-best.ensures.first settles)
    ∙ sym c.is_decided.ensures ∙ c.if-is_decided.false in cc)

pub returns-clause-best : goal.returns-clause-best
returns-clause-best g c = c.best_listed.ensures.best (g.P.Pricer.graph c.args.pricer.now) (g.F.FleetView.fleet c.args.view.now)
    c.args.request.now c.requires.view.0 c.in_ok-priced.ensures.fresh c.in_ok-priced.ensures.decides
