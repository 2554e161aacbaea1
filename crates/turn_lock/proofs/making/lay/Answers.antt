use Rattle.std.proofs.Common.{sym, subst}
use Rattle.turn_lock.proofs.DealSteps.{opens}
use Rattle.turn_lock.proofs.making.lay.Goals as goal

pub new-requires : goal.new-requires
new-requires g c = opens g.V.Recorded.noted g.V.Recorded.IsFrom (record { desks = c.args.desks; origin = c.pick.result }) c.args.value c.in_ok-slots.slots.items c.in_ok-slots.ensures.ok c.requires.1.1.1.0
    (subst (λ o. g.V.Recorded.IsFrom o c.args.value) (sym c.pick.ensures) c.requires.1.1.1.1.0) c.requires.1.1.1.1.1.0 c.requires.1.1.1.1.1.1
