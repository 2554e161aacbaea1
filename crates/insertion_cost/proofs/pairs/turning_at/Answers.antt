use Rattle.std.proofs.Common.{refl}
use Rattle.insertion_cost.proofs.PricedBy.{turns_first, turns_later}
use Rattle.insertion_cost.proofs.pairs.turning_at.Goals as goal

pub returns-then-i-eq0-clause-value : goal.returns-then-i-eq0-clause-value
returns-then-i-eq0-clause-value c = λ rates time.
    turns_first rates c.args.schedule.now c.args.front.now c.args.i c.start-start.result _ c.if-i-eq0.true c.start-start.ensures.node c.start-start.ensures.departure c.start-start.ensures.halt c.halts_at.ensures refl refl

pub returns-else-i-eq0-clause-value : goal.returns-else-i-eq0-clause-value
returns-else-i-eq0-clause-value c = λ rates time. turns_later rates c.args.schedule.now c.args.front.now c.args.i _ c.if-i-eq0.false c.halt_at.ensures time refl
