use Rattle.std.proofs.Common.{ℕ, Option, sym, ◌∙◌, subst, arith}
use mathlib.Core.Option.{none}
use Rattle.atomic_table.specs.Table.{Me, Allows, step}
use Rattle.turn_lock.specs.declared.view.SeatView.{SeatView}
use Rattle.turn_lock.specs.Rule.{IsRuled}
use Rattle.turn_lock.specs.Steps.{looked_for_turn}
use Rattle.turn_lock.proofs.TurnSteps.{looks}
use Rattle.turn_lock.proofs.steps.wait_for_turn.Goals as goal

pub load-served-requires : goal.load-served-requires
load-served-requires g c = let r = c.requires.waits in let n : ℕ = c.args.top.now.table_id.slots in let i = c.loop.invariant in (
  i.2 ∙ c.requires.table.1,
  omega (arith, c.requires.table.0.0),
  subst (λ (me : Me (Option g.row.V.Denot) (SeatView g.row.V-Entry.Denot g.row.V-Origin.Denot)). Allows (IsRuled g.V.Recorded.noted g.V.Recorded.IsFrom c.args.top.now.key) n c.loop.chair.id me 1 (λ k. k) (looked_for_turn g.V.Recorded.noted g.V.Recorded.IsFrom (step n 1 0 0 none) me))
      (sym (i.3 ∙ r.1)) (looks g.V.Recorded.noted g.V.Recorded.IsFrom c.args.top.now.key n c.loop.chair.id r.0 c.args.ticket r.2 (omega arith)),
)
