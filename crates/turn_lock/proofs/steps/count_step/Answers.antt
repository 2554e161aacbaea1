use Rattle.std.proofs.Common.{ℕ, eqb, [], ◌∷◌, Option, None, sym, subst, arith}
use mathlib.Core.Option.{some}
use prog.Atomic.{either}
use Rattle.atomic_table.specs.Table.{Me, Allows, step}
use Rattle.turn_lock.specs.declared.view.SeatView.{SeatView}
use Rattle.turn_lock.specs.Rule.{IsRuled}
use Rattle.turn_lock.specs.Steps.{counted}
use Rattle.turn_lock.proofs.TurnSteps.{counts}
use Rattle.turn_lock.proofs.steps.count_step.Goals as goal

pub compare_exchange_with-requires : goal.compare_exchange_with-requires
compare_exchange_with-requires g c = let r = c.requires.entered in let n : ℕ = c.args.top.now.table_id.slots in let old : ℕ = c.args.entered in let new : ℕ = c.args.count in (
  c.requires.table.1,
  omega (arith, c.requires.table.0.0),
  subst (λ (z : Me (Option g.row.V.Denot) (SeatView g.row.V-Entry.Denot g.row.V-Origin.Denot) × Option g.row.V.Denot). Allows (IsRuled g.V.Recorded.noted g.V.Recorded.IsFrom c.args.top.now.key) n c.args.chair.now.id z.0 2 (λ k. either (eqb k old) new k) (counted g.V.Recorded.noted g.V.Recorded.IsFrom (step n 2 old new (some z.1)) z.0))
      (λ i. (sym r.4 i, sym r.6 i)) (counts g.V.Recorded.noted g.V.Recorded.IsFrom c.args.top.now.key n c.args.chair.now.id r.0 r.1 r.2 r.3 ((0, None) ∷ []) old new r.5 r.7 r.8 r.9),
)
