use Rattle.std.proofs.Common.{ℕ, ◌+◌, ◌%◌, ◌^◌, Option, sym, subst, arith}
use mathlib.Core.Option.{none}
use Rattle.atomic_table.specs.Table.{Me, Allows, step}
use Rattle.turn_lock.specs.declared.view.SeatView.{SeatView}
use Rattle.turn_lock.specs.Rule.{IsRuled}
use Rattle.turn_lock.specs.Steps.{served}
use Rattle.turn_lock.proofs.TurnSteps.{serves}
use Rattle.turn_lock.proofs.steps.serve_next.Goals as goal

pub fetch_add-served-requires : goal.fetch_add-served-requires
fetch_add-served-requires g c = let r = c.requires.counted in let n : ℕ = c.args.top.now.table_id.slots in (
  c.requires.table.1,
  omega (arith, c.requires.table.0.0),
  subst (λ (me : Me (Option g.row.V.Denot) (SeatView g.row.V-Entry.Denot g.row.V-Origin.Denot)). Allows (IsRuled g.V.Recorded.noted g.V.Recorded.IsFrom c.args.top.now.key) n c.args.chair.now.id me 1 (λ k. (k + 1) % 2 ^ 64) (served (step n 1 1 0 none) me))
      (sym r.3) (serves g.V.Recorded.noted g.V.Recorded.IsFrom c.args.top.now.key n c.args.chair.now.id r.0 r.1 r.2 r.4 r.5 r.6),
)
