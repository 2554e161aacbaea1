use Rattle.std.proofs.Common.{ℕ, ◌+◌, ◌%◌, ◌^◌, Option, sym, ap, subst, arith}
use mathlib.Core.Option.{none}
use Rattle.atomic_table.specs.Table.{Me, Allows, step}
use Rattle.turn_lock.specs.declared.view.SeatView.{SeatView}
use Rattle.turn_lock.specs.Rule.{IsRuled}
use Rattle.turn_lock.specs.Steps.{drew_number}
use Rattle.turn_lock.proofs.DealSteps.{draws_number}
use Rattle.turn_lock.proofs.making.draw_number.Goals as goal

pub fetch_add-requires : goal.fetch_add-requires
fetch_add-requires g c = let r = c.requires.first in let n : ℕ = c.args.top.now.table_id.slots in let h = c.requires.room r.0 (ap (λ m. m.0) r.1) in (
  c.requires.table.1,
  omega (arith, c.requires.table.0.0),
  subst (λ (me : Me (Option g.row.V.Denot) (SeatView g.row.V-Entry.Denot g.row.V-Origin.Denot)). Allows (IsRuled g.V.Recorded.noted g.V.Recorded.IsFrom c.args.top.now.key) n c.args.chair.now.id me 3 (λ k. (k + 1) % 2 ^ 64) (drew_number (step n 3 1 0 none) me))
      (sym r.1) (draws_number g.V.Recorded.noted g.V.Recorded.IsFrom c.args.top.now.key n c.args.chair.now.id r.0 r.2 h.0 h.1),
)
