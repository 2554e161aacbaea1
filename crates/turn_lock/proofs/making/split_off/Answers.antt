use Rattle.std.proofs.Common.{◌≡◌, ℕ, ◌+◌, ◌<◌, refl, sym, ap, ◌∙◌, subst, arith}
use Rattle.atomic_table.specs.Table.{Splits}
use Rattle.turn_lock.specs.declared.view.View.{View}
use Rattle.turn_lock.specs.declared.view.SeatView.{SeatView}
use Rattle.turn_lock.specs.Rule.{IsRuled}
use Rattle.turn_lock.specs.Steps.{first_view, drawn_view, cut_left, cut_right}
use Rattle.turn_lock.proofs.SeatViews.{living_one}
use Rattle.turn_lock.proofs.DealSteps.{splits}
use Rattle.turn_lock.proofs.IsSeated.{drawn_first, split_first, split_next}
use Rattle.turn_lock.proofs.making.split_off.Goals as goal

pub draw_number-number-requires-clause-room : goal.draw_number-number-requires-clause-room
draw_number-number-requires-clause-room g c = λ v h. let r = c.requires in
    let e : first_view c.args.lock.now r.0 ≡ v = living_one (first_view c.args.lock.now r.0) v (sym (ap (λ m. m.0) r.2.1) ∙ h) in
    (sym (ap (λ (u : View g.row.V-Entry.Denot g.row.V-Origin.Denot). u.number) e), subst (λ (u : View g.row.V-Entry.Denot g.row.V-Origin.Denot). u.drawn + 1 < u.desks) e r.1)

pub split_seat-next-requires : goal.split_seat-next-requires
split_seat-next-requires g c = let r = c.requires in let d : ℕ = r.0 in
    let e = drawn_first c.args.lock.now d c.draw_number-number.result c.args.chair.now.me c.draw_number-number.new.chair.me r.2.1 c.draw_number-number.ensures.drawn in let here = ap (λ l. l.table) c.lock.view_is in (
      c.draw_number-number.ensures.table ∙ (r.2.0 ∙ sym here),
      omega (arith, c.lock.invariant.1),
      subst (λ (p : SeatView g.row.V-Entry.Denot g.row.V-Origin.Denot). Splits (IsRuled g.V.Recorded.noted g.V.Recorded.IsFrom c.lock.inside.table.shared.key) c.draw_number-number.new.chair.id p (cut_left p) (cut_right p))
          (sym (ap (λ m. m.0) e.0)) (splits g.V.Recorded.noted g.V.Recorded.IsFrom c.lock.inside.table.shared.key c.draw_number-number.new.chair.id (drawn_view (d + 1) (first_view c.args.lock.now d)) (d + 1) refl),
    )

pub invariant_of-result : goal.invariant_of-result
invariant_of-result g c = let r = c.requires in let d : ℕ = r.0 in
    let e = drawn_first c.args.lock.now d c.draw_number-number.result c.args.chair.now.me c.draw_number-number.new.chair.me r.2.1 c.draw_number-number.ensures.drawn in let s = c.split_seat-next.ensures in
    (split_next c.args.lock.now d c.draw_number-number.result c.into_badge.result.table_id c.draw_number-number.new.chair.me c.split_seat-next.result.me c.into_badge.result.views e.0 s.4 c.into_badge.ensures.2 e.1
    (c.into_badge.ensures.0 ∙ (s.3 ∙ (c.draw_number-number.ensures.table ∙ r.2.0)))).0

pub returns : goal.returns
returns g c = λ d first. let s = c.split_seat-next.ensures in
    let e = drawn_first c.args.lock.now d c.draw_number-number.result c.args.chair.now.me c.draw_number-number.new.chair.me first.1 c.draw_number-number.ensures.drawn in (
      (s.0 ∙ (c.draw_number-number.ensures.table ∙ first.0), split_first c.args.lock.now d c.draw_number-number.new.chair.me c.split_seat-next.new.seat.me e.0 s.2),
      (split_next c.args.lock.now d c.draw_number-number.result c.into_badge.result.table_id c.draw_number-number.new.chair.me c.split_seat-next.result.me c.into_badge.result.views e.0 s.4 c.into_badge.ensures.2 e.1
          (c.into_badge.ensures.0 ∙ (s.3 ∙ (c.draw_number-number.ensures.table ∙ first.0)))).1,
    )
