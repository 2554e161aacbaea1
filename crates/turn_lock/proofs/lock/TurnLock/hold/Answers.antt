use Rattle.std.proofs.Common.{ℕ, List, [], ◌∷◌, refl, sym, ap, ◌∙◌, subst, arith, length, ◌<◌, ◌^◌, Some}
use Rattle.atomic_table.specs.Table.{rest}
use Rattle.turn_lock.specs.declared.view.Stage.TheVariants.{Waiting}
use Rattle.turn_lock.specs.declared.view.SeatView.{SeatView}
use Rattle.turn_lock.specs.Views.{seen_of, IsHeld}
use Rattle.turn_lock.specs.Noted.{Follows}
use Rattle.turn_lock.specs.Steps.{staged}
use Rattle.turn_lock.proofs.IsSeated.{came, some_value, takes_turn}
use Rattle.turn_lock.proofs.lock.TurnLock.hold.Goals as goal

pub draw_ticket-ticket-requires-clause-free : goal.draw_ticket-ticket-requires-clause-free
draw_ticket-ticket-requires-clause-free g c = let h = c.seat-chair.ensures in (h.view, h.me_is, h.stage)

pub wait_for_turn-requires-clause-waits : goal.wait_for_turn-requires-clause-waits
wait_for_turn-requires-clause-waits g c = let h = c.seat-chair.ensures in
    (record h.view { stage = Waiting c.draw_ticket-ticket.result }, c.draw_ticket-ticket.ensures.waits ∙ ap (λ (p : SeatView g.row.V-Entry.Denot g.row.V-Origin.Denot). (staged (Waiting c.draw_ticket-ticket.result) p, [])) (ap (λ m. m.0) h.me_is), refl)

pub exchange-requires : goal.exchange-requires
exchange-requires g c = let h = c.seat-chair.ensures in
    let t = came g.V.Recorded.noted g.V.Recorded.IsFrom c.args.number c.args.family c.draw_ticket-ticket.result c.args.self.now (seen_of c.args.badge.views) c.seat-chair.result.table_id c.seat-chair.result.me c.draw_ticket-ticket.new.chair.me c.wait_for_turn.new.chair.me h c.draw_ticket-ticket.ensures.waits c.wait_for_turn.ensures.comes in
    let held = ap (λ m. m.1) t.2 in (
      c.wait_for_turn.ensures.table ∙ (c.draw_ticket-ticket.ensures.table ∙ (h.table ∙ sym (ap (λ l. l.table) c.self.view_is))),
      (Some t.1, held ∙ ap (λ xs. (0, Some t.1) ∷ rest xs) (sym held)),
    )

pub unwrap-value-requires : goal.unwrap-value-requires
unwrap-value-requires g c = let h = c.seat-chair.ensures in
    let t = came g.V.Recorded.noted g.V.Recorded.IsFrom c.args.number c.args.family c.draw_ticket-ticket.result c.args.self.now (seen_of c.args.badge.views) c.seat-chair.result.table_id c.seat-chair.result.me c.draw_ticket-ticket.new.chair.me c.wait_for_turn.new.chair.me h c.draw_ticket-ticket.ensures.waits c.wait_for_turn.ensures.comes in
    rw (some_value g.V.Recorded.noted g.V.Recorded.IsFrom (record h.view { stage = Waiting c.draw_ticket-ticket.result }) c.draw_ticket-ticket.result c.exchange.result c.wait_for_turn.new.chair.me t c.exchange.ensures.2) refl

pub noted_count-entered-requires : goal.noted_count-entered-requires
noted_count-entered-requires g c = let h = c.seat-chair.ensures in let e = c.exchange.ensures in
    let t = takes_turn g.V.Recorded.noted g.V.Recorded.IsFrom c.args.number c.args.family c.draw_ticket-ticket.result c.args.self.now (seen_of c.args.badge.views) c.seat-chair.result.table_id c.exchange.new.seat.table_id c.exchange.result c.unwrap-value.result
    c.seat-chair.result.me c.draw_ticket-ticket.new.chair.me c.wait_for_turn.new.chair.me c.exchange.new.seat.me h c.draw_ticket-ticket.ensures.waits c.wait_for_turn.ensures.comes (e.0 ∙ (c.wait_for_turn.ensures.table ∙ c.draw_ticket-ticket.ensures.table)) e.2 e.3 c.unwrap-value.ensures in let l = t.few in omega arith

pub invariant_of-result : goal.invariant_of-result
invariant_of-result g c = let h = c.seat-chair.ensures in let e = c.exchange.ensures in
    let t = takes_turn g.V.Recorded.noted g.V.Recorded.IsFrom c.args.number c.args.family c.draw_ticket-ticket.result c.args.self.now (seen_of c.args.badge.views) c.seat-chair.result.table_id c.exchange.new.seat.table_id c.exchange.result c.unwrap-value.result
    c.seat-chair.result.me c.draw_ticket-ticket.new.chair.me c.wait_for_turn.new.chair.me c.exchange.new.seat.me h c.draw_ticket-ticket.ensures.waits c.wait_for_turn.ensures.comes (e.0 ∙ (c.wait_for_turn.ensures.table ∙ c.draw_ticket-ticket.ensures.table)) e.2 e.3 c.unwrap-value.ensures in subst (λ (k : ℕ). IsHeld g.V.Recorded.noted g.V.Recorded.IsFrom c.args.number c.args.family k c.exchange.new.seat.me (Some c.unwrap-value.result)) (sym c.noted_count-entered.ensures) t.held

pub returns-clause-turn : goal.returns-clause-turn
returns-clause-turn g c = let h = c.seat-chair.ensures in let e = c.exchange.ensures in
    let t = takes_turn g.V.Recorded.noted g.V.Recorded.IsFrom c.args.number c.args.family c.draw_ticket-ticket.result c.args.self.now (seen_of c.args.badge.views) c.seat-chair.result.table_id c.exchange.new.seat.table_id c.exchange.result c.unwrap-value.result
    c.seat-chair.result.me c.draw_ticket-ticket.new.chair.me c.wait_for_turn.new.chair.me c.exchange.new.seat.me h c.draw_ticket-ticket.ensures.waits c.wait_for_turn.ensures.comes (e.0 ∙ (c.wait_for_turn.ensures.table ∙ c.draw_ticket-ticket.ensures.table)) e.2 e.3 c.unwrap-value.ensures in (t.state ∙ (λ i. record { number = c.args.number; family = c.args.family; lock = sym c.requires.1 i; seen = seen_of c.args.badge.views }), refl)

pub returns-clause-few : goal.returns-clause-few
returns-clause-few g c = let h = c.seat-chair.ensures in let e = c.exchange.ensures in
    let t = takes_turn g.V.Recorded.noted g.V.Recorded.IsFrom c.args.number c.args.family c.draw_ticket-ticket.result c.args.self.now (seen_of c.args.badge.views) c.seat-chair.result.table_id c.exchange.new.seat.table_id c.exchange.result c.unwrap-value.result
    c.seat-chair.result.me c.draw_ticket-ticket.new.chair.me c.wait_for_turn.new.chair.me c.exchange.new.seat.me h c.draw_ticket-ticket.ensures.waits c.wait_for_turn.ensures.comes (e.0 ∙ (c.wait_for_turn.ensures.table ∙ c.draw_ticket-ticket.ensures.table)) e.2 e.3 c.unwrap-value.ensures in subst (λ (l : List (ℕ × g.row.V-Entry.Denot)). length l < 2 ^ 62) (sym t.list) t.few

pub returns-clause-found : goal.returns-clause-found
returns-clause-found g c = let h = c.seat-chair.ensures in let e = c.exchange.ensures in
    let t = takes_turn g.V.Recorded.noted g.V.Recorded.IsFrom c.args.number c.args.family c.draw_ticket-ticket.result c.args.self.now (seen_of c.args.badge.views) c.seat-chair.result.table_id c.exchange.new.seat.table_id c.exchange.result c.unwrap-value.result
    c.seat-chair.result.me c.draw_ticket-ticket.new.chair.me c.wait_for_turn.new.chair.me c.exchange.new.seat.me h c.draw_ticket-ticket.ensures.waits c.wait_for_turn.ensures.comes (e.0 ∙ (c.wait_for_turn.ensures.table ∙ c.draw_ticket-ticket.ensures.table)) e.2 e.3 c.unwrap-value.ensures in subst (λ (l : List (ℕ × g.row.V-Entry.Denot)). Follows c.args.number c.args.family (seen_of c.args.badge.views) l) (sym t.list) t.found
