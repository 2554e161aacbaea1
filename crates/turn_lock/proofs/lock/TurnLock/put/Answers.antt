use Rattle.std.proofs.Common.{[], ◌∷◌, refl, sym, ap, ◌∙◌, subst, None}
use Rattle.atomic_table.specs.Table.{rest}
use Rattle.turn_lock.specs.declared.view.Stage.TheVariants.{Free}
use Rattle.turn_lock.specs.Noted.{entries_of}
use Rattle.turn_lock.specs.Desks.{own}
use Rattle.turn_lock.specs.Steps.{staged, counted_view}
use Rattle.turn_lock.proofs.IsSeated.{turn_left, turn_lock, turn_adds, put_back, slot_there, left_desk, none_taken}
use Rattle.turn_lock.proofs.lock.TurnLock.put.Goals as goal

pub count_step-requires-clause-entered : goal.count_step-requires-clause-entered
count_step-requires-clause-entered g c = let t = c.held.invariant.turn in let i = c.held.inside in (
  t.view,
  t.ticket,
  t.list,
  c.args.value,
  t.me_is,
  t.stage,
  refl,
  t.counted,
  c.noted_count-count.ensures,
  turn_left i.number i.family i.entered i.chair.table_id i.chair.me i.value c.args.held (g.V.Recorded.noted c.args.value) t c.held.view_is c.requires.list,
)

pub exchange-empty-requires : goal.exchange-empty-requires
exchange-empty-requires g c = let t = c.held.invariant.turn in let i = c.held.inside in
    let e = c.count_step.ensures.counted t.view t.ticket t.list c.args.value (ap (λ m. m.0) t.me_is) t.stage refl in
    let held = ap (λ m. m.1) e ∙ ap (λ m. m.1) t.me_is in (
      c.count_step.ensures.table ∙ (ap (λ l. l.table) (turn_lock i.number i.family i.entered i.chair.table_id i.chair.me i.value c.args.held c.args.self.now t c.held.view_is c.requires.lock) ∙ sym (ap (λ l. l.table) c.self.view_is)),
      (None, held ∙ ap (λ xs. (0, None) ∷ rest xs) (sym held)),
    )

pub forget_none-requires : goal.forget_none-requires
forget_none-requires g c = none_taken c.held.inside.value (ap (λ h. h.taken) c.held.view_is ∙ c.requires.taken)

pub forget_none-requires-2 : goal.forget_none-requires-2
forget_none-requires-2 g c = let t = c.held.invariant.turn in let i = c.held.inside in
    let b = put_back g.V.Recorded.noted i.number i.family i.entered c.args.value c.exchange-empty.result i.chair.me c.count_step.new.chair.me c.exchange-empty.new.seat.me t c.count_step.ensures.counted c.exchange-empty.ensures.3 in slot_there g.V.Recorded.noted _ _ b.0 c.exchange-empty.ensures.2

pub serve_next-requires-clause-counted : goal.serve_next-requires-clause-counted
serve_next-requires-clause-counted g c = let t = c.held.invariant.turn in let i = c.held.inside in
    let b = put_back g.V.Recorded.noted i.number i.family i.entered c.args.value c.exchange-empty.result i.chair.me c.count_step.new.chair.me c.exchange-empty.new.seat.me t c.count_step.ensures.counted c.exchange-empty.ensures.3 in (
      counted_view t.ticket (g.V.Recorded.noted c.args.value) t.view,
      t.ticket,
      c.args.value,
      b.1,
      refl,
      refl,
      subst (λ o. g.V.Recorded.IsFrom o c.args.value) (sym (ap (λ l. l.origin) (turn_lock i.number i.family i.entered i.chair.table_id i.chair.me i.value c.args.held c.args.self.now t c.held.view_is c.requires.lock))) c.requires.origin,
    )

pub invariant_of-result : goal.invariant_of-result
invariant_of-result g c = let t = c.held.invariant.turn in let i = c.held.inside in
    let b = put_back g.V.Recorded.noted i.number i.family i.entered c.args.value c.exchange-empty.result i.chair.me c.count_step.new.chair.me c.exchange-empty.new.seat.me t c.count_step.ensures.counted c.exchange-empty.ensures.3 in
    let d = left_desk g.V.Recorded.noted i.number i.family i.entered i.chair.table_id c.into_badge-badge.result.table_id c.args.value i.chair.me c.serve_next.new.chair.me c.into_badge-badge.result.views i.value c.args.held c.args.self.now t c.held.view_is c.requires.lock
    (c.into_badge-badge.ensures.0 ∙ (c.serve_next.ensures.table ∙ (c.exchange-empty.ensures.0 ∙ c.count_step.ensures.table))) (c.serve_next.ensures.free ∙ ap (λ m. (staged Free m.0, [])) b.1) c.into_badge-badge.ensures.2 in d.0

pub returns : goal.returns
returns g c = let t = c.held.invariant.turn in let i = c.held.inside in
    let b = put_back g.V.Recorded.noted i.number i.family i.entered c.args.value c.exchange-empty.result i.chair.me c.count_step.new.chair.me c.exchange-empty.new.seat.me t c.count_step.ensures.counted c.exchange-empty.ensures.3 in
    let d = left_desk g.V.Recorded.noted i.number i.family i.entered i.chair.table_id c.into_badge-badge.result.table_id c.args.value i.chair.me c.serve_next.new.chair.me c.into_badge-badge.result.views i.value c.args.held c.args.self.now t c.held.view_is c.requires.lock
    (c.into_badge-badge.ensures.0 ∙ (c.serve_next.ensures.table ∙ (c.exchange-empty.ensures.0 ∙ c.count_step.ensures.table))) (c.serve_next.ensures.free ∙ ap (λ m. (staged Free m.0, [])) b.1) c.into_badge-badge.ensures.2 in
    let a = turn_adds i.number i.family i.entered i.chair.table_id i.chair.me i.value c.args.held (g.V.Recorded.noted c.args.value) t c.held.view_is c.requires.list in
    record { desk = d.1; same = λ e. ap own d.1 ∙ a.same e; more = λ x e. ap own d.1 ∙ a.more x e; others = λ n within other. ap (λ k. entries_of n k.seen) d.1 ∙ a.others n within other }
