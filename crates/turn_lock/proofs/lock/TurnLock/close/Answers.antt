use Rattle.std.proofs.Common.{◌≡◌, ℕ, List, refl, sym, ap, ◌∙◌, subst}
use Rattle.std.specs.Prelude.{All}
use Rattle.std.specs.Mem.Slots.{slots_items}
use Rattle.turn_lock.specs.Noted.{InFamily}
use Rattle.turn_lock.specs.Views.{seen_of}
use Rattle.turn_lock.proofs.Close.{ended}
use Rattle.turn_lock.proofs.lock.TurnLock.close.Goals as goal

pub unwrap-requires : goal.unwrap-requires
unwrap-requires g c = let h = c.seat-chair.ensures in let v = c.close_with-closed.ensures.values in
    let e = ended g.V.Recorded.noted g.V.Recorded.IsFrom c.self.inside.table.shared.key c.desk.inside.number c.desk.inside.family c.seat-chair.result.id c.args.self (seen_of c.desk.inside.badge.views) c.seat-chair.result.table_id c.seat-chair.result.me
    (slots_items c.close_with-closed.result.words) (slots_items c.close_with-closed.result.slots) c.take-slot.result h (c.if-desk-self.false ∙ c.self.invariant.0) v.2 c.take-slot.ensures.value in rw e.1 refl

pub returns-clause-ok : goal.returns-clause-ok
returns-clause-ok g c = let h = c.seat-chair.ensures in let v = c.close_with-closed.ensures.values in
    let e = ended g.V.Recorded.noted g.V.Recorded.IsFrom c.self.inside.table.shared.key c.desk.inside.number c.desk.inside.family c.seat-chair.result.id c.args.self (seen_of c.desk.inside.badge.views) c.seat-chair.result.table_id c.seat-chair.result.me
    (slots_items c.close_with-closed.result.words) (slots_items c.close_with-closed.result.slots) c.take-slot.result h (c.if-desk-self.false ∙ c.self.invariant.0) v.2 c.take-slot.ensures.value in
    let y : e.0 ≡ c.unwrap.result = cc in let seen = ap (λ d. d.seen) c.desk.view_is in (
      subst (λ (k : g.row.V-Origin.Denot × g.row.V.Denot). g.V.Recorded.IsFrom k.0 k.1) (λ i. ((c.self.view_is i).origin, y i)) e.2,
      ap g.V.Recorded.noted (sym y) ∙ (e.3 ∙ seen),
      subst (λ (k : ℕ × ℕ × List (ℕ × g.row.V-Entry.Denot)). All (λ (x : ℕ × g.row.V-Entry.Denot). InFamily k.0 k.1 x.0) k.2) (λ i. ((c.desk.view_is i).number, (c.desk.view_is i).family, seen i)) e.4,
    )
