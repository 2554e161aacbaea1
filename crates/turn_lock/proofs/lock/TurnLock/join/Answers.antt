use Rattle.std.proofs.Common.{◌≡◌, ℕ, ◌+◌, refl, sym, ap, ◌∙◌, subst, arith, Option, Some}
use mathlib.Core.Option.{none}
use Rattle.atomic_table.specs.Table.{Me, Allows, Joins, step}
use Rattle.turn_lock.specs.declared.view.SeatView.{SeatView}
use Rattle.turn_lock.specs.declared.view.SeatView.TheVariants.{Spent}
use Rattle.turn_lock.specs.Rule.{IsRuled}
use Rattle.turn_lock.specs.Desks.{DeskState, IsJoinOf}
use Rattle.turn_lock.specs.Steps.{looked, joined, joined_view}
use Rattle.turn_lock.specs.Views.{seen_of, desk_state}
use Rattle.turn_lock.proofs.JoinSteps.{joins, looks_at_join}
use Rattle.turn_lock.proofs.IsSeated.{folds, folded}
use Rattle.turn_lock.proofs.lock.TurnLock.join.Goals as goal

pub join_seat-requires : goal.join_seat-requires
join_seat-requires g c = let h = c.seat-chair.ensures in let h' = c.seat-theirs.ensures in let here = ap (λ l. l.table) c.self.view_is in
    let next : c.other.inside.number ≡ c.desk.inside.number + c.desk.inside.family = ap (λ d. d.number) c.other.view_is ∙ (c.requires.next ∙ (λ i. (sym c.desk.view_is i).number + (sym c.desk.view_is i).family)) in (
      h.table ∙ sym here,
      h'.table ∙ sym here,
      ap (λ m. m.1) h'.me_is,
      omega (arith, c.self.invariant.1),
      subst (λ (z : SeatView g.row.V-Entry.Denot g.row.V-Origin.Denot × SeatView g.row.V-Entry.Denot g.row.V-Origin.Denot).
          Joins (IsRuled g.V.Recorded.noted g.V.Recorded.IsFrom c.self.inside.table.shared.key) c.seat-chair.result.id z.0 c.seat-theirs.result.id z.1 (joined z.0 z.1) Spent)
          (λ i. ((sym h.me_is i).0, (sym h'.me_is i).0))
          (joins g.V.Recorded.noted g.V.Recorded.IsFrom c.self.inside.table.shared.key c.seat-chair.result.id h.view c.seat-theirs.result.id h'.view h.stage h'.stage (h'.number ∙ (next ∙ (λ i. sym h.number i + sym h.family i)))),
    )

pub load-desk-inside-requires : goal.load-desk-inside-requires
load-desk-inside-requires g c = let h = c.seat-chair.ensures in let h' = c.seat-theirs.ensures in let here = ap (λ l. l.table) c.self.view_is in let n : ℕ = c.self.inside.table.shared.table_id.slots in
    let e = folds c.desk.inside.number c.desk.inside.family c.other.inside.number c.other.inside.family c.args.self.now (seen_of c.replace-badge.result.views) (seen_of c.other.inside.badge.views) c.seat-chair.result.table_id c.seat-theirs.result.table_id c.seat-chair.result.me c.seat-theirs.result.me c.join_seat.new.seat.me h h' c.join_seat.ensures.2 in (
      c.join_seat.ensures.0 ∙ (h.table ∙ sym here),
      omega (arith, c.self.invariant.1),
      subst (λ (me : Me (Option g.row.V.Denot) (SeatView g.row.V-Entry.Denot g.row.V-Origin.Denot)). Allows (IsRuled g.V.Recorded.noted g.V.Recorded.IsFrom c.self.inside.table.shared.key) n c.join_seat.new.seat.id me 0 (λ k. k) (looked (step n 0 0 0 none) me))
          (sym e) (looks_at_join g.V.Recorded.noted g.V.Recorded.IsFrom c.self.inside.table.shared.key n c.join_seat.new.seat.id (joined_view h.view h'.view) h.view.seen h.view.family h'.view.seen refl),
    )

pub overflow_add-desk : goal.overflow_add-desk
overflow_add-desk g c = let h = c.seat-chair.ensures in let h' = c.seat-theirs.ensures in let next : c.other.inside.number ≡ c.desk.inside.number + c.desk.inside.family = ap (λ d. d.number) c.other.view_is ∙ (c.requires.next ∙ (λ i. (sym c.desk.view_is i).number + (sym c.desk.view_is i).family)) in
    let d = folded c.desk.inside.number c.desk.inside.family c.other.inside.number c.other.inside.family c.args.self.now (seen_of c.replace-badge.result.views) (seen_of c.other.inside.badge.views) c.seat-chair.result.table_id c.seat-theirs.result.table_id c.into_badge.result.table_id c.seat-chair.result.me c.seat-theirs.result.me c.join_seat.new.seat.me c.load-desk-inside.new.seat.me c.into_badge.result.views h h' next
    c.join_seat.ensures.2 c.load-desk-inside.ensures.2 (c.into_badge.ensures.0 ∙ (c.load-desk-inside.ensures.0 ∙ c.join_seat.ensures.0)) c.into_badge.ensures.2 in let l = d.low in record { fits = omega arith }

pub invariant_of-desk : goal.invariant_of-desk
invariant_of-desk g c = let h = c.seat-chair.ensures in let h' = c.seat-theirs.ensures in let next : c.other.inside.number ≡ c.desk.inside.number + c.desk.inside.family = ap (λ d. d.number) c.other.view_is ∙ (c.requires.next ∙ (λ i. (sym c.desk.view_is i).number + (sym c.desk.view_is i).family)) in
    let d = folded c.desk.inside.number c.desk.inside.family c.other.inside.number c.other.inside.family c.args.self.now (seen_of c.replace-badge.result.views) (seen_of c.other.inside.badge.views) c.seat-chair.result.table_id c.seat-theirs.result.table_id c.into_badge.result.table_id c.seat-chair.result.me c.seat-theirs.result.me c.join_seat.new.seat.me c.load-desk-inside.new.seat.me c.into_badge.result.views h h' next
    c.join_seat.ensures.2 c.load-desk-inside.ensures.2 (c.into_badge.ensures.0 ∙ (c.load-desk-inside.ensures.0 ∙ c.join_seat.ensures.0)) c.into_badge.ensures.2 in d.resting

pub returns : goal.returns
returns g c = let h = c.seat-chair.ensures in let h' = c.seat-theirs.ensures in let next : c.other.inside.number ≡ c.desk.inside.number + c.desk.inside.family = ap (λ d. d.number) c.other.view_is ∙ (c.requires.next ∙ (λ i. (sym c.desk.view_is i).number + (sym c.desk.view_is i).family)) in
    let d = folded c.desk.inside.number c.desk.inside.family c.other.inside.number c.other.inside.family c.args.self.now (seen_of c.replace-badge.result.views) (seen_of c.other.inside.badge.views) c.seat-chair.result.table_id c.seat-theirs.result.table_id c.into_badge.result.table_id c.seat-chair.result.me c.seat-theirs.result.me c.join_seat.new.seat.me c.load-desk-inside.new.seat.me c.into_badge.result.views h h' next
    c.join_seat.ensures.2 c.load-desk-inside.ensures.2 (c.into_badge.ensures.0 ∙ (c.load-desk-inside.ensures.0 ∙ c.join_seat.ensures.0)) c.into_badge.ensures.2 in
    let one : ◌≡◌ {A = DeskState g.row.V-Entry.Denot g.row.V-Origin.Denot} (record { number = c.desk.inside.number; family = c.desk.inside.family; lock = Some c.args.self.now; seen = seen_of c.replace-badge.result.views }) c.args.desk.now =
    λ i. record { number = (c.desk.view_is i).number; family = (c.desk.view_is i).family; lock = sym c.requires.lock.0 i; seen = (ap (λ b. seen_of b.views) c.replace-badge.ensures.value ∙ ap (λ d. d.seen) c.desk.view_is) i } in
    let two : ◌≡◌ {A = DeskState g.row.V-Entry.Denot g.row.V-Origin.Denot} (record { number = c.other.inside.number; family = c.other.inside.family; lock = Some c.args.self.now; seen = seen_of c.other.inside.badge.views }) c.args.other =
    λ i. record { number = (c.other.view_is i).number; family = (c.other.view_is i).family; lock = sym c.requires.lock.1 i; seen = (c.other.view_is i).seen } in
    subst (λ (k : DeskState g.row.V-Entry.Denot g.row.V-Origin.Denot × DeskState g.row.V-Entry.Denot g.row.V-Origin.Denot).
    IsJoinOf k.0 k.1 (desk_state c.desk.inside.number (c.desk.inside.family + c.other.inside.family) c.into_badge.result.table_id c.into_badge.result.views)) (λ i. (one i, two i)) d.state
