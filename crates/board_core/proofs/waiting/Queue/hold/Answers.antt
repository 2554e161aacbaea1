use Rattle.std.proofs.Common.{sym, refl, ◌∙◌}
use Rattle.board_core.proofs.Queues.{held, with_holder_is, same_holders}
use Rattle.board_core.proofs.waiting.Queue.hold.Goals as goal

pub returns-in_default : goal.returns-in_default
returns-in_default c = rw (← c.self.view_is) (same_holders _ _ _ _ _ c.self.invariant c.args.no c.args.holder (sym c.get.ensures.value ∙ sym c.in_default.ensures))

pub set-requires : goal.set-requires
set-requires c =
    let n = c.self.invariant.numbered c.args.no c.in-Some.key (sym c.get.ensures.value ∙ sym c.in-Some.ensures) in
    (c.self.invariant.each n.kept.arrival c.in-Some.key n.found).within

pub invariant_of-self : goal.invariant_of-self
invariant_of-self c = rw (c.set.ensures, c.sign-sign.ensures)
    (held _ _ _ _ _ c.self.invariant c.args.no c.in-Some.key c.in-Some-get_mut.kept.now _ (sym c.get.ensures.value ∙ sym c.in-Some.ensures) (sym c.in-Some-get_mut.ensures.value) refl refl)

pub returns-in-Some-get_mut : goal.returns-in-Some-get_mut
returns-in-Some-get_mut c = rw (← c.self.view_is)
    (with_holder_is _ _ _ _ _ c.self.invariant c.args.no c.in-Some.key c.in-Some-get_mut.kept.now _ (sym c.get.ensures.value ∙ sym c.in-Some.ensures) (sym c.in-Some-get_mut.ensures.value) refl)

-- a key of the numbers has its slot
pub returns-in_default-get_mut : goal.returns-in_default-get_mut
returns-in_default-get_mut c = absurd (
    let n = c.self.invariant.numbered c.args.no c.in-Some.key (sym c.get.ensures.value ∙ sym c.in-Some.ensures) in
    let bad = c.in_default-get_mut.ensures.value ∙ n.stands in cc)
