use Rattle.std.proofs.Common.{ℕ, List, sym, ap, ◌∙◌}
use Rattle.board_core.specs.Queues.{in_order}
use Rattle.board_core.proofs.Queues.{removed, without_is, same_without}
use Rattle.board_core.proofs.waiting.Queue.remove.Goals as goal

pub returns-in_default : goal.returns-in_default
returns-in_default c = rw (← c.self.view_is) (same_without _ _ _ _ _ c.self.invariant c.args.no (sym c.in_default.ensures.value))

pub set-requires : goal.set-requires
set-requires c =
    let n = c.self.invariant.numbered c.args.no c.in-Some.key (sym c.in-Some.ensures.value) in
    (c.self.invariant.each n.kept.arrival c.in-Some.key n.found).within

pub invariant_of-self-in-Some-try_remove : goal.invariant_of-self-in-Some-try_remove
invariant_of-self-in-Some-try_remove c = rw c.set.ensures
    (removed _ _ _ _ _ c.self.invariant c.try_remove.new.self.slots c.remove-in-Some-try_remove.new.self.entries c.remove.new.self.entries c.args.no c.in-Some.key c.in-Some-try_remove.kept
    (sym c.in-Some.ensures.value) (sym c.in-Some-try_remove.ensures.value) c.try_remove.ensures.updates.others c.remove-in-Some-try_remove.ensures.updates.0 c.remove.ensures.updates.0 c.remove-in-Some-try_remove.ensures.ordered)

pub returns-in-Some-try_remove : goal.returns-in-Some-try_remove
returns-in-Some-try_remove c = rw (← c.self.view_is)
    (ap (λ (es : List (ℕ × ℕ)). in_order es c.try_remove.new.self.slots) c.remove-in-Some-try_remove.ensures.entries
    ∙ without_is _ _ _ _ _ c.self.invariant c.try_remove.new.self.slots c.args.no c.in-Some.key c.in-Some-try_remove.kept (sym c.in-Some.ensures.value) (sym c.in-Some-try_remove.ensures.value) c.try_remove.ensures.updates.others)

-- a key of the numbers has its slot
pub invariant_of-self-in_default-try_remove : goal.invariant_of-self-in_default-try_remove
invariant_of-self-in_default-try_remove c = absurd (
    let n = c.self.invariant.numbered c.args.no c.in-Some.key (sym c.in-Some.ensures.value) in
    let bad = c.in_default-try_remove.ensures.value ∙ n.stands in cc)

pub returns-in_default-try_remove : goal.returns-in_default-try_remove
returns-in_default-try_remove c = absurd (
    let n = c.self.invariant.numbered c.args.no c.in-Some.key (sym c.in-Some.ensures.value) in
    let bad = c.in_default-try_remove.ensures.value ∙ n.stands in cc)
