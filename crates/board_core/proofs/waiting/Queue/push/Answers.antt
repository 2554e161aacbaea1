use Rattle.std.proofs.Common.{◌≡◌, ℕ, List, sym, refl, ap, ◌∙◌, arith}
use Rattle.slab.specs.Slab.{Slab}
use Rattle.board_core.specs.Queues.{Kept, kept_at, in_order}
use Rattle.board_core.proofs.Queues.{lengthened, no_key, no_number, more_is, pushed}
use Rattle.board_core.proofs.waiting.Queue.push.Goals as goal

pub enlist-requires : goal.enlist-requires
enlist-requires c = no_key _ _ _ _ _ c.self.invariant

pub invariant_of-self-in_err-reserve-2 : goal.invariant_of-self-in_err-reserve-2
invariant_of-self-in_err-reserve-2 c = rw (ap (λ (s : Slab Kept). s.slots) c.reserve-2.ensures.rest_kept) (lengthened _ _ _ _ _ c.self.invariant _ c.in_ok-reserve.ensures.ok)

pub invariant_of-self-in_err-enlist : goal.invariant_of-self-in_err-enlist
invariant_of-self-in_err-enlist c = rw (ap (λ (s : Slab Kept). s.slots) c.reserve-2.ensures.rest_kept, c.in_err-enlist.ensures.err.0, c.in_err-enlist.ensures.err.1)
    (lengthened _ _ _ _ _ c.self.invariant _ c.in_ok-reserve.ensures.ok)

pub invariant_of-self-2 : goal.invariant_of-self-2
invariant_of-self-2 c =
    let e : c.insert_reserved.result ≡ c.vacant_key-key.result = c.insert_reserved.ensures.key ∙ ap (λ (s : Slab Kept). s.vacant_key) c.reserve-2.ensures.rest_kept ∙ sym c.vacant_key-key.ensures.value in
    let waits = rw (← c.self.view_is) at c.requires in
    rw (c.set.ensures, c.sign.ensures) (pushed _ _ _ _ _ c.self.invariant c.insert_reserved.new.self.slots c.enlist.new.order.entries c.enlist.new.numbers.entries c.reserve.new.self c.vacant_key-key.result _
    refl (omega (arith, c.if-arrival.false, c.self.invariant.few)) (no_number _ _ _ _ _ c.self.invariant c.args.waiting.request.no waits)
    c.vacant_key-key.ensures.vacant
    (ap (kept_at c.insert_reserved.new.self.slots) (sym e) ∙ c.insert_reserved.ensures.updates.changed)
    (λ other apart. c.insert_reserved.ensures.updates.others other (λ o. apart (o ∙ e)) ∙ ap (λ (s : Slab Kept). kept_at s.slots other) c.reserve-2.ensures.rest_kept)
    c.in_ok-enlist.ensures.arrivals.0 c.in_ok-enlist.ensures.numbers.0 c.in_ok-enlist.ensures.rising c.in_ok-reserve.ensures.ok c.in_ok-reserve.ensures.room)

pub returns-clause-ok : goal.returns-clause-ok
returns-clause-ok c =
    let e : c.insert_reserved.result ≡ c.vacant_key-key.result = c.insert_reserved.ensures.key ∙ ap (λ (s : Slab Kept). s.vacant_key) c.reserve-2.ensures.rest_kept ∙ sym c.vacant_key-key.ensures.value in
    rw (← c.self.view_is) (ap (λ (es : List (ℕ × ℕ)). in_order es c.insert_reserved.new.self.slots) c.in_ok-enlist.ensures.order
    ∙ more_is _ _ _ _ _ c.self.invariant c.insert_reserved.new.self.slots c.vacant_key-key.result _ c.vacant_key-key.ensures.vacant
    (ap (kept_at c.insert_reserved.new.self.slots) (sym e) ∙ c.insert_reserved.ensures.updates.changed)
    (λ other apart. c.insert_reserved.ensures.updates.others other (λ o. apart (o ∙ e)) ∙ ap (λ (s : Slab Kept). kept_at s.slots other) c.reserve-2.ensures.rest_kept))
