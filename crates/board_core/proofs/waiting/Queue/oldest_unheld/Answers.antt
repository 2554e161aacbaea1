use Rattle.std.proofs.Common.{sym, ◌∙◌}
use Rattle.board_core.proofs.Queues.{oldest_found, oldest_none}
use Rattle.board_core.proofs.waiting.Queue.oldest_unheld.Goals as goal

pub returns-in_err-key : goal.returns-in_err-key
returns-in_err-key c = rw (c.from_residual.ensures, ← c.self.view_is) (sym (oldest_none _ _ _ _ _ c.self.invariant c.least.result c.least.ensures (sym c.in_err-key.ensures.value)))

-- a key of the order has its slot
pub returns-in_err-kept : goal.returns-in_err-kept
returns-in_err-kept c = absurd (
    let d = c.self.invariant.each c.least.result c.in_ok-key.field-0.now (sym c.in_ok-key.ensures.value) in
    let bad = c.in_err-kept.ensures ∙ d.stands in cc)

pub returns : goal.returns
returns c = rw (← c.self.view_is) (sym (oldest_found _ _ _ _ _ c.self.invariant c.least.result c.least.ensures c.in_ok-key.field-0.now c.in_ok-kept.kept.now (sym c.in_ok-key.ensures.value) (sym c.in_ok-kept.ensures)))
