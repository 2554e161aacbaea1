use Rattle.std.proofs.Common.{sym, ◌∙◌}
use Rattle.board_core.proofs.Queues.{found, not_found}
use Rattle.board_core.proofs.waiting.Queue.find.Goals as goal

pub returns-in_err-key : goal.returns-in_err-key
returns-in_err-key c = rw (c.from_residual.ensures, ← c.self.view_is) (sym (not_found _ _ _ _ _ c.self.invariant c.args.no (sym c.in_err-key.ensures.value)))

-- a key of the numbers has its slot
pub returns-in_err-kept : goal.returns-in_err-kept
returns-in_err-kept c = absurd (
    let n = c.self.invariant.numbered c.args.no c.in_ok-key.field-0.now (sym c.in_ok-key.ensures.value) in
    let bad = c.in_err-kept.ensures ∙ n.stands in cc)

pub returns : goal.returns
returns c = rw (← c.self.view_is) (sym (found _ _ _ _ _ c.self.invariant c.args.no c.in_ok-key.field-0.now c.in_ok-kept.kept.now (sym c.in_ok-key.ensures.value) (sym c.in_ok-kept.ensures)))
