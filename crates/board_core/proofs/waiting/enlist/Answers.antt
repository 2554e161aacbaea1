use Rattle.std.proofs.Common.{ℕ, List, ◌∙◌, ap, sym}
use Rattle.std.specs.BTreeMap.{is_at}
use Rattle.std.specs.Map.{remove_entry}
use Rattle.std.specs.Ordering.{nat_cmp}
use Rattle.board_core.proofs.Queues.{insert_end, refused, remove_end}
use Rattle.board_core.proofs.waiting.enlist.Goals as goal

pub returns-clause-order : goal.returns-clause-order
returns-clause-order c = c.in_ok-insert.ensures.entries ∙ insert_end c.args.order.now.entries c.args.arrival c.args.key c.requires

pub returns-then-is_err-clause-err : goal.returns-then-is_err-clause-err
returns-then-is_err-clause-err c = (
  c.remove.ensures.entries ∙ ap (λ (es : List (ℕ × ℕ)). remove_entry (is_at (nat_cmp c.args.arrival)) es) (c.in_ok-insert.ensures.entries ∙ insert_end c.args.order.now.entries c.args.arrival c.args.key c.requires)
      ∙ remove_end c.args.order.now.entries c.args.arrival c.args.key c.requires,
  refused c.insert-2.result (sym c.if-is_err.ensures.value) c.insert-2.ensures.err,
)
