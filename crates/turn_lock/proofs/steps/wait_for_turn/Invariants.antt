use Rattle.std.proofs.Common.{◌≡◌}
use Rattle.turn_lock.proofs.steps.wait_for_turn.Given as goal

abbrev pub invariant-loop : goal.invariant-loop
invariant-loop g l =
    (goal.iterator-loop g).can_next l.iterator' × (goal.iterator-loop g).is_finite l.iterator' × (l.chair.table_id ≡ l.fn.chair.table_id) × (l.chair.me ≡ l.fn.chair.me)
