use Rattle.std.proofs.Common.{◌≡◌, ℕ, ◌+◌, ◌≤◌, length, set}
use Rattle.std.specs.Prelude.{vec_capacity}
use Rattle.turn_lock.specs.Desks.{fresh, fresh_desks}
use Rattle.turn_lock.specs.Steps.{IsFirst}
use Rattle.turn_lock.proofs.making.deal.Given as goal

abbrev pub invariant-loop : goal.invariant-loop
invariant-loop g l = ((d : ℕ) × (d + 1 ≡ l.counter) × IsFirst l.lock d l.chair) × (set l.row.items 0 (fresh l.lock 0) ≡ fresh_desks l.lock l.counter)
    × (length l.row.items ≡ l.counter) × (l.desks ≤ vec_capacity l.row)
