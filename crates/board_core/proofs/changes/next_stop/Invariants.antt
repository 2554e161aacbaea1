use Rattle.std.proofs.Common.{ℕ, ◌<◌}
use Rattle.board_core.specs.Changes.{IsNextStop}
use Rattle.board_core.proofs.changes.next_stop.Given as goal

abbrev pub invariant-loop-k : goal.invariant-loop-k
invariant-loop-k l = (at : ℕ) → IsNextStop l.stops l.kind l.no l.from at → l.k < at
