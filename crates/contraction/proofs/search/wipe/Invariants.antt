use Rattle.std.proofs.Common.{◌≡◌, ℕ, ◌<◌, get_or}
use Rattle.contraction.proofs.search.wipe.Given as goal

abbrev pub invariant-loop-mark : goal.invariant-loop-mark
invariant-loop-mark l = (k : ℕ) → k < l.mark-index → (get_or l.marks k (record { stamp = 0; length = 0 })).stamp ≡ 0
