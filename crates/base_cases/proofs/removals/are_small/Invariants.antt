use Rattle.std.proofs.Common.{◌≡◌, ℕ, ◌<◌, slice_get, Some}
use Rattle.stop_schedule.specs.Bounds.{IsSmallStop}
use Rattle.stop_schedule.specs.declared.stop.Stop.{Stop}
use Rattle.base_cases.proofs.removals.are_small.Given as goal

abbrev pub invariant-loop-stop : goal.invariant-loop-stop
invariant-loop-stop l = (k : ℕ) → k < l.stop-index → (s : Stop) → slice_get l.stops k ≡ Some s → IsSmallStop s
