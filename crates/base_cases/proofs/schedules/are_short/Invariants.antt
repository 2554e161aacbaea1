use Rattle.std.proofs.Common.{◌≡◌, ℕ, ◌<◌, ◌^◌, slice_get, Some}
use Rattle.road_graph.specs.Paths.{Path, length_of}
use Rattle.base_cases.proofs.schedules.are_short.Given as goal

abbrev pub invariant-loop-walk : goal.invariant-loop-walk
invariant-loop-walk l = (k : ℕ) → k < l.walk-index → (w : Path) → slice_get l.walks k ≡ Some w → length_of w < 2 ^ 53
