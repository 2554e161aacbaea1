use Rattle.std.proofs.Common.{◌≤◌, ◌<◌, ◌+◌, ◌-◌, ℕ, length}
use Rattle.std.specs.Prelude.{slice_index}
use Rattle.stop_schedule.proofs.fronts.front_on.Given as goal

abbrev pub invariant-loop-first : goal.invariant-loop-first
invariant-loop-first l = record {
  order : l.first ≤ l.last;
  within : l.last < length l.leg.nodes;
  before : (j : ℕ) → j < l.first → l.departure + slice_index l.leg.offsets j < l.now;
  late : l.now ≤ l.departure + slice_index l.leg.offsets l.last;
}

abbrev pub decreases-loop-first : goal.decreases-loop-first
decreases-loop-first l = l.last - l.first
