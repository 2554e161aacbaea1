use Rattle.std.proofs.Common.{◌+◌, ◌≤◌, length}
use Rattle.insertion_cost.specs.NodeWays.{AreWaysTo}
use Rattle.base_cases.proofs.reckonings.ways_along.Given as goal

abbrev pub invariant-loop-k : goal.invariant-loop-k
invariant-loop-k l = record {
  within : l.k ≤ length l.schedule.stops + 1;
  ways : AreWaysTo l.graph l.request l.front l.schedule.stops l.k l.ways.items;
}
