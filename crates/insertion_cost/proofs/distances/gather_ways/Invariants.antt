use Rattle.std.proofs.Common.{◌≡◌, ◌+◌}
use Rattle.insertion_cost.specs.NodeWays.{AreWaysTo}
use Rattle.insertion_cost.proofs.distances.gather_ways.Given as goal

abbrev pub invariant-loop-stop : goal.invariant-loop-stop
invariant-loop-stop g l = record {
  kept : g.D.Distances.graph l.distances ≡ g.D.Distances.graph l.fn.distances;
  ways : AreWaysTo (g.D.Distances.graph l.fn.distances) l.request l.front l.stops (l.stop-index + 1) l.ways.items;
}
