use Rattle.std.proofs.Common.{◌-◌, ◌≤◌, length}
use Rattle.fleet_board.proofs.Gathered.{IsBetween}
use Rattle.fleet_board.proofs.named.place_of.Given as goal

abbrev pub invariant-loop-low : goal.invariant-loop-low
invariant-loop-low g l = record {
  between : IsBetween (g.F.FleetView.fleet l.view) l.no l.low l.high;
  within : l.high ≤ length (g.F.FleetView.fleet l.view).cars;
}

abbrev pub decreases-loop-low : goal.decreases-loop-low
decreases-loop-low g l = l.high - l.low
