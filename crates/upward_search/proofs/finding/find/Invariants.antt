use Rattle.std.proofs.Common.{◌-◌}
use Rattle.upward_search.specs.Places.{IsBetween}
use Rattle.upward_search.proofs.finding.find.Given as goal

abbrev pub invariant-halving : goal.invariant-halving
invariant-halving l = IsBetween l.space l.place l.low l.high

abbrev pub decreases-halving : goal.decreases-halving
decreases-halving l = l.high - l.low
