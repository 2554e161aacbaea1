use Rattle.std.proofs.Common.{◌+◌, ◌≤◌}
use Rattle.insertion_cost.specs.Offers.{IsFirst}
use Rattle.commit_check.specs.Settled.{changed_below}
use Rattle.commit_check.proofs.Known.{IsKnownBelow}
use Rattle.commit_check.proofs.Places.{past}
use Rattle.commit_check.proofs.settling.first_changed.Given as goal

abbrev pub invariant-loop-place : goal.invariant-loop-place
invariant-loop-place g l = record {
  first : IsFirst (IsKnownBelow (g.P.Pricer.graph l.pricer) (g.F.FleetView.fleet l.view) l.request l.base (past l.places l.place-index)) l.best;
  steps : l.fn.steps.0 ≤ l.steps.0;
  few : l.steps.1 ≤ l.fn.steps.1 + changed_below (g.F.FleetView.fleet l.view) l.base (past l.places l.place-index);
  kept : l.fn.steps.1 ≤ l.steps.1;
}
