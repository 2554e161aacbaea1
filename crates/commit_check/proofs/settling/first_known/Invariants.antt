use Rattle.std.proofs.Common.{◌+◌, ◌≤◌, take}
use Rattle.insertion_cost.specs.Offers.{IsFirst}
use Rattle.commit_check.specs.Settled.{IsKnown, changed, moved_in}
use Rattle.commit_check.proofs.settling.first_known.Given as goal

abbrev pub invariant-loop-entry : goal.invariant-loop-entry
invariant-loop-entry g l = record {
  first : IsFirst (IsKnown (g.P.Pricer.graph l.pricer) (g.F.FleetView.fleet l.view) l.request l.base (take l.entry-index l.entries)) l.best;
  steps : l.fn.steps.0 ≤ l.steps.0;
  few : l.steps.1 ≤ l.fn.steps.1 + changed (g.F.FleetView.fleet l.view) l.base + moved_in (g.F.FleetView.fleet l.view) l.base
      (take l.entry-index l.entries);
  kept : l.fn.steps.1 ≤ l.steps.1;
}
