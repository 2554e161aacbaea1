use Rattle.std.proofs.Common.{◌≤◌, length}
use Rattle.commit_check.proofs.Places.{AreUpTo}
use Rattle.commit_check.proofs.settling.changed_places.Given as goal

abbrev pub invariant-loop-place : goal.invariant-loop-place
invariant-loop-place g l = record {
  up_to : AreUpTo (g.F.FleetView.fleet l.view) l.base l.place l.places.items;
  within : l.place ≤ length (g.F.FleetView.fleet l.view).cars;
}
