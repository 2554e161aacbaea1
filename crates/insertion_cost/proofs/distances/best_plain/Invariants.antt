use Rattle.std.proofs.Common.{◌≡◌, ◌≤◌, length}
use Rattle.insertion_cost.specs.Offers.{IsFirst}
use Rattle.insertion_cost.proofs.BestPlain.{IsOfferBelow}
use Rattle.insertion_cost.proofs.distances.best_plain.Given as goal

abbrev pub invariant-loop-place : goal.invariant-loop-place
invariant-loop-place g l = record {
  kept : g.D.Distances.graph l.distances ≡ g.D.Distances.graph l.fn.distances;
  best : IsFirst (IsOfferBelow (g.D.Distances.graph l.fn.distances) (g.F.FleetView.fleet l.view) l.request l.place) l.best;
  within : l.place ≤ length (g.F.FleetView.fleet l.view).cars;
}
