use Rattle.std.proofs.Common.{◌≤◌, length}
use Rattle.road_graph.specs.Graphs.{IsGraph}
use Rattle.road_graph.specs.Roads.{Roads}
use Rattle.insertion_cost.specs.Offers.{IsFirst}
use Rattle.insertion_cost.specs.Searches.{AreSearchesOf}
use Rattle.insertion_cost.proofs.BestPlain.{IsOfferBelow}
use Rattle.insertion_cost.proofs.plain.best_offer.Given as goal

abbrev pub invariant-loop-place : goal.invariant-loop-place
invariant-loop-place g l = record {
  best : (h : Roads) → IsGraph h → AreSearchesOf h l.request l.searches → IsFirst (IsOfferBelow h (g.F.FleetView.fleet l.view) l.request l.place) l.best;
  within : l.place ≤ length (g.F.FleetView.fleet l.view).cars;
}
