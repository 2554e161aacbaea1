use Rattle.std.proofs.Common.{◌≡◌, ◌+◌, drop}
use Rattle.road_graph.specs.Roads.{lighter_of}
use Rattle.road_graph.specs.Listing.{least_in}
use Rattle.road_graph.proofs.graph.least_to.Given as goal

abbrev pub invariant-loop-end : goal.invariant-loop-end
invariant-loop-end g l = record {
  weight : lighter_of l.least (least_in (drop l.end-index l.row) l.to) ≡ least_in l.row l.to;
  steps : l.steps.0 ≡ l.fn.steps.0 + l.end-index;
  asks : l.steps.1 ≡ l.fn.steps.1;
}
