use Rattle.std.proofs.Common.{◌≤◌, length}
use Rattle.insertion_cost.specs.Pricers.{AreEntriesTo}
use Rattle.insertion_cost.proofs.plain.PlainPricerPricer.price.Given as goal

abbrev pub invariant-loop-place : goal.invariant-loop-place
invariant-loop-place g l = record {
  entries : AreEntriesTo l.self.graph.now (g.F.FleetView.fleet l.view) l.request l.place l.entries;
  within : l.place ≤ length (g.F.FleetView.fleet l.view).cars;
}
