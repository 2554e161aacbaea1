use Rattle.std.proofs.Common.{◌≡◌, ◌≤◌, ◌*◌, ◌+◌, ◌∷◌, drop, Some}
use Rattle.road_graph.specs.Reads.{read_along}
use Rattle.road_graph.specs.Walks.{both, walk_length}
use Rattle.road_graph.proofs.graph.Graph.walk_length.Given as goal

abbrev pub invariant-loop-next : goal.invariant-loop-next
invariant-loop-next g l = record {
  length : both (Some l.length) (walk_length l.self (l.here ∷ drop l.next-index l.rest)) ≡ walk_length l.self l.nodes;
  small : l.length ≤ l.next-index * 4294967295;
  steps : l.steps.0 + read_along l.self (l.here ∷ drop l.next-index l.rest) ≡ l.fn.steps.0 + read_along l.self l.nodes;
  asks : l.steps.1 ≡ l.fn.steps.1;
}
