use Rattle.std.proofs.Common.{◌≡◌, ◌≤◌, ◌*◌, ◌+◌, ◌∷◌, drop, Some}
use Rattle.road_graph.specs.Reads.{read_along}
use Rattle.road_graph.specs.Walks.{both, walk_length}
use Rattle.road_graph.proofs.AreOffsets.{OffsetOf}
use Rattle.road_graph.proofs.walk.offsets_of.Given as goal

abbrev pub invariant-loop-next : goal.invariant-loop-next
invariant-loop-next g l = record {
  whole : both (Some l.length) (walk_length l.graph (l.here ∷ drop l.next-index l.rest)) ≡ walk_length l.graph l.nodes;
  small : l.length ≤ l.next-index * 4294967295;
  steps : l.steps.0 + read_along l.graph (l.here ∷ drop l.next-index l.rest) ≡ l.fn.steps.0 + read_along l.graph l.nodes;
  least : l.fn.steps.0 ≤ l.steps.0;
  asks : l.steps.1 ≡ l.fn.steps.1;
  offset : OffsetOf l.graph l.nodes l.rest l.next-index l.here l.length l.offsets;
}
