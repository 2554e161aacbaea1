use Rattle.std.proofs.Common.{◌≡◌, ◌+◌}
use Rattle.plain_search.specs.Searching.{faced, IsSearchOf, AreOffered, IsSameSearch}
use Rattle.plain_search.proofs.search.Search.offer_roads.Given as goal

abbrev pub invariant-loop-index : goal.invariant-loop-index
invariant-loop-index g l = record {
  same : IsSameSearch l.fn.self l.self;
  reached : l.self.reached ≡ l.fn.self.reached;
  search : IsSearchOf (faced l.fn.self.way l.graph) l.self;
  offered : AreOffered (faced l.fn.self.way l.graph) l.self.radius l.self.reached l.self.marks l.self.waiting l.index;
  steps : l.steps.0 ≡ l.fn.steps.0 + l.index;
  asks : l.steps.1 ≡ l.fn.steps.1;
}
