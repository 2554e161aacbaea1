use Rattle.std.proofs.Common.{◌≡◌, length}
use Rattle.plain_search.specs.Searching.{faced, IsSearchOf, AllOfferedIn, IsSameSearch}
use Rattle.plain_search.proofs.search.Search.settle_nearest.Given as goal

abbrev pub invariant-loop-nearest : goal.invariant-loop-nearest
invariant-loop-nearest g l = record {
  same : IsSameSearch l.fn.self l.self;
  reached : l.self.reached ≡ l.fn.self.reached;
  search : IsSearchOf (faced l.fn.self.way l.graph) l.self;
  offered : AllOfferedIn (faced l.fn.self.way l.graph) l.self;
  steps : l.steps ≡ l.fn.steps;
}

abbrev pub decreases-loop-nearest : goal.decreases-loop-nearest
decreases-loop-nearest g l = length l.self.waiting
