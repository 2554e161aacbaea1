use Rattle.std.proofs.Common.{◌≡◌, ◌+◌, ◌-◌, ◌≤◌, length}
use Rattle.plain_search.specs.Searching.{faced, IsSearchOf, AllOfferedIn, IsSameSearch, listed_roads}
use Rattle.plain_search.proofs.search.Search.settle_until.Given as goal

abbrev pub invariant-settling : goal.invariant-settling
invariant-settling g l = record {
  same : IsSameSearch l.fn.self l.self;
  search : IsSearchOf (faced l.fn.self.way l.graph) l.self;
  offered : AllOfferedIn (faced l.fn.self.way l.graph) l.self;
  steps : l.steps.0 + listed_roads l.fn.self.way l.graph l.fn.self ≡ l.fn.steps.0 + listed_roads l.fn.self.way l.graph l.self;
  least : l.fn.steps.0 ≤ l.steps.0;
  asks : l.steps.1 ≡ l.fn.steps.1;
}

abbrev pub decreases-settling : goal.decreases-settling
decreases-settling g l = l.graph.nodes + 2 - length l.self.reached
