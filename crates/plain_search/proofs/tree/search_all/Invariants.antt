use Rattle.std.proofs.Common.{◌≡◌, ◌+◌, ◌-◌, length}
use Rattle.plain_search.specs.Searching.{faced, IsSearchOf, AllOfferedIn, listed_roads}
use Rattle.plain_search.proofs.tree.search_all.Given as goal

abbrev pub invariant-settling : goal.invariant-settling
invariant-settling g l = record {
  way : l.search.way ≡ l.fn.way;
  start : l.search.start ≡ l.fn.start;
  radius : l.search.radius ≡ l.fn.radius;
  search : IsSearchOf (faced l.search.way l.graph) l.search;
  offered : AllOfferedIn (faced l.search.way l.graph) l.search;
  steps : l.steps.0 ≡ l.fn.steps.0 + listed_roads l.fn.way l.graph l.search;
  asks : l.steps.1 ≡ l.fn.steps.1;
}

abbrev pub decreases-settling : goal.decreases-settling
decreases-settling g l = l.graph.nodes + 2 - length l.search.reached
