use Rattle.std.proofs.Common.{◌≡◌}
use Rattle.contraction.specs.Searching.{IsSearch}
use Rattle.contraction.proofs.search.Search.spread.Given as goal

abbrev pub invariant-loop-arc : goal.invariant-loop-arc
invariant-loop-arc l = record {
  search : IsSearch l.rows l.self;
  start : l.self.start ≡ l.fn.self.start;
}
