use Rattle.std.proofs.Common.{◌≡◌}
use Rattle.contraction.specs.Searching.{IsSearch}
use Rattle.contraction.proofs.search.Search.run.Given as goal

abbrev pub invariant-taking : goal.invariant-taking
invariant-taking l = record {
  search : IsSearch l.rows l.self;
  start : l.self.start ≡ l.fn.start;
}
