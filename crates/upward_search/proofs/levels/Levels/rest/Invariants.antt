use Rattle.std.proofs.Common.{◌≡◌}
use Rattle.upward_search.specs.Ladders.{faced}
use Rattle.upward_search.specs.Rests.{IsLeastBelow}
use Rattle.upward_search.proofs.levels.Levels.rest.Given as goal

abbrev pub invariant-loop-arc : goal.invariant-loop-arc
invariant-loop-arc g l = record {
  least : IsLeastBelow (faced l.way l.self) l.place l.to l.arc-index l.least;
  asks : l.steps.1 ≡ l.fn.steps.1;
}
