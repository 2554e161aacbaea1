use Rattle.std.proofs.Common.{◌≡◌}
use Rattle.upward_search.specs.Ladders.{faced}
use Rattle.upward_search.specs.Rests.{AreRests}
use Rattle.upward_search.proofs.levels.Levels.rests.Given as goal

abbrev pub invariant-loop-index : goal.invariant-loop-index
invariant-loop-index g l = record {
  rests : AreRests (faced l.way l.self) l.to l.space l.rests.items l.index;
  asks : l.steps.1 ≡ l.fn.steps.1;
}
