use Rattle.upward_search.specs.Lines.{LacksBetween}
use Rattle.upward_search.proofs.line.place_from.Given as goal

abbrev pub invariant-loop-index : goal.invariant-loop-index
invariant-loop-index l = LacksBetween l.roads l.from l.index l.place
