use Rattle.std.proofs.Common.{take}
use Rattle.insertion_cost.specs.Candidates.{IsListed}
use Rattle.insertion_cost.specs.Offers.{IsFirst}
use Rattle.insertion_cost.proofs.candidates.best_listed.Given as goal

abbrev pub invariant-loop-entry : goal.invariant-loop-entry
invariant-loop-entry l = IsFirst (IsListed (take l.entry-index l.entries)) l.best
