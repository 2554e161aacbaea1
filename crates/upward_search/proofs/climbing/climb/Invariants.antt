use Rattle.std.proofs.Common.{◌≡◌, ◌+◌, ◌-◌, length}
use Rattle.upward_search.specs.Climbs.{work}
use Rattle.upward_search.specs.Searches.{IsSearch}
use Rattle.upward_search.proofs.climbing.climb.Given as goal

abbrev pub invariant-climbing : goal.invariant-climbing
invariant-climbing g l = record {
  search : IsSearch l.slopes l.start l.floor l.space l.waiting;
  steps : l.steps.0 ≡ l.fn.steps.0 + work l.slopes l.space;
  asks : l.steps.1 ≡ l.fn.steps.1;
}

abbrev pub decreases-climbing : goal.decreases-climbing
decreases-climbing g l = length l.slopes - l.floor
