use Rattle.std.proofs.Common.{◌≡◌, ◌≤◌}
use Rattle.contraction.specs.Starting.{AreInto}
use Rattle.contraction.proofs.start.roads_into.Given as goal

abbrev pub invariant-loop-index : goal.invariant-loop-index
invariant-loop-index g l = record {
  found : AreInto l.graph l.node l.index l.fn.found l.found;
  asks : l.steps.1 ≡ l.fn.steps.1;
  steps : l.fn.steps.0 ≤ l.steps.0;
}
