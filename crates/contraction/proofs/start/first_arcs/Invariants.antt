use Rattle.std.proofs.Common.{◌≡◌, ◌≤◌}
use Rattle.contraction.specs.Starting.{AreFirst}
use Rattle.contraction.proofs.start.first_arcs.Given as goal

abbrev pub invariant-loop-number : goal.invariant-loop-number
invariant-loop-number g l = record {
  found : AreFirst l.graph l.number l.found;
  asks : l.steps.1 ≡ l.fn.steps.1;
  steps : l.fn.steps.0 ≤ l.steps.0;
}
