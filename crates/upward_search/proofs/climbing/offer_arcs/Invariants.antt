use Rattle.std.proofs.Common.{◌≡◌, ◌+◌}
use Rattle.upward_search.specs.Rows.{row}
use Rattle.upward_search.specs.Searches.{AreOffered}
use Rattle.upward_search.proofs.climbing.offer_arcs.Given as goal

abbrev pub invariant-loop-arc : goal.invariant-loop-arc
invariant-loop-arc g l = record {
  offered : AreOffered (row l.slopes l.label.place) l.label l.fn.waiting l.waiting l.arc-index;
  steps : l.steps.0 ≡ l.fn.steps.0 + l.arc-index;
  asks : l.steps.1 ≡ l.fn.steps.1;
}
