use Rattle.std.proofs.Common.{drop}
use Rattle.upward_search.specs.Stacks.{AreClimbing}
use Rattle.upward_search.proofs.walking.stacked.Given as goal

abbrev pub invariant-loop-rung : goal.invariant-loop-rung
invariant-loop-rung l = AreClimbing l.up l.fn.down.items (drop l.rung-index l.up) l.parts.items
