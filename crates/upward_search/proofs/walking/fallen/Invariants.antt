use Rattle.std.proofs.Common.{length}
use Rattle.upward_search.specs.Stacks.{AreFalling}
use Rattle.upward_search.proofs.walking.fallen.Given as goal

abbrev pub invariant-falling : goal.invariant-falling
invariant-falling l = AreFalling l.fn.down.items l.down.items l.parts.items

abbrev pub decreases-falling : goal.decreases-falling
decreases-falling l = length l.down.items
