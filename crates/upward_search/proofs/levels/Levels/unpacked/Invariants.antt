use Rattle.upward_search.specs.Parts.{parts_length}
use Rattle.upward_search.specs.Stacks.{IsOnWay}
use Rattle.upward_search.proofs.IsUnpacking.{weights}
use Rattle.upward_search.proofs.levels.Levels.unpacked.Given as goal

abbrev pub invariant-unpacking : goal.invariant-unpacking
invariant-unpacking l = IsOnWay l.self l.from l.to (parts_length l.fn.parts.items) l.line.roads.items l.line.run l.parts.items

abbrev pub decreases-unpacking : goal.decreases-unpacking
decreases-unpacking l = weights l.parts.items
