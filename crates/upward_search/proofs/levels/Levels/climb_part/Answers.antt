use Rattle.upward_search.proofs.IsUnpacking.{climb_part_is}
use Rattle.upward_search.proofs.levels.Levels.climb_part.Goals as goal

pub returns-clause-part : goal.returns-clause-part
returns-clause-part c = climb_part_is c.args.self.now c.args.from c.args.to c.row.result.now c.least_arc-arc.result c.row.ensures.row c.least_arc-arc.ensures
