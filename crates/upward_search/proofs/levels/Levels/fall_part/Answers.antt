use Rattle.upward_search.proofs.IsUnpacking.{fall_part_is}
use Rattle.upward_search.proofs.levels.Levels.fall_part.Goals as goal

pub returns-clause-part : goal.returns-clause-part
returns-clause-part c = fall_part_is c.args.self.now c.args.from c.args.to c.row.result.now c.least_arc-arc.result c.row.ensures.row c.least_arc-arc.ensures
