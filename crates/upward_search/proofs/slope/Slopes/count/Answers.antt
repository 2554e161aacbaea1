use Rattle.std.proofs.Common.{ap, sym, ◌∙◌, length}
use Rattle.upward_search.specs.Rows.{count_rows}
use Rattle.upward_search.proofs.RowsOf.{count-rows_of}
use Rattle.upward_search.proofs.slope.Slopes.count.Goals as goal

pub returns-clause-count : goal.returns-clause-count
returns-clause-count c = ap length c.as_slice.ensures ∙ sym (count-rows_of c.self.inside.bounds c.self.inside.arcs c.self.invariant.0) ∙ ap count_rows c.self.view_is
