use Rattle.std.proofs.Common.{arith, ap, length}
use Rattle.upward_search.proofs.RowsOf.{length-rows_of}
use Rattle.upward_search.proofs.slope.Slopes.places.Goals as goal

pub overflow_cast-result : goal.overflow_cast-result
overflow_cast-result c =
    let many = length-rows_of c.self.inside.bounds c.self.inside.arcs c.self.invariant.0.some in
    let few = c.self.invariant.1.few in
    let len = c.len.ensures in
    omega arith

pub returns-clause-places : goal.returns-clause-places
returns-clause-places c =
    let many = length-rows_of c.self.inside.bounds c.self.inside.arcs c.self.invariant.0.some in
    let same = ap length c.self.view_is in
    let len = c.len.ensures in
    omega arith
