use Rattle.std.proofs.Common.{ap₂, ◌∙◌, ◌+◌, ℕ, List}
use Rattle.std.specs.Prelude.{slice_range, slice_index}
use Rattle.upward_search.specs.declared.slope.Arc.{Arc}
use Rattle.upward_search.proofs.RowsOf.{row_fits}
use Rattle.upward_search.proofs.slope.Slopes.row.Goals as goal

pub part-requires-clause-next : goal.part-requires-clause-next
part-requires-clause-next c = rw c.as_slice.ensures (row_fits c.self.inside.bounds c.self.inside.arcs c.args.self.now c.args.place c.self.invariant.0 c.self.view_is c.requires).next

pub part-requires-clause-rises : goal.part-requires-clause-rises
part-requires-clause-rises c = rw c.as_slice.ensures (row_fits c.self.inside.bounds c.self.inside.arcs c.args.self.now c.args.place c.self.invariant.0 c.self.view_is c.requires).rises

pub part-requires-clause-inside : goal.part-requires-clause-inside
part-requires-clause-inside c = rw (c.as_slice.ensures, c.as_slice-2.ensures) (row_fits c.self.inside.bounds c.self.inside.arcs c.args.self.now c.args.place c.self.invariant.0 c.self.view_is c.requires).inside

pub returns-clause-row : goal.returns-clause-row
returns-clause-row c =
    c.part.ensures
    ∙ ap₂ (λ (bounds : List ℕ) (arcs : List Arc). slice_range arcs (slice_index bounds c.args.place) (slice_index bounds (c.args.place + 1))) c.as_slice.ensures c.as_slice-2.ensures
    ∙ (row_fits c.self.inside.bounds c.self.inside.arcs c.args.self.now c.args.place c.self.invariant.0 c.self.view_is c.requires).is
