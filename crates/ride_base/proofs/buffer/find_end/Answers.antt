use Rattle.std.proofs.Common.{arith, ◌∙◌}
use Rattle.ride_base.specs.Pieces.{is_line_end}
use Rattle.ride_base.proofs.Positions.{first_within, finds_behind, finds_none_behind}
use Rattle.ride_base.proofs.buffer.find_end.Goals as goal

pub slice_bounds-first_end-count : goal.slice_bounds-first_end-count
slice_bounds-first_end-count c = omega (arith, first_within is_line_end c.args.bytes.now)

pub slice_bounds-first_end-start : goal.slice_bounds-first_end-start
slice_bounds-first_end-start c = omega (arith, first_within is_line_end c.args.bytes.now)

pub returns-in_err-found : goal.returns-in_err-found
returns-in_err-found c = c.from_residual.ensures ∙ finds_none_behind is_line_end c.args.bytes.now c.args.searched c.requires c.in_err-found.ensures

pub returns : goal.returns
returns c = finds_behind is_line_end c.args.bytes.now c.args.searched c.in_ok-found.found c.requires c.in_ok-found.ensures
