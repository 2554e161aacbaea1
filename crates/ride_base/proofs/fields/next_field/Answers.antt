use Rattle.std.proofs.Common.{sym}
use Rattle.ride_base.proofs.FieldsOf.{cut_field, some_bytes, no_fields}
use Rattle.ride_base.proofs.fields.next_field.Goals as goal

pub returns-in_err-start-clause-field : goal.returns-in_err-start-clause-field
returns-in_err-start-clause-field c = rw c.from_residual.ensures (no_fields c.args.line.now (sym c.in_err-start.ensures.place))

pub returns-clause-field : goal.returns-clause-field
returns-clause-field c = cut_field c.args.line.now c.in_ok-start.start c.field_end-end.result (sym c.in_ok-start.ensures.place) c.field_end-end.ensures.place

pub returns-clause-some : goal.returns-clause-some
returns-clause-some c = some_bytes c.args.line.now c.in_ok-start.start c.field_end-end.result (sym c.in_ok-start.ensures.place) c.field_end-end.ensures.place
