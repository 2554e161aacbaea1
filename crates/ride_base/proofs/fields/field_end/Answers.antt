use Rattle.ride_base.proofs.FieldsOf.{ends_at_length}
use Rattle.ride_base.proofs.fields.field_end.Goals as goal

pub returns-in-None-clause-place : goal.returns-in-None-clause-place
returns-in-None-clause-place c = ends_at_length c.args.bytes.now c.in-None.ensures
