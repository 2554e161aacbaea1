use Rattle.std.proofs.Common.{◌≡◌, Ok, map, sym}
use Rattle.csv.specs.Records.{fields_of}
use Rattle.input_tables.specs.Fleets.{vehicle_in, row_fields, without_blanks}
use Rattle.input_tables.proofs.RowsSoFar.{row_more, given}
use Rattle.input_tables.proofs.fleets.read_rows.Goals as goal

pub loop-vehicles-preserved : goal.loop-vehicles-preserved
loop-vehicles-preserved c =
    let so_far = c.loop-vehicles.invariant.rows in
    let (reading, first) = rw c.if-branch.true at c.in_ok-next_record.ensures.gives in
    let ok : Ok c.in_ok-vehicle.vehicle ≡ vehicle_in c.args.nodes c.loop-vehicles.row so_far.before (row_fields c.args.spaces (map without_blanks (fields_of c.next_record.new.fields))) = c.in_ok-vehicle.ensures.vehicle so_far.before so_far.keeps in
    let is_new = (given _ _ so_far.before (row_fields c.args.spaces (map without_blanks (fields_of c.next_record.new.fields))) c.in_ok-vehicle.vehicle (sym ok)).new in
    record {
      reading = reading;
      rows = row_more _ _ _ _ _ _ _ _ (fields_of c.next_record.new.fields) c.in_ok-vehicle.vehicle so_far first ok (c.in_ok-put.ensures so_far.before so_far.keeps is_new);
    }
