use Rattle.input_tables.specs.Records.{records_left}
use Rattle.input_tables.proofs.AreVehicles.{whole_table, whole_vehicles}
use Rattle.input_tables.proofs.fleets.read_table.Goals as goal

pub returns-clause-fleet : goal.returns-clause-fleet
returns-clause-fleet c =
    whole_table c.in_ok-spaces.spaces c.args.nodes (records_left c.args.reader.now) (records_left c.read_header.new.reader) c.in_ok-vehicles.vehicles c.in_ok-by_number.field-0 c.in_ok-spaces.ensures.header c.in_ok-vehicles.ensures.rows c.in_ok-by_number.ensures

pub returns-clause-vehicles : goal.returns-clause-vehicles
returns-clause-vehicles c = whole_vehicles c.in_ok-spaces.spaces c.args.nodes (records_left c.read_header.new.reader) c.in_ok-vehicles.vehicles c.in_ok-by_number.field-0 c.in_ok-vehicles.ensures.rows c.in_ok-by_number.ensures
