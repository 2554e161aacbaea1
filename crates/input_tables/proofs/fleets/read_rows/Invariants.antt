use Rattle.std.proofs.Common.{length}
use Rattle.input_tables.specs.Records.{IsReading, records_left}
use Rattle.input_tables.proofs.RowsSoFar.{RowsSoFar}
use Rattle.input_tables.proofs.fleets.read_rows.Given as goal

abbrev pub invariant-loop-vehicles : goal.invariant-loop-vehicles
invariant-loop-vehicles l = record {
  reading : IsReading l.reader;
  rows : RowsSoFar l.spaces l.nodes l.row l.vehicles (records_left l.reader) (records_left l.fn.reader);
}

abbrev pub decreases-loop-vehicles : goal.decreases-loop-vehicles
decreases-loop-vehicles l = length (records_left l.reader)
