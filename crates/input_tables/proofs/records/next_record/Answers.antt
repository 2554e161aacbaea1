use Rattle.csv.specs.Records.{fields_of}
use Rattle.input_tables.proofs.Gives.{read_gives}
use Rattle.input_tables.proofs.records.next_record.Goals as goal

pub returns-in-Ok-clause-gives : goal.returns-in-Ok-clause-gives
returns-in-Ok-clause-gives c =
    read_gives c.args.reader.now c.read_byte_record.new.self c.in-Ok.found (fields_of c.read_byte_record.new.row) c.requires (c.in-Ok.ensures.reads c.requires.untrimmed c.requires.ready) (c.in-Ok.ensures.ready c.requires.untrimmed)
    c.in-Ok.ensures.flexible
