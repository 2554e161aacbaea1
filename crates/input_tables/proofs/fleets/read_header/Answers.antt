use Rattle.std.proofs.Common.{sym, ◌∙◌}
use Rattle.csv.specs.Records.{fields_of}
use Rattle.input_tables.proofs.RowOf.{headed, unheaded}
use Rattle.input_tables.proofs.fleets.read_header.Goals as goal

pub returns-in-None-clause-refused : goal.returns-in-None-clause-refused
returns-in-None-clause-refused c = λ _ nodes.
    let (reading, first) = rw c.if-not-branch.false at c.in_ok-next_record.ensures.gives in
    unheaded _ _ (fields_of c.next_record.new.fields) first (sym c.has_spaces.ensures ∙ c.in-None.is) nodes

pub returns-in-Some-clause-header : goal.returns-in-Some-clause-header
returns-in-Some-clause-header c =
    let (reading, first) = rw c.if-not-branch.false at c.in_ok-next_record.ensures.gives in
    headed _ _ (fields_of c.next_record.new.fields) _ first (sym c.has_spaces.ensures ∙ c.in-Some.is)
