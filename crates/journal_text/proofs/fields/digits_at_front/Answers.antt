use Rattle.journal_text.proofs.Numbers.{no_other}
use Rattle.journal_text.proofs.fields.digits_at_front.Goals as goal

pub returns-in-None-clause-count : goal.returns-in-None-clause-count
returns-in-None-clause-count c = no_other c.args.bytes.now c.in-None.ensures
