use Rattle.journal_text.proofs.law.printed_entries_are_in_form.Goals as goal
use Rattle.journal_text.proofs.PrintedEntries.{printed_in_form}

pub returns : goal.returns
returns c = printed_in_form
