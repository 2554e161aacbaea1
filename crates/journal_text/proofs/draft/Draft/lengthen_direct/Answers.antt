use Rattle.journal_text.proofs.LastItems.{takes_direct}
use Rattle.journal_text.proofs.draft.Draft.lengthen_direct.Goals as goal

pub returns-in-Walk-clause-ok : goal.returns-in-Walk-clause-ok
returns-in-Walk-clause-ok c = takes_direct _ _ _ _ _ c.in-Walk.is c.lengthen_by_line.ensures.ok
