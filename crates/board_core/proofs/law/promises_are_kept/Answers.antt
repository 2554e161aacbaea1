use Rattle.board_core.proofs.law.promises_are_kept.Goals as goal
use Rattle.board_core.proofs.HistoryLaws.{promises_kept, promises_done}

pub returns : goal.returns
returns c = record { kept = promises_kept; done = promises_done }
