use Rattle.board_core.proofs.law.boards_stay_good.Goals as goal
use Rattle.board_core.proofs.HistoryLaws.{opening_good, entry_good, history_good}

pub returns : goal.returns
returns c = record { opening = opening_good; entry = entry_good; entries = history_good }
