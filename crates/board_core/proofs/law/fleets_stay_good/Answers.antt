use Rattle.board_core.proofs.law.fleets_stay_good.Goals as goal
use Rattle.board_core.proofs.HistoryLaws.{good_fleets}

pub returns : goal.returns
returns c = good_fleets
