use Rattle.stop_removal.proofs.RemovalLaws.{removals_keep_promises}
use Rattle.board_core.proofs.LaterFleets.{entries_keep, histories_keep, settled_later}
use Rattle.board_core.proofs.candidates.candidates_stay_sound.Goals as goal

pub returns : goal.returns
returns c = record { entries = entries_keep; histories = histories_keep removals_keep_promises; settled = settled_later removals_keep_promises }
