use Rattle.board_core.proofs.Claims.{closed_shut}
use Rattle.board_core.proofs.LegalHistories.{legal_unique}
use Rattle.board_core.proofs.Numbers.{histories_apart}
use Rattle.board_core.proofs.law.histories_leave_one_board.Goals as goal

pub returns : goal.returns
returns c = record { one = legal_unique; apart = histories_apart; shut = closed_shut }
