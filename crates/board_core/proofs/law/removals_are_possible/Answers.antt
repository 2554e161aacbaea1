use Rattle.board_core.proofs.law.removals_are_possible.Goals as goal
use Rattle.board_core.proofs.PossibleAnswers.{possible_removals}

pub returns : goal.returns
returns c = possible_removals
