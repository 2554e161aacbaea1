use Rattle.board_core.proofs.law.answers_are_possible.Goals as goal
use Rattle.board_core.proofs.PossibleAnswers.{possible_answers}

pub returns : goal.returns
returns c = possible_answers
