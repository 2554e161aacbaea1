use Rattle.board_core.specs.BoardViews.{board_of}
use Rattle.board_cases.proofs.Played.{may_apply, played_answer, short_direct}
use Rattle.board_cases.proofs.boards.apply.Goals as goal
use Rattle.board_cases.proofs.boards.apply.Goals.{in-Ok, in-Err}

pub apply-requires-clause-direct : goal.apply-requires-clause-direct
apply-requires-clause-direct c = short_direct c.args.graph.now (board_of c.args.board.now) c.args.request.now c.args.decision c.args.direct c.answers_are_possible.ensures c.requires.played c.requires.answer

pub apply-requires-clause-possible : goal.apply-requires-clause-possible
apply-requires-clause-possible c = may_apply c.args.graph.now (board_of c.args.board.now) c.args.request.now c.args.decision c.args.direct c.answers_are_possible.ensures c.requires.played c.requires.waits c.requires.answer

pub returns-clause-played : goal.returns-clause-played
returns-clause-played c = elim c.match-apply.branch [
  | in-Ok w ↦ rw w.result-is (played_answer c.args.graph.now (board_of c.args.board.now) (board_of c.apply.new.self) c.args.request.now c.args.decision c.args.direct c.requires.played c.requires.waits c.requires.answer w.in-Ok.ensures.commits)
  | in-Err w ↦ rw w.result-is tt
]
