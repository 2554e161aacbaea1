use Rattle.std.proofs.Common.{sym, subst}
use Rattle.std.specs.Prelude.{OnOk}
use Rattle.board_core.specs.BoardCalls.{Commits}
use Rattle.board_core.specs.BoardViews.{board_of}
use Rattle.insertion_cost.specs.declared.decision.Decision.TheVariants.{Assigned as IsAssigned, Nobody}
use Rattle.board_core.proofs.KeptBoards.{commits_from, on_ok}
use Rattle.board_core.proofs.board.Board.apply.Goals as goal

pub returns-in-Nobody-clause-commits : goal.returns-in-Nobody-clause-commits
returns-in-Nobody-clause-commits g c = subst (λ d. OnOk c.turn_down.result (Commits (board_of c.args.self.now) c.args.no d c.args.direct (board_of c.turn_down.new.self))) (sym c.in-Nobody.is)
    (on_ok c.turn_down.result (λ e. commits_from (board_of c.args.self.now) c.args.no Nobody c.args.direct (board_of c.turn_down.new.self) (c.requires.possible.0, c.requires.possible.1, e)) c.turn_down.ensures.value)

pub returns-in-Assigned-clause-commits : goal.returns-in-Assigned-clause-commits
returns-in-Assigned-clause-commits g c = subst (λ d. OnOk c.assign.result (Commits (board_of c.args.self.now) c.args.no d c.args.direct (board_of c.assign.new.self))) (sym c.in-Assigned.is)
    (on_ok c.assign.result (λ x. commits_from (board_of c.args.self.now) c.args.no (IsAssigned c.in-Assigned.assigned) c.args.direct (board_of c.assign.new.self) x) c.assign.ensures.value)
