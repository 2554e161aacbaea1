use Rattle.std.proofs.Common.{◌≡◌, List, None, sym, subst}
use Rattle.board_core.specs.Boards.{Board, with_next_version}
use Rattle.board_core.specs.BoardKept.{IsKeptBoard}
use Rattle.board_core.specs.BoardViews.{board_of}
use Rattle.board_core.specs.FleetViews.{cars_of}
use Rattle.board_core.specs.Queues.{Waiting}
use Rattle.board_core.specs.Steps.{refusal}
use Rattle.board_core.proofs.KeptBoards.{submitted_kept}
use Rattle.board_core.proofs.board.Board.submit.Goals as goal

pub invariant_of-self-2 : goal.invariant_of-self-2
invariant_of-self-2 g c =
    let b : Board = record { nodes = c.self.inside.nodes; fleet = cars_of c.self.inside.fleet; closed = c.self.inside.closed; waiting = c.self.inside.waiting; answers = c.self.inside.answers.entries; cancelled = c.self.inside.cancelled.keys } in
    let F = g.I.FleetIndex.fits c.self.inside.fleet.index in
    subst (λ (l : List Waiting). IsKeptBoard F (record (with_next_version b) { waiting = l }) c.self.inside.arrivals) (sym c.in_ok-push.ensures.ok)
    (submitted_kept F b c.args.request c.self.inside.arrivals (subst (λ v. refusal (board_of v) c.args.request ≡ None) (sym c.self.view_is) (sym c.in_default.ensures)) c.self.invariant)
