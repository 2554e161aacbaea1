use Rattle.std.proofs.Common.{List, None, sym, subst}
use Rattle.board_core.specs.Boards.{Board, with_next_version}
use Rattle.board_core.specs.BoardKept.{IsKeptBoard}
use Rattle.board_core.specs.FleetViews.{cars_of}
use Rattle.board_core.specs.Queues.{Waiting}
use Rattle.board_core.proofs.KeptBoards.{held_kept}
use Rattle.board_core.proofs.board.Board.back.Goals as goal

pub invariant_of-self : goal.invariant_of-self
invariant_of-self g c =
    let b : Board = record { nodes = c.self.inside.nodes; fleet = cars_of c.self.inside.fleet; closed = c.self.inside.closed; waiting = c.self.inside.waiting; answers = c.self.inside.answers.entries; cancelled = c.self.inside.cancelled.keys } in
    let F = g.I.FleetIndex.fits c.self.inside.fleet.index in
    subst (λ (l : List Waiting). IsKeptBoard F (record (with_next_version b) { waiting = l }) c.self.inside.arrivals) (sym c.hold.ensures) (held_kept F b c.args.no None c.self.inside.arrivals c.self.invariant)
