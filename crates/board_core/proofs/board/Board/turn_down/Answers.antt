use Rattle.std.proofs.Common.{sym, subst}
use Rattle.insertion_cost.specs.declared.decision.Decision.TheVariants.{Nobody}
use Rattle.board_core.specs.Boards.{Board}
use Rattle.board_core.specs.BoardKept.{IsKeptBoard}
use Rattle.board_core.specs.FleetViews.{cars_of}
use Rattle.board_core.proofs.KeptBoards.{answered_is, answered_kept}
use Rattle.board_core.proofs.board.Board.turn_down.Goals as goal

pub invariant_of-self-2 : goal.invariant_of-self-2
invariant_of-self-2 g c =
    let b : Board = record { nodes = c.self.inside.nodes; fleet = cars_of c.self.inside.fleet; closed = c.self.inside.closed; waiting = c.self.inside.waiting; answers = c.self.inside.answers.entries; cancelled = c.self.inside.cancelled.keys } in
    let F = g.I.FleetIndex.fits c.self.inside.fleet.index in
    subst (λ (n : Board). IsKeptBoard F n c.self.inside.arrivals) (sym (answered_is b c.args.no Nobody c.remove.new.self c.insert.new.self.entries c.remove.ensures c.in_default.ensures.entries))
    (answered_kept F b c.args.no Nobody c.self.inside.arrivals c.self.invariant)
