use Rattle.std.proofs.Common.{[], ap, ◌∙◌}
use Rattle.road_graph.specs.Roads.{Roads}
use Rattle.board_core.specs.BoardKept.{WithIndex}
use Rattle.board_core.specs.Boards.{Board}
use Rattle.board_core.proofs.SameFleets.{same_fleet}
use Rattle.board_core.proofs.board.Board.claim_with_fleet.Goals as goal

pub returns-clause-fleet : goal.returns-clause-fleet
returns-clause-fleet g c =
    let nowhere : Roads = record { nodes = 0; roads = [] } in
    let step = c.in-Some.ensures.value.3 nowhere in
    same_fleet c.in_ok-fleet.fleet c.args.self.now.fleet c.claim.new.self.fleet _ c.self-2.inside.fleet.version (c.in_ok-fleet.ensures ∙ ap (λ (b : WithIndex _). b.fleet) c.self.view_is) (ap (λ (b : Board). b.fleet) step.3) c.claim.ensures.index (ap (λ (b : WithIndex _). b.fleet.version) c.self-2.view_is)
