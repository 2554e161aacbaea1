use Rattle.std.proofs.Common.{◌+◌, ◌-◌, length}
use Rattle.city_gen.specs.Draws.{after}
use Rattle.city_gen.specs.Roads.{neighbours, node_count, roads_along}
use Rattle.city_gen.proofs.RoadsAlong.{IsLeft}
use Rattle.city_gen.proofs.roads.make_roads.Given as goal

abbrev pub invariant-loop-place : goal.invariant-loop-place
invariant-loop-place l =
    IsLeft l.roads.items l.draws.state (node_count - l.place) (l.place + 1)
    (roads_along l.fn.draws.state neighbours) (after (length neighbours) l.fn.draws.state)
