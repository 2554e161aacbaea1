use Rattle.std.specs.Prelude.{◌≡◌, [], ◌∷◌, map, Some, refl}
use Rattle.road_graph.specs.declared.road.Road.{Road}
use Rattle.road_graph.specs.Roads.{Roads, ins, node, example}
use Rattle.road_graph.specs.Walks.{walk_length}

-- a road the other way round
abbrev pub turn : Road → Road
turn road = record { from = road.to; to = road.from; weight = road.weight }

-- the graph with each road the other way round
abbrev pub turned : Roads → Roads
turned g = record { nodes = g.nodes; roads = map turn g.roads }

into_first : ins (turned example) (node 1) ≡ (node 2, 7) ∷ (node 2, 5) ∷ []
into_first = refl

other_way : walk_length (turned example) (node 3 ∷ node 2 ∷ node 1 ∷ []) ≡ Some 4294967300
other_way = refl
