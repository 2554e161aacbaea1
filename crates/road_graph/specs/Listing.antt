use Rattle.std.specs.Prelude.{ℕ, ◌==◌, cond, List, [], ◌∷◌, Option, Some, None}
use Rattle.road_graph.specs.declared.road.NodeNo.{NodeNo}
use Rattle.road_graph.specs.Roads.{lighter_of}

-- the least weight in a row of roads that lead to a node
abbrev pub least_in : List (NodeNo × ℕ) → NodeNo → Option ℕ
least_in [] to = None
least_in ((end, weight) ∷ row) to = lighter_of (cond (end.0 == to.0) (Some weight) None) (least_in row to)
