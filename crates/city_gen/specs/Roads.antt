use Rattle.std.specs.Prelude.{ℕ, zero, suc, ◌+◌, ◌%◌, ◌==◌, nat_le, cond, List, [], ◌∷◌, ◌++◌}
use Rattle.road_graph.specs.declared.road.Road.{Road}
use Rattle.road_graph.specs.Roads.{node}
use Rattle.city_gen.specs.Draws.{next, draw}

-- The nodes of a city stand in 40 rows of 40, and are numbered row by row from 1. Each is joined with
-- the node to its right and the node below it, there and back.

abbrev pub node_count : ℕ
node_count = 1600

-- the pair of a node and the one to its right, where it isn't the last of its row
abbrev pub right_of : ℕ → List (ℕ × ℕ)
right_of n = cond (n % 40 == 0) [] ((n, n + 1) ∷ [])

-- the pair of a node and the one below it, where it isn't in the last row
abbrev pub below : ℕ → List (ℕ × ℕ)
below n = cond (nat_le n 1560) ((n, n + 40) ∷ []) []

-- the pairs of neighbours at so many nodes from node n on: at each node to the right, and then down
unfoldable pub neighbours_from : (many n : ℕ) → List (ℕ × ℕ)
neighbours_from zero n = []
neighbours_from (suc many) n = right_of n ++ below n ++ neighbours_from many (n + 1)

unfoldable pub neighbours : List (ℕ × ℕ)
neighbours = neighbours_from node_count 1

abbrev pub road : (from to weight : ℕ) → Road
road from to weight = record { from = node from; to = node to; weight = weight }

-- the road from one node of a pair to the other and the road back, of one weight: 5 and a draw
-- below 16
abbrev pub roads_between : ℕ × ℕ → ℕ → List Road
roads_between (a, b) x = road a b (5 + draw 1 16 x) ∷ road b a (5 + draw 1 16 x) ∷ []

-- the roads between pairs of nodes, with one draw for each pair
unfoldable pub roads_along : ℕ → List (ℕ × ℕ) → List Road
roads_along x [] = []
roads_along x (pair ∷ pairs) = roads_between pair x ++ roads_along (next x) pairs
