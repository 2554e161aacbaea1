use Rattle.std.specs.Prelude.{◌≡◌, ℕ, ◌+◌, List, [], ◌∷◌, length, Option, Some, None, refl}
use Rattle.road_graph.specs.declared.road.NodeNo.{NodeNo}
use Rattle.road_graph.specs.Roads.{Roads, outs, ins, least_weight, node, example}

-- how many roads lead out of nodes, and into them
abbrev pub roads_out : Roads → List NodeNo → ℕ
roads_out g [] = 0
roads_out g (u ∷ more) = length (outs g u) + roads_out g more

abbrev pub roads_into : Roads → List NodeNo → ℕ
roads_into g [] = 0
roads_into g (u ∷ more) = length (ins g u) + roads_into g more

abbrev pub where_joined : Option ℕ → ℕ → ℕ
where_joined None count = 0
where_joined (Some weight) count = count

-- how many roads are read to follow nodes as a walk: those out of each but the last, up to the first that isn't joined to the next
abbrev pub read_along : Roads → List NodeNo → ℕ
read_along g [] = 0
read_along g (u ∷ []) = 0
read_along g (u ∷ v ∷ more) = length (outs g u) + where_joined (least_weight g.roads u v) (read_along g (v ∷ more))

two_rows : roads_out example (node 1 ∷ node 2 ∷ []) ≡ 4
two_rows = refl

last_unread : read_along example (node 1 ∷ node 2 ∷ node 3 ∷ []) ≡ 4
last_unread = refl

unjoined_stops : read_along example (node 2 ∷ node 1 ∷ node 2 ∷ []) ≡ 2
unjoined_stops = refl
