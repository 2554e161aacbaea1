use Rattle.std.specs.Prelude.{ℕ, ◌^◌}

-- the most nodes that a graph may have, and the most roads
abbrev pub most_nodes : ℕ
most_nodes = 2097152

abbrev pub most_roads : ℕ
most_roads = 8388608

-- the most nodes of a list that is tried as a walk
abbrev pub most_walk_nodes : ℕ
most_walk_nodes = 4194304

-- longer than each walk without a repeated node, and so than each distance
abbrev pub far : ℕ
far = 2 ^ 53
