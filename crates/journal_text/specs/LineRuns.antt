use Rattle.std.specs.Prelude.{ℕ, zero, suc, nat_lt, Bool, true, cond, List, [], ◌∷◌, ◌++◌, Option, Some, None}
use Rattle.road_graph.specs.declared.road.NodeNo.{NodeNo}
use Rattle.road_graph.specs.Roads.{node}
use Rattle.journal_text.specs.Forms.{largest_32, largest_value}
use Rattle.journal_text.specs.LineParts.{and_then, number_ahead}

-- The nodes, and the pairs of a node and its value, that stand on one line.

-- more items in front
abbrev pub in_front : {X : Type 0} → List X → Option (List X) → Option (List X)
in_front items None = None
in_front items (Some more) = Some (items ++ more)

-- one item at least
abbrev pub if_any : {X : Type 0} → Option (List X) → Option (List X)
if_any None = None
if_any (Some []) = None
if_any (Some (x ∷ xs)) = Some (x ∷ xs)

-- the nodes to the end of a line, at most so many
abbrev pub nodes_ahead : (most : ℕ) → List ℕ → Option (List NodeNo)
nodes_ahead most [] = Some []
nodes_ahead zero (b ∷ bs) = None
nodes_ahead (suc most) (b ∷ bs) = and_then (number_ahead (b ∷ bs) largest_32) (λ (cut : ℕ × List ℕ). in_front (node cut.0 ∷ []) (nodes_ahead most cut.1))

-- the nodes of a line, 1 to 64
abbrev pub nodes_of_line : List ℕ → Option (List NodeNo)
nodes_of_line bytes = if_any (nodes_ahead 64 bytes)

-- whether a node is above the last one, where there is one
abbrev pub is_above : NodeNo → (last : Option NodeNo) → Bool
is_above n None = true
is_above n (Some last) = nat_lt last.0 n.0

-- the pairs to the end of a line, at most so many, whose nodes rise from above the last one before them
abbrev pub pairs_ahead : (most : ℕ) → (last : Option NodeNo) → List ℕ → Option (List (NodeNo × ℕ))
pairs_ahead most last [] = Some []
pairs_ahead zero last (b ∷ bs) = None
pairs_ahead (suc most) last (b ∷ bs) =
    and_then (number_ahead (b ∷ bs) largest_32) (λ (cut : ℕ × List ℕ). and_then (number_ahead cut.1 largest_value) (λ (value : ℕ × List ℕ).
    cond (is_above (node cut.0) last) (in_front ((node cut.0, value.0) ∷ []) (pairs_ahead most (Some (node cut.0)) value.1)) None))

-- the pairs of a line, 1 to 32
abbrev pub pairs_of_line : List ℕ → (last : Option NodeNo) → Option (List (NodeNo × ℕ))
pairs_of_line bytes last = if_any (pairs_ahead 32 last bytes)
