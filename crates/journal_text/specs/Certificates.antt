use Rattle.std.specs.Prelude.{ℕ, zero, suc, ◌+◌, List, [], ◌∷◌, ◌++◌, codes, Option, Some, None}
use Rattle.std.specs.Fmt.{decimal}
use Rattle.road_graph.specs.declared.road.NodeNo.{NodeNo}
use Rattle.plain_search.specs.declared.potential.Potential.{Potential}
use Rattle.journal_text.specs.declared.certificate.Certificate.{Certificate}
use Rattle.journal_text.specs.Groups.{spaced, nodes_on_line}

-- The lines of a certificate, and of the potentials of joined legs.

-- the value of each node that isn't listed, and `-` where it is larger than every number
abbrev pub rest_text : Option ℕ → List ℕ
rest_text None = codes "-"
rest_text (Some rest) = decimal rest

-- The listed pairs where `left` more go on this line: when it is full and pairs are left, it ends, and a line `w` has the next ones.
abbrev pub pairs_after : (left : ℕ) → List (NodeNo × ℕ) → List ℕ
pairs_after left [] = 10 ∷ []
pairs_after zero (pair ∷ pairs) = 10 ∷ 119 ∷ spaced (pair.0.0 ∷ pair.1 ∷ []) ++ pairs_after 31 pairs
pairs_after (suc left) (pair ∷ pairs) = spaced (pair.0.0 ∷ pair.1 ∷ []) ++ pairs_after left pairs

-- u W REST, and the listed pairs on lines `w` behind it, at most 32 on each
abbrev pub potential_lines : (number : ℕ) → Potential → List ℕ
potential_lines number p = 117 ∷ spaced (number ∷ []) ++ 32 ∷ rest_text p.rest ++ pairs_after zero p.listed

-- The nodes of a direct walk where `left` more go on this line: when it is full and nodes are left, it ends, and a line `f` goes on.
abbrev pub direct_after : (left : ℕ) → List NodeNo → List ℕ
direct_after left [] = 10 ∷ []
direct_after zero (n ∷ nodes) = 10 ∷ 102 ∷ spaced (n.0 ∷ []) ++ direct_after 63 nodes
direct_after (suc left) (n ∷ nodes) = spaced (n.0 ∷ []) ++ direct_after left nodes

-- a line `e` with the first nodes of the direct walk, at most 64, and lines `f` with the next ones; or `e -` where there is none
abbrev pub direct_lines : Option (List NodeNo) → List ℕ
direct_lines None = codes "e -" ++ 10 ∷ []
direct_lines (Some nodes) = 101 ∷ direct_after nodes_on_line nodes

-- the four potentials in their order, and the direct walk
abbrev pub certificate_lines : Certificate → List ℕ
certificate_lines c =
    potential_lines 1 c.to_pickup ++ potential_lines 2 c.from_pickup ++ potential_lines 3 c.to_dropoff ++ potential_lines 4 c.from_dropoff
    ++ direct_lines c.direct

-- potentials with the numbers from this one on
abbrev pub numbered_lines : (number : ℕ) → List Potential → List ℕ
numbered_lines number [] = []
numbered_lines number (p ∷ ps) = potential_lines number p ++ numbered_lines (number + 1) ps

-- the potentials from the first nodes of joined walks, with the numbers from 5 on
abbrev pub joins_lines : List Potential → List ℕ
joins_lines joins = numbered_lines 5 joins
