use Rattle.std.specs.Prelude.{◌≡◌, ℕ, ◌<◌, List, [], ◌∷◌, map, Contains, IsPermutation, Option, Some, None, refl}
use Rattle.std.specs.declared.cmp.Reverse.{Reverse}
use Rattle.road_graph.specs.declared.road.NodeNo.{NodeNo}
use Rattle.road_graph.specs.Roads.{node}
use Rattle.contraction.specs.declared.queue.Candidate.{Candidate}

-- the candidates of a heap of reversed ones
abbrev pub held_of : List (Reverse Candidate) → List Candidate
held_of = map (λ (r : Reverse Candidate). r.0)

-- their nodes
abbrev pub nodes_of : List Candidate → List NodeNo
nodes_of = map (λ (c : Candidate). c.node)

-- the nodes have numbers below this
abbrev pub AreBelow : ℕ → List NodeNo → Type 0
AreBelow count nodes = (n : NodeNo) → Contains nodes n → n.0 < count

-- one candidate is taken where there are any
abbrev pub IsTaken : List Candidate → Option Candidate → List Candidate → Type 0
IsTaken old None new = old ≡ []
IsTaken old (Some c) new = IsPermutation old (c ∷ new)

-- one node is taken where there are any, and the others may have other keys
abbrev pub IsNodeTaken : List Candidate → Option NodeNo → List Candidate → Type 0
IsNodeTaken old None new = old ≡ []
IsNodeTaken old (Some n) new = IsPermutation (nodes_of old) (n ∷ nodes_of new)

two_wait : nodes_of (record { key = 7; node = node 2 } ∷ record { key = 9; node = node 1 } ∷ []) ≡ node 2 ∷ node 1 ∷ []
two_wait = refl
