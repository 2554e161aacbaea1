use Rattle.std.specs.Prelude.{◌≡◌, ℕ, ◌≤◌, ◌==◌, ◌&&◌, nat_le, Bool, cond, List, [], ◌∷◌, map, filter, Option, Some, None, min, refl}
use Rattle.road_graph.specs.declared.road.NodeNo.{NodeNo}
use Rattle.road_graph.specs.declared.road.Road.{Road}

-- how many nodes there are, numbered from 1, and the roads in their order
pub record Roads : Type 0 where
  pub nodes : ℕ
  pub roads : List Road

-- n is one of so many nodes
abbrev pub is_node : ℕ → NodeNo → Bool
is_node nodes n = nat_le 1 n.0 && nat_le n.0 nodes

abbrev pub IsNode : Roads → NodeNo → Type 0
IsNode g n = (1 ≤ n.0) × (n.0 ≤ g.nodes)

-- both ends of the road are among so many nodes
abbrev pub is_within : ℕ → Road → Bool
is_within nodes road = is_node nodes road.from && is_node nodes road.to

-- the other end and the weight of each road out of a node, and of each road into it, in the order of the list
abbrev pub outs : Roads → NodeNo → List (NodeNo × ℕ)
outs g n = map (λ (r : Road). (r.to, r.weight)) (filter (λ (r : Road). r.from.0 == n.0) g.roads)

abbrev pub ins : Roads → NodeNo → List (NodeNo × ℕ)
ins g n = map (λ (r : Road). (r.from, r.weight)) (filter (λ (r : Road). r.to.0 == n.0) g.roads)

-- the lesser of two weights that may be absent
abbrev pub lighter_of : Option ℕ → Option ℕ → Option ℕ
lighter_of None w = w
lighter_of (Some v) None = Some v
lighter_of (Some v) (Some w) = Some (min v w)

-- the weight of a road, where it leads from one node to another
abbrev pub weight_on : Road → NodeNo → NodeNo → Option ℕ
weight_on road from to = cond ((road.from.0 == from.0) && (road.to.0 == to.0)) (Some road.weight) None

-- the least weight of the roads from one node to another
abbrev pub least_weight : List Road → NodeNo → NodeNo → Option ℕ
least_weight [] from to = None
least_weight (road ∷ roads) from to = lighter_of (weight_on road from to) (least_weight roads from to)

abbrev pub node : ℕ → NodeNo
node n = record { 0 = n }

-- two roads side by side, one to itself, one that goes on, and a node that none reaches
abbrev pub example : Roads
example = record {
  nodes = 4;
  roads = record { from = node 1; to = node 2; weight = 7 } ∷ record { from = node 2; to = node 2; weight = 1 } ∷ record { from = node 1; to = node 2; weight = 5 } ∷ record { from = node 2; to = node 3; weight = 4294967295 } ∷ [];
}

lighter_of_two : least_weight example.roads (node 1) (node 2) ≡ Some 5
lighter_of_two = refl

one_way : least_weight example.roads (node 2) (node 1) ≡ None
one_way = refl

in_order : outs example (node 1) ≡ (node 2, 7) ∷ (node 2, 5) ∷ []
in_order = refl

into : ins example (node 2) ≡ (node 1, 7) ∷ (node 2, 1) ∷ (node 1, 5) ∷ []
into = refl
