use Rattle.std.specs.Prelude.{◌≡◌, ℕ, not, ◌&&◌, nat_le, cond, List, length, position, Option, Some, None, refl}
use Rattle.road_graph.specs.declared.road.Road.{Road}
use Rattle.road_graph.specs.declared.graph.BuildFault.{BuildFault}
use Rattle.road_graph.specs.declared.graph.BuildFault.TheVariants.{Large, Node, NoMemory}
use Rattle.road_graph.specs.Roads.{is_within, example}
use Rattle.road_graph.specs.Limits.{most_nodes, most_roads}

-- the first road with an end that is none of so many nodes
abbrev pub first_outside : ℕ → List Road → Option ℕ
first_outside nodes roads = position (λ (road : Road). not (is_within nodes road)) roads

abbrev pub at_road : Option ℕ → Option BuildFault
at_road None = None
at_road (Some k) = Some (Node k)

-- what is wrong with numbers that should be a graph's
abbrev pub fault_in : ℕ → List Road → Option BuildFault
fault_in nodes roads = cond (nat_le nodes most_nodes && nat_le (length roads) most_roads) (at_road (first_outside nodes roads)) (Some Large)

-- the fault is the one in the numbers, and is want of memory only where they have none
abbrev pub IsCause : Option BuildFault → BuildFault → Type 0
IsCause wrong NoMemory = wrong ≡ None
IsCause wrong Large = wrong ≡ Some Large
IsCause wrong (Node k) = wrong ≡ Some (Node k)

none_wrong : fault_in 4 example.roads ≡ None
none_wrong = refl

fourth_outside : fault_in 2 example.roads ≡ Some (Node 3)
fourth_outside = refl

too_many : fault_in 2097153 example.roads ≡ Some Large
too_many = refl
