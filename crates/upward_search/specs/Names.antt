use Rattle.std.specs.Prelude.{◌≡◌, ℕ, ◌<◌, List, [], ◌∷◌, length, Option, Some, None, slice_get, slice_index, slice_index_or}
use Rattle.road_graph.specs.declared.road.NodeNo.{NodeNo}
use Rattle.road_graph.specs.Roads.{Roads}
use Rattle.upward_search.specs.declared.slope.Label.{Label}
use Rattle.upward_search.specs.declared.way.Way.{Way}
use Rattle.upward_search.specs.Climbs.{IsIn, IsRisingWithin}
use Rattle.upward_search.specs.Ladders.{Ladder, IsAnswerBy}

-- the nodes at the places of a list, one by one
abbrev pub AreNamed : List NodeNo → List Label → List NodeNo → Type 0
AreNamed nodes [] [] = Unit {0}
AreNamed nodes (r ∷ rs) (n ∷ ns) = (slice_get nodes r.place ≡ Some n) × AreNamed nodes rs ns
AreNamed nodes [] (n ∷ ns) = ⊥
AreNamed nodes (r ∷ rs) [] = ⊥

-- the same with the lengths
abbrev pub AreListed : List NodeNo → List Label → List (NodeNo × ℕ) → Type 0
AreListed nodes [] [] = Unit {0}
AreListed nodes (r ∷ rs) (n ∷ ns) = (slice_get nodes r.place ≡ Some n.0) × (n.1 ≡ r.length) × AreListed nodes rs ns
AreListed nodes [] (n ∷ ns) = ⊥
AreListed nodes (r ∷ rs) [] = ⊥

-- the nodes' places rise
pub record AreRising (h : Ladder) (listed : List (NodeNo × ℕ)) : Type 0 where
  pub labels : List Label
  pub are : AreListed h.nodes labels listed
  pub rise : IsRisingWithin 0 (length h.nodes) labels

-- the distance from each listed node to a node, or from that node to each of them
pub record AreRestsBy (way : Way) (g : Roads) (listed : List (NodeNo × ℕ)) (node : NodeNo) (rests : List (Option ℕ)) : Type 0 where
  pub many : length rests ≡ length listed
  pub each : (k : ℕ) (n : NodeNo) (x : ℕ) → slice_get listed k ≡ Some (n, x) → IsAnswerBy way g n node (slice_index_or rests k None)

-- the label that a listed node has by the places
abbrev pub label_by : List ℕ → NodeNo × ℕ → Label
label_by places n = record { place = slice_index places n.0.0; length = n.1 }

abbrev pub AreIn : List ℕ → List (NodeNo × ℕ) → Type 0
AreIn places listed = (n : NodeNo × ℕ) → IsIn listed n → n.0.0 < length places
