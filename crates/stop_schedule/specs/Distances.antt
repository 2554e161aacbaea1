use Rattle.std.specs.Prelude.{◌≡◌, ℕ, List, [], ◌∷◌}
use Rattle.road_graph.specs.declared.road.NodeNo.{NodeNo}
use Rattle.road_graph.specs.Roads.{Roads}
use Rattle.road_graph.specs.Paths.{Path}
use Rattle.road_graph.specs.Walks.{IsDist, IsLeastWalk}

-- each number is the distance of its pair of nodes
abbrev pub AreDistances : Roads → List (NodeNo × NodeNo) → List ℕ → Type 0
AreDistances g [] lengths = lengths ≡ []
AreDistances g (ends ∷ more) [] = ⊥
AreDistances g (ends ∷ more) (x ∷ lengths) = IsDist g ends.0 ends.1 x × AreDistances g more lengths

-- each walk is a least walk of its pair of nodes
abbrev pub AreLeastWalks : Roads → List (NodeNo × NodeNo) → List Path → Type 0
AreLeastWalks g [] walks = walks ≡ []
AreLeastWalks g (ends ∷ more) [] = ⊥
AreLeastWalks g (ends ∷ more) (w ∷ walks) = IsLeastWalk g ends.0 ends.1 w × AreLeastWalks g more walks
