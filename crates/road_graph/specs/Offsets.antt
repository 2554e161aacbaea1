use Rattle.std.specs.Prelude.{◌≡◌, ℕ, suc, ◌+◌, ◌<◌, ◌≤◌, List, length, take, Some, slice_index}
use Rattle.road_graph.specs.declared.road.NodeNo.{NodeNo}
use Rattle.road_graph.specs.Roads.{Roads}
use Rattle.road_graph.specs.Walks.{walk_length}

-- as many offsets as nodes, which begin at 0 and don't fall, each the length of the walk up to its node
pub record AreOffsets (g : Roads) (nodes : List NodeNo) (offsets : List ℕ) : Type 0 where
  pub many : length offsets ≡ length nodes
  pub some : 0 < length nodes
  pub first : slice_index offsets 0 ≡ 0
  pub rising : (k : ℕ) → k + 1 < length offsets → slice_index offsets k ≤ slice_index offsets (k + 1)
  pub each : (k : ℕ) → k < length nodes → walk_length g (take (suc k) nodes) ≡ Some (slice_index offsets k)
