use Rattle.std.specs.Prelude.{◌≡◌, ℕ, ◌+◌, ◌-◌, ◌<◌, ◌≤◌, List, length, slice_index}
use Rattle.road_graph.specs.declared.road.NodeNo.{NodeNo}

-- the nodes of a walk, and how far each is from the first
pub record Path : Type 0 where
  pub nodes : List NodeNo
  pub offsets : List ℕ

abbrev pub length_of : Path → ℕ
length_of w = slice_index w.offsets (length w.offsets - 1)

-- what is so of every walk that was made: each node has an offset, there is a node, and offsets begin at 0 and don't fall
pub record IsPath (w : Path) : Type 0 where
  pub many : length w.offsets ≡ length w.nodes
  pub some : 0 < length w.nodes
  pub first : slice_index w.offsets 0 ≡ 0
  pub rising : (k : ℕ) → k + 1 < length w.offsets → slice_index w.offsets k ≤ slice_index w.offsets (k + 1)
