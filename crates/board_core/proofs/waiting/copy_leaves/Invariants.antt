use Rattle.std.proofs.Common.{◌≡◌, ℕ, ◌<◌, ◌≤◌, drop, slice_index}
use Rattle.board_core.specs.Arrivals.{HaveLeast, leaves_of}
use Rattle.board_core.proofs.waiting.copy_leaves.Given as goal

abbrev pub invariant-loop-at : goal.invariant-loop-at
invariant-loop-at l = record {
  least : HaveLeast (leaves_of l.fn.to) l.to;
  same : (key : ℕ) → key < l.at → slice_index (drop (leaves_of l.fn.to) l.to) key ≡ slice_index (drop (leaves_of l.from) l.from) key;
  more : (key : ℕ) → l.at ≤ key → slice_index (drop (leaves_of l.fn.to) l.to) key ≡ slice_index (drop (leaves_of l.fn.to) l.fn.to) key;
}
