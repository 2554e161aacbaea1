use Rattle.std.proofs.Common.{◌≡◌, take, ◌++◌}
use Rattle.version_array.proofs.chunk.push_shares.Given as goal

abbrev pub invariant-loop-item : goal.invariant-loop-item
invariant-loop-item g l = l.items.items ≡ l.initial.items.items ++ take l.item-index l.more
