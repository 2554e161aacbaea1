use Rattle.std.proofs.Common.{◌≡◌, ◌++◌, drop, length}
use Rattle.stop_removal.proofs.joins.Joins.share.Given as goal

abbrev pub invariant-loop-walk : goal.invariant-loop-walk
invariant-loop-walk l = record {
  done : l.walks ++ drop l.walk-index l.walk-items ≡ l.walk-items;
  many : length l.walks ≡ l.walk-index;
}
