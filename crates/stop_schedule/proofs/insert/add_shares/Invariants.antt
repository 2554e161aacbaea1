use Rattle.std.proofs.Common.{◌≡◌, ◌++◌, take}
use Rattle.stop_schedule.proofs.insert.add_shares.Given as goal

abbrev pub invariant-loop-walk : goal.invariant-loop-walk
invariant-loop-walk l = l.all.items ≡ l.fn.all.items ++ take l.walk-index l.walks
