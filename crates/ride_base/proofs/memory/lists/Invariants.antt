use Rattle.std.proofs.Common.{◌≡◌, drop}
use Rattle.ride_base.specs.Stored.{is_listed}
use Rattle.ride_base.proofs.memory.lists.Given as goal

abbrev pub invariant-loop-listed : goal.invariant-loop-listed
invariant-loop-listed l = is_listed (drop l.listed-index l.failing) l.name l.call ≡ is_listed l.failing l.name l.call
