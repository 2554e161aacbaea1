use Rattle.std.proofs.Common.{take, ◌^◌}
use Rattle.contraction.specs.Rows.{Stands}
use Rattle.contraction.specs.Bridging.{AreFrom}
use Rattle.contraction.proofs.bridge.bridges_from.Given as goal

abbrev pub invariant-loop-up : goal.invariant-loop-up
invariant-loop-up l = AreFrom (2 ^ 53) l.node l.down (take l.up-index l.ups) (Stands l.rows) l.fn.found l.found
