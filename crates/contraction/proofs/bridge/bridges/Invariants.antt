use Rattle.std.proofs.Common.{take, length, ◌^◌}
use Rattle.contraction.specs.Rows.{Stands}
use Rattle.contraction.specs.Bridging.{AreBridges}
use Rattle.contraction.specs.Searching.{IsMarked}
use Rattle.contraction.proofs.bridge.bridges.Given as goal

abbrev pub invariant-loop-down : goal.invariant-loop-down
invariant-loop-down l = record {
  found : AreBridges (2 ^ 53) l.node (take l.down-index l.ins) l.outs (Stands l.rows) l.found;
  marked : IsMarked (length l.rows) l.search;
}
