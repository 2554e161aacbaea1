use Rattle.std.proofs.Common.{take}
use Rattle.contraction.specs.Rows.{ArePut}
use Rattle.contraction.proofs.rows.put.Given as goal

abbrev pub invariant-loop-arc : goal.invariant-loop-arc
invariant-loop-arc l = ArePut (take l.arc-index l.arcs) l.fn.outs.items l.fn.ins.items l.outs.items l.ins.items
