use Rattle.std.proofs.Common.{◌^◌}
use Rattle.contraction.specs.Rows.{Stands}
use Rattle.contraction.proofs.AreStanding.{here_at}
use Rattle.contraction.proofs.AreBridges.{bridges_step}
use Rattle.contraction.proofs.bridge.bridges.Goals as goal

pub bridges_from-requires-clause-down : goal.bridges_from-requires-clause-down
bridges_from-requires-clause-down c = here_at c.args.ins.now c.loop-down.down-index c.loop-down-test.true c.requires.ins

pub loop-down-preserved : goal.loop-down-preserved
loop-down-preserved c = record {
  found = bridges_step (2 ^ 53) c.args.node c.args.ins.now c.args.outs.now (Stands c.args.rows.now) c.loop-down.found c.bridges_from.new.found c.loop-down.down-index
      c.loop-down-test.true c.loop-down.invariant.found c.in_ok-bridges_from.ensures.found;
  marked = c.in_ok-bridges_from.ensures.marked;
}
