use Rattle.std.proofs.Common.{◌^◌, ◌<◌}
use Rattle.contraction.proofs.bridge.longest.Given as goal

abbrev pub invariant-loop-up : goal.invariant-loop-up
invariant-loop-up l = l.longest < 2 ^ 54
