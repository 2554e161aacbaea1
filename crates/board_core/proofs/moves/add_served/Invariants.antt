use Rattle.std.proofs.Common.{◌≡◌, ◌++◌, drop}
use Rattle.board_core.specs.Steps.{served_with}
use Rattle.board_core.proofs.moves.add_served.Given as goal

abbrev pub invariant-loop-stop : goal.invariant-loop-stop
invariant-loop-stop l = l.all ++ served_with l.no (drop l.stop-index l.served) ≡ l.fn.all ++ served_with l.no l.served
