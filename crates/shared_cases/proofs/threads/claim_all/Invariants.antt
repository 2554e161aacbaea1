use Rattle.fleet_board.specs.Turns.{IsDeskOf}
use Rattle.shared_cases.proofs.threads.claim_all.Given as goal

abbrev pub invariant-loop-k : goal.invariant-loop-k
invariant-loop-k g l = IsDeskOf (g.P.Pricer.graph l.board.pricer) l.board.lock l.desk
