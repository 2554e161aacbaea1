use Rattle.shared_cases.proofs.Desks.{desk_back}
use Rattle.shared_cases.proofs.threads.claim_beside.Goals as goal

pub returns-clause-zero : goal.returns-clause-zero
returns-clause-zero g c = desk_back (g.P.Pricer.graph c.args.board.now.pricer) c.args.board.now.lock _ c.in_ok-zero.field-0 c.in_ok-zero.was c.join-zero.ensures.first

pub returns-clause-one : goal.returns-clause-one
returns-clause-one g c = desk_back (g.P.Pricer.graph c.args.board.now.pricer) c.args.board.now.lock _ c.in_ok-one.field-0 c.in_ok-one.was c.join-zero.ensures.second
