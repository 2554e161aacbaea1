use Rattle.shared_cases.proofs.Desks.{desks_back}
use Rattle.shared_cases.proofs.threads.take_part_all.Goals as goal

pub returns-clause-zero : goal.returns-clause-zero
returns-clause-zero g c = (desks_back (g.P.Pricer.graph c.args.board.now.pricer) c.args.board.now.lock _ c.in_ok-front.field-0 c.in_ok-front.was c.join-front.ensures.first).0

pub returns-clause-one : goal.returns-clause-one
returns-clause-one g c = (desks_back (g.P.Pricer.graph c.args.board.now.pricer) c.args.board.now.lock _ c.in_ok-front.field-0 c.in_ok-front.was c.join-front.ensures.first).1

pub returns-clause-two : goal.returns-clause-two
returns-clause-two g c = (desks_back (g.P.Pricer.graph c.args.board.now.pricer) c.args.board.now.lock _ c.in_ok-back.field-0 c.in_ok-back.was c.join-front.ensures.second).0

pub returns-clause-three : goal.returns-clause-three
returns-clause-three g c = (desks_back (g.P.Pricer.graph c.args.board.now.pricer) c.args.board.now.lock _ c.in_ok-back.field-0 c.in_ok-back.was c.join-front.ensures.second).1
