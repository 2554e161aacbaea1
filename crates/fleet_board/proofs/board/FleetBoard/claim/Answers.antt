use Rattle.std.proofs.Common.{rules}
use Rattle.fleet_board.proofs.ClaimTurns.{claimed_so, err_unclaimed, left_claimed, ok_claims, record_claimed}
use Rattle.fleet_board.proofs.Turns.{desk_left, taken_so, turned}
use Rattle.fleet_board.proofs.board.FleetBoard.claim.Goals as goal

pub leave-requires-clause-list : goal.leave-requires-clause-list
leave-requires-clause-list g c =
    let h = taken_so g.I.FleetIndex.fits c.args.self.now.lock c.args.desk.now c.enter-turn.result.held c.take-held.new.self.held c.take-held.result c.requires.desk.of_lock c.enter-turn.ensures.turn c.enter-turn.ensures.found c.take-held.ensures.turn c.take-held.ensures.list c.take-held.ensures.origin in
    let a = claimed_so _ _ _ _ _ c.claim-claim.new.self c.number-by.result c.claim-claim.result h c.number-by.ensures c.claim-claim.ensures.ok c.claim-claim.ensures.err in
    left_claimed _ _ _ _ _ _ _ h a

pub returns-clause-ok : goal.returns-clause-ok
returns-clause-ok g c =
    let h = taken_so g.I.FleetIndex.fits c.args.self.now.lock c.args.desk.now c.enter-turn.result.held c.take-held.new.self.held c.take-held.result c.requires.desk.of_lock c.enter-turn.ensures.turn c.enter-turn.ensures.found c.take-held.ensures.turn c.take-held.ensures.list c.take-held.ensures.origin in
    let a = claimed_so _ _ _ _ _ c.claim-claim.new.self c.number-by.result c.claim-claim.result h c.number-by.ensures c.claim-claim.ensures.ok c.claim-claim.ensures.err in
    let t = turned _ _ _ _ _ c.claim-claim.new.self.journal.noted c.leave.new.self.0 h c.leave.ensures.desk c.leave.ensures.same c.leave.ensures.more c.leave.ensures.others in
    ok_claims _ _ _ _ _ _ _ _ _ _ c.requires.desk.graph h a t (search rules)

pub returns-clause-err : goal.returns-clause-err
returns-clause-err g c =
    let h = taken_so g.I.FleetIndex.fits c.args.self.now.lock c.args.desk.now c.enter-turn.result.held c.take-held.new.self.held c.take-held.result c.requires.desk.of_lock c.enter-turn.ensures.turn c.enter-turn.ensures.found c.take-held.ensures.turn c.take-held.ensures.list c.take-held.ensures.origin in
    let a = claimed_so _ _ _ _ _ c.claim-claim.new.self c.number-by.result c.claim-claim.result h c.number-by.ensures c.claim-claim.ensures.ok c.claim-claim.ensures.err in
    let t = turned _ _ _ _ _ c.claim-claim.new.self.journal.noted c.leave.new.self.0 h c.leave.ensures.desk c.leave.ensures.same c.leave.ensures.more c.leave.ensures.others in
    err_unclaimed _ _ _ _ _ _ _ _ _ h a t (search rules)

pub returns-clause-desk : goal.returns-clause-desk
returns-clause-desk g c =
    let h = taken_so g.I.FleetIndex.fits c.args.self.now.lock c.args.desk.now c.enter-turn.result.held c.take-held.new.self.held c.take-held.result c.requires.desk.of_lock c.enter-turn.ensures.turn c.enter-turn.ensures.found c.take-held.ensures.turn c.take-held.ensures.list c.take-held.ensures.origin in
    let a = claimed_so _ _ _ _ _ c.claim-claim.new.self c.number-by.result c.claim-claim.result h c.number-by.ensures c.claim-claim.ensures.ok c.claim-claim.ensures.err in
    let t = turned _ _ _ _ _ c.claim-claim.new.self.journal.noted c.leave.new.self.0 h c.leave.ensures.desk c.leave.ensures.same c.leave.ensures.more c.leave.ensures.others in
    desk_left _ _ _ _ _ _ _ _ c.requires.desk t (record_claimed _ _ _ _ _ _ a) (search rules)
