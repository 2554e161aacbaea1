use Rattle.std.proofs.Common.{rules}
use Rattle.board_core.specs.declared.entry.Entry.TheVariants as entry
use Rattle.fleet_board.proofs.ClaimTurns.{held_now}
use Rattle.fleet_board.proofs.Turns.{desk_left, left_one, notes_one, taken_so, turned}
use Rattle.fleet_board.proofs.board.FleetBoard.give_back.Goals as goal

pub give_back-requires-clause-held : goal.give_back-requires-clause-held
give_back-requires-clause-held g c =
    let h = taken_so g.I.FleetIndex.fits c.args.self.now.lock c.args.desk.now c.enter-turn.result.held c.take-held.new.self.held c.take-held.result c.requires.desk.of_lock c.enter-turn.ensures.turn c.enter-turn.ensures.found c.take-held.ensures.turn c.take-held.ensures.list c.take-held.ensures.origin in
    held_now _ _ _ _ _ _ c.number-by.result c.desks_hold_claims.ensures.parts c.desks_hold_claims.ensures.legal c.histories_leave_one_board.ensures.one c.histories_leave_one_board.ensures.apart c.desks_hold_claims.ensures.stay h c.number-by.ensures c.requires.claimed

pub leave-requires-clause-list : goal.leave-requires-clause-list
leave-requires-clause-list g c =
    let h = taken_so g.I.FleetIndex.fits c.args.self.now.lock c.args.desk.now c.enter-turn.result.held c.take-held.new.self.held c.take-held.result c.requires.desk.of_lock c.enter-turn.ensures.turn c.enter-turn.ensures.found c.take-held.ensures.turn c.take-held.ensures.list c.take-held.ensures.origin in
    left_one _ _ _ _ _ c.give_back.new.self c.number-by.result (entry.Back c.args.claimed.request.no) h c.number-by.ensures c.give_back.ensures

pub returns-clause-back : goal.returns-clause-back
returns-clause-back g c =
    let h = taken_so g.I.FleetIndex.fits c.args.self.now.lock c.args.desk.now c.enter-turn.result.held c.take-held.new.self.held c.take-held.result c.requires.desk.of_lock c.enter-turn.ensures.turn c.enter-turn.ensures.found c.take-held.ensures.turn c.take-held.ensures.list c.take-held.ensures.origin in
    let t = turned _ _ _ _ _ c.give_back.new.self.journal.noted c.leave.new.self.0 h c.leave.ensures.desk c.leave.ensures.same c.leave.ensures.more c.leave.ensures.others in
    notes_one _ _ _ _ _ _ _ c.give_back.new.self c.number-by.result (entry.Back c.args.claimed.request.no) h c.number-by.ensures c.give_back.ensures t (search rules)

pub returns-clause-desk : goal.returns-clause-desk
returns-clause-desk g c =
    let h = taken_so g.I.FleetIndex.fits c.args.self.now.lock c.args.desk.now c.enter-turn.result.held c.take-held.new.self.held c.take-held.result c.requires.desk.of_lock c.enter-turn.ensures.turn c.enter-turn.ensures.found c.take-held.ensures.turn c.take-held.ensures.list c.take-held.ensures.origin in
    let t = turned _ _ _ _ _ c.give_back.new.self.journal.noted c.leave.new.self.0 h c.leave.ensures.desk c.leave.ensures.same c.leave.ensures.more c.leave.ensures.others in
    desk_left _ _ _ _ _ _ _ _ c.requires.desk t (c.give_back.ensures _ h.of).of (search rules)
