use Rattle.std.proofs.Common.{rules}
use Rattle.fleet_board.proofs.Turns.{desk_left, left_shut, shut_after, shuts, taken_so, turned}
use Rattle.fleet_board.proofs.board.FleetBoard.shut.Goals as goal

pub leave-requires-clause-list : goal.leave-requires-clause-list
leave-requires-clause-list g c =
    let h = taken_so g.I.FleetIndex.fits c.args.self.now.lock c.args.desk.now c.enter-turn.result.held c.take-held.new.self.held c.take-held.result c.requires.desk.of_lock c.enter-turn.ensures.turn c.enter-turn.ensures.found c.take-held.ensures.turn c.take-held.ensures.list c.take-held.ensures.origin in
    left_shut _ _ _ _ _ c.shut.new.self c.number-by.result h c.number-by.ensures c.shut.ensures

pub returns-clause-shut : goal.returns-clause-shut
returns-clause-shut g c =
    let h = taken_so g.I.FleetIndex.fits c.args.self.now.lock c.args.desk.now c.enter-turn.result.held c.take-held.new.self.held c.take-held.result c.requires.desk.of_lock c.enter-turn.ensures.turn c.enter-turn.ensures.found c.take-held.ensures.turn c.take-held.ensures.list c.take-held.ensures.origin in
    let t = turned _ _ _ _ _ c.shut.new.self.journal.noted c.leave.new.self.0 h c.leave.ensures.desk c.leave.ensures.same c.leave.ensures.more c.leave.ensures.others in
    shuts _ _ _ _ _ _ _ c.shut.new.self c.number-by.result h c.number-by.ensures c.shut.ensures t (search rules)

pub returns-clause-desk : goal.returns-clause-desk
returns-clause-desk g c =
    let h = taken_so g.I.FleetIndex.fits c.args.self.now.lock c.args.desk.now c.enter-turn.result.held c.take-held.new.self.held c.take-held.result c.requires.desk.of_lock c.enter-turn.ensures.turn c.enter-turn.ensures.found c.take-held.ensures.turn c.take-held.ensures.list c.take-held.ensures.origin in
    let t = turned _ _ _ _ _ c.shut.new.self.journal.noted c.leave.new.self.0 h c.leave.ensures.desk c.leave.ensures.same c.leave.ensures.more c.leave.ensures.others in
    desk_left _ _ _ _ _ _ _ _ c.requires.desk t (shut_after _ _ _ _ c.number-by.result h.of c.shut.ensures) (search rules)
