use Rattle.std.proofs.Common.{rules}
use Rattle.fleet_board.proofs.Turns.{desk_left, err_looks, ok_looks, taken_so, turned}
use Rattle.fleet_board.proofs.board.FleetBoard.look.Goals as goal

pub returns-clause-ok : goal.returns-clause-ok
returns-clause-ok g c =
    let h = taken_so g.I.FleetIndex.fits c.args.self.now.lock c.args.desk.now c.enter-turn.result.held c.take-held.new.self.held c.take-held.result c.requires.desk.of_lock c.enter-turn.ensures.turn c.enter-turn.ensures.found c.take-held.ensures.turn c.take-held.ensures.list c.take-held.ensures.origin in
    let t = turned _ _ _ _ _ c.take-held.result.journal.noted c.leave.new.self.0 h c.leave.ensures.desk c.leave.ensures.same c.leave.ensures.more c.leave.ensures.others in
    ok_looks _ _ _ _ _ _ _ _ _ c.share-fleet.result c.requires.desk.graph h c.fleet.ensures c.share-fleet.ensures t (search rules)

pub returns-clause-err : goal.returns-clause-err
returns-clause-err g c =
    let h = taken_so g.I.FleetIndex.fits c.args.self.now.lock c.args.desk.now c.enter-turn.result.held c.take-held.new.self.held c.take-held.result c.requires.desk.of_lock c.enter-turn.ensures.turn c.enter-turn.ensures.found c.take-held.ensures.turn c.take-held.ensures.list c.take-held.ensures.origin in
    let t = turned _ _ _ _ _ c.take-held.result.journal.noted c.leave.new.self.0 h c.leave.ensures.desk c.leave.ensures.same c.leave.ensures.more c.leave.ensures.others in
    err_looks _ _ _ _ _ _ _ c.share-fleet.result h t (search rules)

pub returns-clause-desk : goal.returns-clause-desk
returns-clause-desk g c =
    let h = taken_so g.I.FleetIndex.fits c.args.self.now.lock c.args.desk.now c.enter-turn.result.held c.take-held.new.self.held c.take-held.result c.requires.desk.of_lock c.enter-turn.ensures.turn c.enter-turn.ensures.found c.take-held.ensures.turn c.take-held.ensures.list c.take-held.ensures.origin in
    let t = turned _ _ _ _ _ c.take-held.result.journal.noted c.leave.new.self.0 h c.leave.ensures.desk c.leave.ensures.same c.leave.ensures.more c.leave.ensures.others in
    desk_left _ _ _ _ _ _ _ c.take-held.result c.requires.desk t h.of (search rules)
