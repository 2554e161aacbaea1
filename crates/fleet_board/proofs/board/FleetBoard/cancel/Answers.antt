use Rattle.std.proofs.Common.{rules, sym, ◌∙◌}
use Rattle.board_core.specs.declared.entry.Cancelled.{Cancelled}
use Rattle.board_core.specs.declared.entry.Entry.TheVariants as entry
use Rattle.fleet_board.proofs.Turns.{answered_over, desk_left, err_sees, left_so, ok_notes, record_after, taken_so, turned}
use Rattle.fleet_board.proofs.board.FleetBoard.cancel.Goals as goal

pub leave-requires-clause-list : goal.leave-requires-clause-list
leave-requires-clause-list g c =
    let h = taken_so g.I.FleetIndex.fits c.args.self.now.lock c.args.desk.now c.enter-turn.result.held c.take-held.new.self.held c.take-held.result c.requires.desk.of_lock c.enter-turn.ensures.turn c.enter-turn.ensures.found c.take-held.ensures.turn c.take-held.ensures.list c.take-held.ensures.origin in
    let a = answered_over _ _ _ _ _ _ c.cancel-cancelled.new.self c.number-by.result (λ (x : Cancelled). entry.Cancel c.args.no x) c.cancel-cancelled.result h (c.requires.desk.graph ∙ sym c.requires.walker) c.number-by.ensures c.cancel-cancelled.ensures.ok c.cancel-cancelled.ensures.err in
    left_so _ _ _ _ _ _ _ _ h a

pub returns-clause-ok : goal.returns-clause-ok
returns-clause-ok g c =
    let h = taken_so g.I.FleetIndex.fits c.args.self.now.lock c.args.desk.now c.enter-turn.result.held c.take-held.new.self.held c.take-held.result c.requires.desk.of_lock c.enter-turn.ensures.turn c.enter-turn.ensures.found c.take-held.ensures.turn c.take-held.ensures.list c.take-held.ensures.origin in
    let a = answered_over _ _ _ _ _ _ c.cancel-cancelled.new.self c.number-by.result (λ (x : Cancelled). entry.Cancel c.args.no x) c.cancel-cancelled.result h (c.requires.desk.graph ∙ sym c.requires.walker) c.number-by.ensures c.cancel-cancelled.ensures.ok c.cancel-cancelled.ensures.err in
    let t = turned _ _ _ _ _ c.cancel-cancelled.new.self.journal.noted c.leave.new.self.0 h c.leave.ensures.desk c.leave.ensures.same c.leave.ensures.more c.leave.ensures.others in
    ok_notes _ _ _ _ _ _ _ _ _ _ h a t (search rules)

pub returns-clause-err : goal.returns-clause-err
returns-clause-err g c =
    let h = taken_so g.I.FleetIndex.fits c.args.self.now.lock c.args.desk.now c.enter-turn.result.held c.take-held.new.self.held c.take-held.result c.requires.desk.of_lock c.enter-turn.ensures.turn c.enter-turn.ensures.found c.take-held.ensures.turn c.take-held.ensures.list c.take-held.ensures.origin in
    let a = answered_over _ _ _ _ _ _ c.cancel-cancelled.new.self c.number-by.result (λ (x : Cancelled). entry.Cancel c.args.no x) c.cancel-cancelled.result h (c.requires.desk.graph ∙ sym c.requires.walker) c.number-by.ensures c.cancel-cancelled.ensures.ok c.cancel-cancelled.ensures.err in
    let t = turned _ _ _ _ _ c.cancel-cancelled.new.self.journal.noted c.leave.new.self.0 h c.leave.ensures.desk c.leave.ensures.same c.leave.ensures.more c.leave.ensures.others in
    err_sees _ _ _ _ _ _ _ _ _ _ h a t (search rules)

pub returns-clause-desk : goal.returns-clause-desk
returns-clause-desk g c =
    let h = taken_so g.I.FleetIndex.fits c.args.self.now.lock c.args.desk.now c.enter-turn.result.held c.take-held.new.self.held c.take-held.result c.requires.desk.of_lock c.enter-turn.ensures.turn c.enter-turn.ensures.found c.take-held.ensures.turn c.take-held.ensures.list c.take-held.ensures.origin in
    let a = answered_over _ _ _ _ _ _ c.cancel-cancelled.new.self c.number-by.result (λ (x : Cancelled). entry.Cancel c.args.no x) c.cancel-cancelled.result h (c.requires.desk.graph ∙ sym c.requires.walker) c.number-by.ensures c.cancel-cancelled.ensures.ok c.cancel-cancelled.ensures.err in
    let t = turned _ _ _ _ _ c.cancel-cancelled.new.self.journal.noted c.leave.new.self.0 h c.leave.ensures.desk c.leave.ensures.same c.leave.ensures.more c.leave.ensures.others in
    desk_left _ _ _ _ _ _ _ _ c.requires.desk t (record_after _ _ _ _ _ _ _ a) (search rules)
