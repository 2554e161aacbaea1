use Rattle.std.proofs.Common.{rules}
use Rattle.insertion_cost.specs.declared.decision.Decision.{Decision}
use Rattle.board_core.specs.declared.entry.Entry.TheVariants as entry
use Rattle.fleet_board.proofs.ClaimTurns.{err_claimed, err_undecided, held_now, ok_commits, sound_now}
use Rattle.fleet_board.proofs.Turns.{answered_over, desk_left, left_so, record_after, taken_so, turned}
use Rattle.fleet_board.proofs.board.FleetBoard.decide.Goals as goal

pub commit-decision-requires-clause-held : goal.commit-decision-requires-clause-held
commit-decision-requires-clause-held g c =
    let h = taken_so g.I.FleetIndex.fits c.args.self.now.lock c.args.desk.now c.enter-turn.result.held c.take-held.new.self.held c.take-held.result c.requires.desk.of_lock c.enter-turn.ensures.turn c.enter-turn.ensures.found c.take-held.ensures.turn c.take-held.ensures.list c.take-held.ensures.origin in
    held_now _ _ _ _ _ _ c.number-by.result c.desks_hold_claims.ensures.parts c.desks_hold_claims.ensures.legal c.histories_leave_one_board.ensures.one c.histories_leave_one_board.ensures.apart c.desks_hold_claims.ensures.stay h c.number-by.ensures c.requires.claimed

pub commit-decision-requires-clause-sound : goal.commit-decision-requires-clause-sound
commit-decision-requires-clause-sound g c =
    let h = taken_so g.I.FleetIndex.fits c.args.self.now.lock c.args.desk.now c.enter-turn.result.held c.take-held.new.self.held c.take-held.result c.requires.desk.of_lock c.enter-turn.ensures.turn c.enter-turn.ensures.found c.take-held.ensures.turn c.take-held.ensures.list c.take-held.ensures.origin in
    sound_now _ _ _ _ _ _ _ _ c.desks_hold_claims.ensures.parts c.desks_hold_claims.ensures.legal c.histories_leave_one_board.ensures.one c.candidates_stay_sound.ensures.histories c.requires.desk.graph h c.requires.claimed c.requires.fresh.sound

pub leave-requires-clause-list : goal.leave-requires-clause-list
leave-requires-clause-list g c =
    let h = taken_so g.I.FleetIndex.fits c.args.self.now.lock c.args.desk.now c.enter-turn.result.held c.take-held.new.self.held c.take-held.result c.requires.desk.of_lock c.enter-turn.ensures.turn c.enter-turn.ensures.found c.take-held.ensures.turn c.take-held.ensures.list c.take-held.ensures.origin in
    let a = answered_over _ _ _ _ _ _ c.commit-decision.new.self c.number-by.result (λ (x : Decision). entry.Commit c.args.claimed.now.request.no x) c.commit-decision.result h c.requires.desk.graph c.number-by.ensures c.commit-decision.ensures.ok c.commit-decision.ensures.err in
    left_so _ _ _ _ _ _ _ _ h a

pub returns-clause-ok : goal.returns-clause-ok
returns-clause-ok g c =
    let h = taken_so g.I.FleetIndex.fits c.args.self.now.lock c.args.desk.now c.enter-turn.result.held c.take-held.new.self.held c.take-held.result c.requires.desk.of_lock c.enter-turn.ensures.turn c.enter-turn.ensures.found c.take-held.ensures.turn c.take-held.ensures.list c.take-held.ensures.origin in
    let a = answered_over _ _ _ _ _ _ c.commit-decision.new.self c.number-by.result (λ (x : Decision). entry.Commit c.args.claimed.now.request.no x) c.commit-decision.result h c.requires.desk.graph c.number-by.ensures c.commit-decision.ensures.ok c.commit-decision.ensures.err in
    let t = turned _ _ _ _ _ c.commit-decision.new.self.journal.noted c.leave.new.self.0 h c.leave.ensures.desk c.leave.ensures.same c.leave.ensures.more c.leave.ensures.others in
    ok_commits _ _ _ _ _ _ _ _ _ c.args.claimed.now.request c.args.candidates.now _ _ _ h a c.commit-decision.ensures.decided c.commit-decision.ensures.asks t (search rules)

pub returns-clause-err : goal.returns-clause-err
returns-clause-err g c =
    let h = taken_so g.I.FleetIndex.fits c.args.self.now.lock c.args.desk.now c.enter-turn.result.held c.take-held.new.self.held c.take-held.result c.requires.desk.of_lock c.enter-turn.ensures.turn c.enter-turn.ensures.found c.take-held.ensures.turn c.take-held.ensures.list c.take-held.ensures.origin in
    let a = answered_over _ _ _ _ _ _ c.commit-decision.new.self c.number-by.result (λ (x : Decision). entry.Commit c.args.claimed.now.request.no x) c.commit-decision.result h c.requires.desk.graph c.number-by.ensures c.commit-decision.ensures.ok c.commit-decision.ensures.err in
    let t = turned _ _ _ _ _ c.commit-decision.new.self.journal.noted c.leave.new.self.0 h c.leave.ensures.desk c.leave.ensures.same c.leave.ensures.more c.leave.ensures.others in
    err_undecided _ _ _ _ _ _ _ _ _ c.args.claimed.now.request c.args.candidates.now _ _ _ h a c.commit-decision.ensures.asks t (search rules)

pub returns-clause-claimed : goal.returns-clause-claimed
returns-clause-claimed g c =
    let h = taken_so g.I.FleetIndex.fits c.args.self.now.lock c.args.desk.now c.enter-turn.result.held c.take-held.new.self.held c.take-held.result c.requires.desk.of_lock c.enter-turn.ensures.turn c.enter-turn.ensures.found c.take-held.ensures.turn c.take-held.ensures.list c.take-held.ensures.origin in
    let a = answered_over _ _ _ _ _ _ c.commit-decision.new.self c.number-by.result (λ (x : Decision). entry.Commit c.args.claimed.now.request.no x) c.commit-decision.result h c.requires.desk.graph c.number-by.ensures c.commit-decision.ensures.ok c.commit-decision.ensures.err in
    let t = turned _ _ _ _ _ c.commit-decision.new.self.journal.noted c.leave.new.self.0 h c.leave.ensures.desk c.leave.ensures.same c.leave.ensures.more c.leave.ensures.others in
    err_claimed _ _ _ _ _ _ _ _ _ _ _ h a t (search rules) c.requires.claimed

pub returns-clause-desk : goal.returns-clause-desk
returns-clause-desk g c =
    let h = taken_so g.I.FleetIndex.fits c.args.self.now.lock c.args.desk.now c.enter-turn.result.held c.take-held.new.self.held c.take-held.result c.requires.desk.of_lock c.enter-turn.ensures.turn c.enter-turn.ensures.found c.take-held.ensures.turn c.take-held.ensures.list c.take-held.ensures.origin in
    let a = answered_over _ _ _ _ _ _ c.commit-decision.new.self c.number-by.result (λ (x : Decision). entry.Commit c.args.claimed.now.request.no x) c.commit-decision.result h c.requires.desk.graph c.number-by.ensures c.commit-decision.ensures.ok c.commit-decision.ensures.err in
    let t = turned _ _ _ _ _ c.commit-decision.new.self.journal.noted c.leave.new.self.0 h c.leave.ensures.desk c.leave.ensures.same c.leave.ensures.more c.leave.ensures.others in
    desk_left _ _ _ _ _ _ _ _ c.requires.desk t (record_after _ _ _ _ _ _ _ a) (search rules)
