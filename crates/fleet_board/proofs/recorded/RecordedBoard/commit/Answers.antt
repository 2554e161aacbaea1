use Rattle.std.proofs.Common.{◌≡◌, ◌++◌, ◌∷◌, [], sym, ap, ◌∙◌, subst}
use Rattle.board_core.specs.declared.entry.Entry.TheVariants as entry
use Rattle.board_core.specs.BoardViews.{board_of}
use Rattle.road_graph.specs.Roads.{Roads}
use Rattle.board_core.specs.Steps.{Step}
use Rattle.insertion_cost.specs.declared.decision.Decision.{Decision}
use Rattle.insertion_cost.specs.Pricers.{IsRequestIn}
use Rattle.fleet_board.proofs.Records.{early_commit, held_request_in, no_other, noted_so, owed_commit, owes_held}
use Rattle.fleet_board.proofs.recorded.RecordedBoard.commit.Goals as goal

pub settle_among-requires-clause-request : goal.settle_among-requires-clause-request
settle_among-requires-clause-request g c =
    let is = c.requires.record_ in
    subst (λ (h : Roads). IsRequestIn h c.args.request.now) is.1
    (held_request_in is.0.graph (board_of c.args.self.now.board) c.args.request.now c.args.desk c.requests_wait_once.ensures.accepted is.2.nodes c.requires.held)

pub answer_with_copy-requires-clause-request : goal.answer_with_copy-requires-clause-request
answer_with_copy-requires-clause-request g c =
    let is = c.requires.record_ in
    subst (λ (h : Roads). IsRequestIn h c.args.request.now) is.1
    (held_request_in is.0.graph (board_of c.args.self.now.board) c.args.request.now c.args.desk c.requests_wait_once.ensures.accepted is.2.nodes c.requires.held)

pub note_owed-requires : goal.note_owed-requires
note_owed-requires g c = owes_held (board_of c.args.self.now.board) c.args.request.now c.args.desk c.args.self.now.journal.owed c.requires.held c.requires.record_.2.owed

pub returns-clause-ok : goal.returns-clause-ok
returns-clause-ok g c = λ o same is.
    let old = board_of c.args.self.now.board in
    let new = board_of c.answer_with_copy.new.self in
    let d = c.in_ok-told.told in
    let alike : c.in_ok-noted.noted ≡ d = c.in_ok-noted.ensures.told ∙ sym c.in_ok-told.ensures in
    let step = subst (λ (x : Decision). Step o.graph old (entry.Commit c.args.request.now.no x) new) alike
    (subst (λ (h : Roads). Step h old (entry.Commit c.args.request.now.no c.in_ok-noted.noted) new) (sym same) c.in_ok-noted.ensures.entry) in
    noted_so g.I.FleetIndex.fits o c.args.self.now _ c.args.desk (entry.Commit c.args.request.now.no d) c.goes_on.ensures is (early_commit c.args.request.now.no d) (no_other old c.args.request.now c.args.desk c.requires.held) step
    (c.note_owed.ensures.noted ∙ ap (λ (x : Decision). c.args.self.now.journal.noted ++ (c.args.desk, entry.Commit c.args.request.now.no x) ∷ []) alike)
    (c.in_ok-noted.ensures.index o.graph is.nodes is.good.1)
    (owed_commit o.graph old new c.args.request.now d c.args.desk c.args.self.now.journal.owed _ c.requires.held step is.owed c.note_owed.ensures.owed)
