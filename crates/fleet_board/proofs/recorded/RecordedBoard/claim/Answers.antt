use Rattle.std.proofs.Common.{ℕ, ◌+◌, ◌≤◌, List, ◌++◌, ◌∷◌, [], sym, refl, ap, ◌∙◌, subst}
use Rattle.board_core.specs.declared.entry.Entry.{Entry}
use Rattle.board_core.specs.declared.entry.Entry.TheVariants as entry
use Rattle.board_core.specs.BoardViews.{board_of}
use Rattle.fleet_board.specs.Journals.{owed_on}
use Rattle.fleet_board.proofs.Records.{claimed_at, fleet_at, fresh_claim, noted_request, owed_claim}
use Rattle.fleet_board.proofs.recorded.RecordedBoard.claim.Goals as goal

pub returns-in-Some-clause-ok : goal.returns-in-Some-clause-ok
returns-in-Some-clause-ok g c = λ o is.
    let old = board_of c.args.self.now.board in
    let new = board_of c.claim_with_fleet.new.self in
    let by = claimed_at old new c.args.desk _ c.in-Some.request c.in-Some.snapshot c.in-Some.is c.in_ok-claim_with_fleet.ensures.value in
    let same = fleet_at c.claim_with_fleet.new.self.fleet _ c.in-Some.request c.in-Some.snapshot c.in-Some.is c.in_ok-claim_with_fleet.ensures.fleet in
    let e : Entry = entry.Claim c.in-Some.request.no c.args.desk in
    let noted = noted_request g.I.FleetIndex.fits o c.args.self.now (record { board = c.claim_with_fleet.new.self; journal = c.note_claim.new.self }) c.args.desk e c.goes_on.ensures is tt refl (by.3 o.graph)
    (c.note_claim.ensures.noted ∙ ap (λ (l : List (ℕ × Entry)). l ++ (c.args.desk, e) ∷ []) c.reserve.ensures.noted)
    c.claim_with_fleet.ensures.index
    (subst (λ (n : ℕ). owed_on new ≤ n) (sym (c.note_claim.ensures.owed ∙ ap (λ (n : ℕ). n + 1) c.reserve.ensures.owed))
    (owed_claim o.graph old new c.in-Some.request.no c.args.desk c.args.self.now.journal.owed c.requests_wait_once.ensures.apart (by.3 o.graph) is.owed)) in (
      noted,
      fresh_claim g.I.FleetIndex.fits o c.args.self.now (record { board = c.claim_with_fleet.new.self; journal = c.note_claim.new.self }) c.args.desk (record { request = c.in-Some.request; snapshot = c.in-Some.snapshot })
          c.desks_hold_claims.ensures.held c.requests_wait_once.ensures.once c.requests_wait_once.ensures.accepted is noted.of by same,
    )
