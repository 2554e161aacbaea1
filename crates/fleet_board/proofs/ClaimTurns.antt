use Rattle.std.proofs.Common.{◌≡◌, ℕ, ◌==◌, ◌&&◌, ◌||◌, arith, length, length-append, Bool, true, false, cond, List, [], ◌∷◌, ◌++◌, append_assoc, None, Result, Ok, Err, sym, refl, ap, ◌∙◌, subst}
use Rattle.std.proofs.lemmas.List.{append-nil}
use Rattle.std.specs.Prelude.{IfOk, OnErr}
use Rattle.road_graph.specs.Graphs.{IsGraph}
use Rattle.road_graph.specs.Roads.{Roads}
use Rattle.stop_schedule.specs.declared.request.Request.{Request}
use Rattle.stop_schedule.specs.Fleets.{Cars, Fitting}
use Rattle.insertion_cost.specs.declared.candidates.Candidates.{Candidates}
use Rattle.insertion_cost.specs.declared.decision.Decision.{Decision}
use Rattle.insertion_cost.specs.Candidates.{AreSound}
use Rattle.ride_base.specs.declared.numbers.RequestNo.{RequestNo}
use Rattle.turn_lock.specs.Noted.{Follows, IsLeft, entries_of}
use Rattle.board_core.specs.declared.entry.Entry.{Entry}
use Rattle.board_core.specs.declared.entry.Entry.TheVariants as entry
use Rattle.board_core.specs.BoardCalls.{IsDecisionFor}
use Rattle.board_core.specs.BoardViews.{board_of}
use Rattle.board_core.specs.Boards.{Board, oldest_unheld}
use Rattle.board_core.specs.CandidateLaws.{HistoriesKeepSoundness}
use Rattle.board_core.specs.FleetViews.{cars_of}
use Rattle.board_core.specs.Histories.{Legal}
use Rattle.board_core.specs.NotedHistories.{LegalNoted, ends_claim, entries_in, is_end_of}
use Rattle.board_core.specs.NotedLaws.{ClaimsStay, HistoriesKeepNumbersApart, HistoriesLeaveOneBoard, NotedEntriesAreLegal, NotedHistoriesComeInParts}
use Rattle.board_core.specs.WaitingLaws.{HaveOwnNumbers}
use Rattle.fleet_board.specs.declared.claims.Claim.{Claim}
use Rattle.fleet_board.specs.declared.claims.Claim.TheVariants.{Work, Empty}
use Rattle.fleet_board.specs.declared.claims.Claimed.{Claimed}
use Rattle.fleet_board.specs.declared.recorded.RecordedBoard.{RecordedBoard}
use Rattle.fleet_board.specs.Openings.{IsOpening, Opening}
use Rattle.fleet_board.specs.Records.{AsksFor, ClaimsOn, HasNoted, HasStayed, IsFreshClaim, IsHeldBy, IsRecordOf, StaysOn}
use Rattle.fleet_board.specs.Turns.{Claims, Commits, DeskNow, IsClaimedBy, LeadsTo, Lock, NotesAt, Sees, SeesAt, StaysUndecided}
use Rattle.fleet_board.proofs.Turns.{HasAnswered, HasTaken, HasTurned, Turned, desk_after, left_noted, left_stayed, noted_notes, seen_after, stayed_sees}

-- What desks claimed, and what became of it since.

entries_append : (n : ℕ) (xs ys : List (ℕ × Entry)) → entries_of n (xs ++ ys) ≡ entries_of n xs ++ entries_of n ys
entries_append n [] ys = refl
entries_append n (x ∷ xs) ys = on (x.0 == n) (entries_append n xs ys)
  where
    on : (b : Bool) → entries_of n (xs ++ ys) ≡ entries_of n xs ++ entries_of n ys
        → cond b (x.1 ∷ entries_of n (xs ++ ys)) (entries_of n (xs ++ ys)) ≡ cond b (x.1 ∷ entries_of n xs) (entries_of n xs) ++ entries_of n ys
    on true h = ap (λ (l : List Entry). x.1 ∷ l) h
    on false h = h

nothing_more : (xs ys : List Entry) → xs ++ ys ≡ xs → ys ≡ []
nothing_more xs [] h = refl
nothing_more xs (y ∷ ys) h = absurd (let l = length-append xs (y ∷ ys) in let e : length (xs ++ y ∷ ys) ≡ length xs = ap (λ (l : List Entry). length l) h in omega (arith, l, e))

ends_none : (n : ℕ) (number : RequestNo) (rest : List (ℕ × Entry)) → entries_of n rest ≡ [] → ends_claim n number rest ≡ false
ends_none n number [] h = refl
ends_none n number (x ∷ rest) h = on (x.0 == n) h (ends_none n number rest)
  where
    on : (b : Bool) → cond b (x.1 ∷ entries_of n rest) (entries_of n rest) ≡ [] → (entries_of n rest ≡ [] → ends_claim n number rest ≡ false) → ((b && is_end_of number x.1) || ends_claim n number rest) ≡ false
    on true h next = cc
    on false h next = next h

ends_append : (n : ℕ) (number : RequestNo) (xs ys : List (ℕ × Entry)) → ends_claim n number xs ≡ false → ends_claim n number ys ≡ false → ends_claim n number (xs ++ ys) ≡ false
ends_append n number [] ys h k = k
ends_append n number (x ∷ xs) ys h k = on ((x.0 == n) && is_end_of number x.1) h (λ h. ends_append n number xs ys h k)
  where
    on : (b : Bool) → (b || ends_claim n number xs) ≡ false → (ends_claim n number xs ≡ false → ends_claim n number (xs ++ ys) ≡ false) → (b || ends_claim n number (xs ++ ys)) ≡ false
    on true h next = cc
    on false h next = next h

-- a claim, in a list that a later turn of the desk found
record StandsIn {I : Type 0} (lock : Lock) (desk : DeskNow) (claimed : Claimed I) (list : List (ℕ × Entry)) : Type 0 where
  pub before : List (ℕ × Entry)
  pub since : List (ℕ × Entry)
  pub board : Board
  pub parts : list ≡ before ++ since
  pub legal : LeadsTo lock before board
  pub held : IsHeldBy board desk.number claimed.request
  pub fleet : cars_of claimed.snapshot ≡ board.fleet
  pub stays : ends_claim desk.number claimed.request.no since ≡ false

stands_in : {I : Type 0} (lock : Lock) (desk : DeskNow) (claimed : Claimed I) (list : List (ℕ × Entry)) → IsClaimedBy lock desk claimed → Follows desk.number desk.family desk.seen list → StandsIn lock desk claimed list
stands_in lock desk claimed list is found =
    let rest = found.begins.0 in
    let whole : list ≡ desk.seen ++ rest = found.begins.1 in
    let mine : entries_of desk.number desk.seen ++ entries_of desk.number rest ≡ entries_of desk.number desk.seen =
    sym (entries_append desk.number desk.seen rest) ∙ ap (entries_of desk.number) (sym whole) ∙ found.own in
    let none : entries_of desk.number rest ≡ [] = nothing_more (entries_of desk.number desk.seen) (entries_of desk.number rest) mine in
    record {
      before = is.before;
      since = is.since ++ rest;
      board = is.board;
      parts = whole ∙ ap (λ (l : List (ℕ × Entry)). l ++ rest) is.parts ∙ append_assoc is.before is.since rest;
      legal = is.legal;
      held = is.held;
      fleet = is.fleet;
      stays = ends_append desk.number claimed.request.no is.since rest is.stays (ends_none desk.number claimed.request.no rest none);
    }

-- the board of the claim, and what came since
claim_parts : {I : Type 0} (lock : Lock) (desk : DeskNow) (claimed : Claimed I) (list : List (ℕ × Entry)) (now : Board) → NotedHistoriesComeInParts → NotedEntriesAreLegal → HistoriesLeaveOneBoard
    → (s : StandsIn lock desk claimed list) → LeadsTo lock list now → LegalNoted lock.origin.graph s.board s.since now
claim_parts lock desk claimed list now parts entries one s led =
    let p = parts lock.origin.graph lock.origin.board s.before s.since now (subst (λ (l : List (ℕ × Entry)). LeadsTo lock l now) s.parts led) in
    let same : p.0 ≡ s.board = one lock.origin.graph lock.origin.board (entries_in s.before) p.0 s.board (entries lock.origin.graph lock.origin.board s.before p.0 p.1) (entries lock.origin.graph lock.origin.board s.before s.board s.legal) in
    subst (λ (b : Board). LegalNoted lock.origin.graph b s.since now) same p.2

none_waits : (o : Opening) → IsOpening o → HaveOwnNumbers o.board.waiting
none_waits o is = subst (λ (b : Board). HaveOwnNumbers b.waiting) (sym is.board) tt

claim_held : {I : Type 0} (lock : Lock) (desk : DeskNow) (claimed : Claimed I) (list : List (ℕ × Entry)) (now : Board) → NotedHistoriesComeInParts → NotedEntriesAreLegal → HistoriesLeaveOneBoard → HistoriesKeepNumbersApart → ClaimsStay
    → IsOpening lock.origin → StandsIn lock desk claimed list → LeadsTo lock list now → IsHeldBy now desk.number claimed.request
claim_held lock desk claimed list now parts entries one apart stay opening s led =
    stay lock.origin.graph s.board s.since now claimed.request desk.number (claim_parts lock desk claimed list now parts entries one s led)
    (apart lock.origin.graph lock.origin.board (entries_in s.before) s.board (entries lock.origin.graph lock.origin.board s.before s.board s.legal) (none_waits lock.origin opening))
    s.held s.stays

claim_sound : {I : Type 0} (lock : Lock) (desk : DeskNow) (claimed : Claimed I) (list : List (ℕ × Entry)) (now : Board) (c : Candidates) → NotedHistoriesComeInParts → NotedEntriesAreLegal → HistoriesLeaveOneBoard → HistoriesKeepSoundness
    → IsGraph lock.origin.graph → IsOpening lock.origin → StandsIn lock desk claimed list → LeadsTo lock list now → AreSound lock.origin.graph (cars_of claimed.snapshot) claimed.request c → AreSound lock.origin.graph now.fleet claimed.request c
claim_sound lock desk claimed list now c parts entries one sound graph opening s led is =
    sound lock.origin.graph lock.origin.board.fleet.rates opening.vehicles (entries_in s.before) (entries_in s.since) s.board now claimed.request c graph opening.are
    (subst (λ (b : Board). Legal lock.origin.graph b (entries_in s.before) s.board) opening.board (entries lock.origin.graph lock.origin.board s.before s.board s.legal))
    (entries lock.origin.graph s.board s.since now (claim_parts lock desk claimed list now parts entries one s led))
    (subst (λ (f : Cars). AreSound lock.origin.graph f claimed.request c) s.fleet is)

stands_now : {I : Type 0} (fits : I → Fitting) (lock : Lock) (old : DeskNow) (turn : Turned) (v : RecordedBoard I) (claimed : Claimed I) → HasTaken fits lock old turn v → IsClaimedBy lock old claimed → StandsIn lock old claimed v.journal.noted
stands_now fits lock old turn v claimed h is = stands_in lock old claimed v.journal.noted is (subst (λ (l : List (ℕ × Entry)). Follows old.number old.family old.seen l) (sym h.list) h.found)

still_claimed : {I : Type 0} (lock : Lock) (old new : DeskNow) (turn : Turned) (after : List (ℕ × Entry)) (claimed : Claimed I) → HasTurned old turn after new → after ≡ turn.list → IsClaimedBy lock old claimed → IsClaimedBy lock new claimed
still_claimed {I = I} lock old new turn after claimed t same is =
    let s = stands_in lock old claimed turn.list is t.found in
    let n : new.number ≡ old.number = ap (λ (d : DeskNow). d.number) (desk_after old turn after new t) in
    record {
      before = s.before;
      since = s.since;
      board = s.board;
      parts = seen_after old turn after new t ∙ same ∙ s.parts;
      legal = s.legal;
      held = subst (λ (k : ℕ). IsHeldBy s.board k claimed.request) (sym n) s.held;
      fleet = s.fleet;
      stays = subst (λ (k : ℕ). ends_claim k claimed.request.no s.since ≡ false) (sym n) s.stays;
    }

-- in a turn of the desk it still holds the request, and sound candidates are still sound
pub held_now : {I : Type 0} (fits : I → Fitting) (lock : Lock) (old : DeskNow) (turn : Turned) (v : RecordedBoard I) (claimed : Claimed I) (desk : ℕ) → NotedHistoriesComeInParts → NotedEntriesAreLegal → HistoriesLeaveOneBoard
    → HistoriesKeepNumbersApart → ClaimsStay → HasTaken fits lock old turn v → desk ≡ old.number → IsClaimedBy lock old claimed → IsHeldBy (board_of v.board) desk claimed.request
held_now fits lock old turn v claimed desk parts entries one apart stay h by is =
    subst (λ (n : ℕ). IsHeldBy (board_of v.board) n claimed.request) (sym by)
    (claim_held lock old claimed v.journal.noted (board_of v.board) parts entries one apart stay h.of.opening (stands_now fits lock old turn v claimed h is) h.of.legal)

pub sound_now : {I : Type 0} (fits : I → Fitting) (g : Roads) (lock : Lock) (old : DeskNow) (turn : Turned) (v : RecordedBoard I) (claimed : Claimed I) (c : Candidates) → NotedHistoriesComeInParts → NotedEntriesAreLegal
    → HistoriesLeaveOneBoard → HistoriesKeepSoundness → lock.origin.graph ≡ g → HasTaken fits lock old turn v → IsClaimedBy lock old claimed → AreSound g (cars_of claimed.snapshot) claimed.request c
    → AreSound g (board_of v.board).fleet claimed.request c
sound_now fits g lock old turn v claimed c parts entries one sound same h is fresh =
    subst (λ (k : Roads). AreSound k (board_of v.board).fleet claimed.request c) same
    (claim_sound lock old claimed v.journal.noted (board_of v.board) c parts entries one sound h.of.graph h.of.opening (stands_now fits lock old turn v claimed h is) h.of.legal
    (subst (λ (k : Roads). AreSound k (cars_of claimed.snapshot) claimed.request c) (sym same) fresh))

-- a desk that made no entry still has its claim
pub err_claimed : {I T E : Type 0} (fits : I → Fitting) (lock : Lock) (old new exit : DeskNow) (turn : Turned) (v w : RecordedBoard I) (claimed : Claimed I) (entry_of : T → Entry) (r : Result T E) → HasTaken fits lock old turn v
    → HasAnswered fits lock.origin v w old.number entry_of r → HasTurned old turn w.journal.noted new → exit ≡ new → IsClaimedBy lock old claimed → OnErr r (IsClaimedBy lock exit claimed)
err_claimed fits lock old new exit turn v w claimed entry_of (Ok x) h a t same is = tt
err_claimed fits lock old new exit turn v w claimed entry_of (Err y) h a t same is =
    subst (λ (d : DeskNow). IsClaimedBy lock d claimed) (sym same) (still_claimed lock old new turn w.journal.noted claimed t (a.err.noted ∙ h.list) is)

-- what was just claimed
just_claimed : {I : Type 0} (fits : I → Fitting) (lock : Lock) (old new : DeskNow) (claimed : Claimed I) (before after : Board) → NotesAt lock old new (entry.Claim claimed.request.no old.number) before after
    → IsFreshClaim fits lock.origin.graph after old.number claimed → IsClaimedBy lock new claimed
just_claimed fits lock old new claimed before after notes fresh =
    let n : new.number ≡ old.number = ap (λ (d : DeskNow). d.number) notes.desk in
    record {
      before = new.seen;
      since = [];
      board = after;
      parts = sym (append-nil new.seen);
      legal = notes.legal;
      held = subst (λ (k : ℕ). IsHeldBy after k claimed.request) (sym n) fresh.held;
      fleet = fresh.fleet;
      stays = refl;
    }

-- ---- calls that claim

-- what a call that asks for a claim made of the record, from one opening
abbrev ClaimsAt : {I : Type 0} → (I → Fitting) → Opening → RecordedBoard I → ℕ → Claim I → RecordedBoard I → Type 0
ClaimsAt fits o v desk (Work claimed) w = HasNoted fits o v desk (entry.Claim claimed.request.no desk) w × IsFreshClaim fits o.graph (board_of w.board) desk claimed
ClaimsAt fits o v desk (Empty closed) w = HasStayed fits o v w × (oldest_unheld (board_of w.board) ≡ None) × (closed ≡ (board_of w.board).closed)

pub record HasClaimed {I E : Type 0} (fits : I → Fitting) (o : Opening) (v w : RecordedBoard I) (desk : ℕ) (r : Result (Claim I) E) : Type 0 where
  pub ok : IfOk r (λ (x : Claim I). ClaimsAt fits o v desk x w)
  pub err : OnErr r (HasStayed fits o v w)

pub claimed_so : {I E : Type 0} (fits : I → Fitting) (lock : Lock) (old : DeskNow) (turn : Turned) (v w : RecordedBoard I) (desk : ℕ) (r : Result (Claim I) E) → HasTaken fits lock old turn v → desk ≡ old.number
    → IfOk r (λ (x : Claim I). ClaimsOn fits v desk x w) → OnErr r (StaysOn fits v w) → HasClaimed fits lock.origin v w old.number r
claimed_so {I = I} fits lock old turn v w desk (Ok (Work claimed)) h by ok err =
    record { ok = subst (λ (n : ℕ). ClaimsOn fits v n (Work claimed) w) by ok lock.origin h.of; err = tt }
claimed_so fits lock old turn v w desk (Ok (Empty closed)) h by ok err = record { ok = ok lock.origin h.of; err = tt }
claimed_so fits lock old turn v w desk (Err y) h by ok err = record { ok = tt; err = err lock.origin h.of }

pub left_claimed : {I E : Type 0} (fits : I → Fitting) (lock : Lock) (old : DeskNow) (turn : Turned) (v w : RecordedBoard I) (r : Result (Claim I) E) → HasTaken fits lock old turn v → HasClaimed fits lock.origin v w old.number r
    → IsLeft turn.desk.number turn.list w.journal.noted
left_claimed fits lock old turn v w (Ok (Work claimed)) h a = left_noted fits lock old turn v w (entry.Claim claimed.request.no old.number) h a.ok.0
left_claimed fits lock old turn v w (Ok (Empty closed)) h a = left_stayed fits lock old turn v w h a.ok.0
left_claimed fits lock old turn v w (Err y) h a = left_stayed fits lock old turn v w h a.err

pub ok_claims : {I E : Type 0} (fits : I → Fitting) (g : Roads) (lock : Lock) (old new exit : DeskNow) (turn : Turned) (v w : RecordedBoard I) (r : Result (Claim I) E) → lock.origin.graph ≡ g → HasTaken fits lock old turn v
    → HasClaimed fits lock.origin v w old.number r → HasTurned old turn w.journal.noted new → exit ≡ new → IfOk r (λ (x : Claim I). Claims fits g lock old x exit)
ok_claims fits g lock old new exit turn v w (Ok (Work claimed)) over h a t same =
    let notes = noted_notes fits lock old new exit turn v w (entry.Claim claimed.request.no old.number) h t a.ok.0 same in
    (board_of v.board, board_of w.board, notes, subst (λ (k : Roads). IsFreshClaim fits k (board_of w.board) old.number claimed) over a.ok.1, just_claimed fits lock old exit claimed (board_of v.board) (board_of w.board) notes a.ok.1)
ok_claims fits g lock old new exit turn v w (Ok (Empty closed)) over h a t same =
    (board_of w.board, stayed_sees fits lock old new exit turn v w h t a.ok.0 same, a.ok.1, a.ok.2)
ok_claims fits g lock old new exit turn v w (Err y) over h a t same = tt

pub err_unclaimed : {I E : Type 0} (fits : I → Fitting) (lock : Lock) (old new exit : DeskNow) (turn : Turned) (v w : RecordedBoard I) (r : Result (Claim I) E) → HasTaken fits lock old turn v → HasClaimed fits lock.origin v w old.number r
    → HasTurned old turn w.journal.noted new → exit ≡ new → OnErr r (Sees lock old exit)
err_unclaimed fits lock old new exit turn v w (Ok x) h a t same = tt
err_unclaimed fits lock old new exit turn v w (Err y) h a t same = (board_of w.board, stayed_sees fits lock old new exit turn v w h t a.err same)

pub record_claimed : {I E : Type 0} (fits : I → Fitting) (o : Opening) (v w : RecordedBoard I) (desk : ℕ) (r : Result (Claim I) E) → HasClaimed fits o v w desk r → IsRecordOf fits o w
record_claimed fits o v w desk (Ok (Work claimed)) a = a.ok.0.of
record_claimed fits o v w desk (Ok (Empty closed)) a = a.ok.0.of
record_claimed fits o v w desk (Err y) a = a.err.of

-- ---- calls that answer a claim

pub ok_commits : {I E : Type 0} (fits : I → Fitting) (g : Roads) (lock : Lock) (old new exit : DeskNow) (turn : Turned) (v w : RecordedBoard I) (request : Request) (c : Candidates) (asked asks : ℕ) (r : Result Decision E)
    → HasTaken fits lock old turn v → HasAnswered fits lock.origin v w old.number (λ (d : Decision). entry.Commit request.no d) r → IfOk r (IsDecisionFor g (board_of v.board).fleet request)
    → AsksFor g (board_of v.board).fleet request c asked asks → HasTurned old turn w.journal.noted new → exit ≡ new → IfOk r (λ (d : Decision). Commits g lock old request c d asked asks exit)
ok_commits fits g lock old new exit turn v w request c asked asks (Ok d) h a decided bound t same =
    (board_of v.board, board_of w.board, noted_notes fits lock old new exit turn v w (entry.Commit request.no d) h t a.ok same, decided, bound)
ok_commits fits g lock old new exit turn v w request c asked asks (Err y) h a decided bound t same = tt

pub err_undecided : {I E : Type 0} (fits : I → Fitting) (g : Roads) (lock : Lock) (old new exit : DeskNow) (turn : Turned) (v w : RecordedBoard I) (request : Request) (c : Candidates) (asked asks : ℕ) (r : Result Decision E)
    → HasTaken fits lock old turn v → HasAnswered fits lock.origin v w old.number (λ (d : Decision). entry.Commit request.no d) r → AsksFor g (board_of v.board).fleet request c asked asks
    → HasTurned old turn w.journal.noted new → exit ≡ new → OnErr r (StaysUndecided g lock old request c asked asks exit)
err_undecided fits g lock old new exit turn v w request c asked asks (Ok d) h a bound t same = tt
err_undecided fits g lock old new exit turn v w request c asked asks (Err y) h a bound t same =
    (board_of v.board, subst (λ (b : Board). SeesAt lock old exit b) a.err.board (stayed_sees fits lock old new exit turn v w h t a.err same), bound)
