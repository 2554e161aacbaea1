use Rattle.std.proofs.Common.{◌≡◌, ℕ, suc, Bool, true, false, cond, ◌&&◌, ◌||◌, ◌==◌, List, [], ◌∷◌, ◌++◌, Option, Some, None, sym, refl, ap, ◌∙◌, subst}
use mathlib.Core.Bool.{true≢false}
use Rattle.std.specs.Prelude.{slice_get, IfSome}
use Rattle.std.specs.Option.{unwrap_or}
use Rattle.std.proofs.lemmas.Bool.{eq-eqb}
use Rattle.std.proofs.lemmas.Option.{same_Some}
use Rattle.ride_base.specs.declared.numbers.RequestNo.{RequestNo}
use Rattle.road_graph.specs.Roads.{Roads}
use Rattle.stop_schedule.specs.declared.request.Request.{Request}
use Rattle.insertion_cost.specs.declared.decision.Decision.{Decision}
use Rattle.insertion_cost.specs.declared.decision.Decision.TheVariants.{Assigned as IsAssigned, Nobody}
use Rattle.board_core.specs.declared.entry.Advanced.TheVariants.{Moved, Back as Behind}
use Rattle.board_core.specs.declared.entry.Cancelled.TheVariants.{Removed, Refused as Declined}
use Rattle.board_core.specs.declared.entry.Entry.{Entry}
use Rattle.board_core.specs.declared.entry.Entry.TheVariants.{Submit, Claim, Back, Commit, Advance, Cancel, Shut}
use Rattle.board_core.specs.declared.entry.Submitted.TheVariants.{Accepted, Refused}
use Rattle.board_core.specs.Boards.{Board, Waiting, is_number, is_unheld, waiting_in, waiting_of, with_holder, without}
use Rattle.board_core.specs.NotedHistories.{IsNotedBy, LegalNoted, NoOtherHolds, claim_told, ends_claim, holder_in, holder_of, holds_after, holds_next, is_end_of}
use Rattle.board_core.specs.NotedLaws.{ClaimsAreHeld, ClaimsStay, ClosedBoardsWereShut, HoldersHoldClaims, NotedEntriesAreLegal, NotedHistoriesComeInParts, NotedHistoriesGoOn}
use Rattle.board_core.specs.Steps.{Step}
use Rattle.board_core.specs.WaitingLaws.{HaveOwnNumbers}
use Rattle.board_core.proofs.Lookups.{found}
use Rattle.board_core.proofs.Numbers.{appended, held_none, held_now, held_other, is_itself, left_none, left_other, oldest_apart, same_number, step_apart}

-- Claims, as entries are made.

pub noted_legal : NotedEntriesAreLegal
noted_legal g first [] last legal = legal
noted_legal g first (e ∷ noted) last legal = (legal.0, legal.2, noted_legal g legal.0 noted last legal.3)

pub noted_goes_on : NotedHistoriesGoOn
noted_goes_on g first [] more middle last before after = subst (λ (b : Board). LegalNoted g b more last) before after
noted_goes_on g first (e ∷ noted) more middle last before after = (before.0, before.1, before.2, noted_goes_on g before.0 noted more middle last before.3 after)

pub noted_parts : NotedHistoriesComeInParts
noted_parts g first [] more last legal = (first, refl, legal)
noted_parts g first (e ∷ noted) more last legal =
    let r = noted_parts g legal.0 noted more last legal.3 in
    (r.0, (legal.0, legal.1, legal.2, r.1), r.2)

-- ---- a board that is closed

abbrev pub WasShut : List Entry → Type 0
WasShut history = (k : ℕ) × (slice_get history k ≡ Some Shut)

later_shut : (e : Entry) (history : List Entry) → WasShut history → WasShut (e ∷ history)
later_shut e history h = (suc h.0, h.1)

-- an entry closes the board, or leaves it as it was
step_closed : (g : Roads) (old : Board) (e : Entry) (new : Board) → Step g old e new → (e ≡ Shut → ⊥) → new.closed ≡ old.closed
step_closed g old (Submit q Accepted) new step other = ap (λ (b : Board). b.closed) step.1
step_closed g old (Submit q (Refused reason)) new step other = ap (λ (b : Board). b.closed) step.1
step_closed g old (Claim number desk) new step other = ap (λ (b : Board). b.closed) step.3
step_closed g old (Back number) new step other = ap (λ (b : Board). b.closed) step.3
step_closed g old (Commit number (IsAssigned a)) new step other = ap (λ (b : Board). b.closed) step.leads_to
step_closed g old (Commit number Nobody) new step other = ap (λ (b : Board). b.closed) step.leads_to
step_closed g old (Advance now (Moved served)) new step other = ap (λ (b : Board). b.closed) step.2
step_closed g old (Advance now (Behind clock)) new step other = ap (λ (b : Board). b.closed) step.2
step_closed g old (Cancel number (Removed x)) new step other = ap (λ (b : Board). b.closed) step.leads_to
step_closed g old (Cancel number (Declined reason)) new step other = ap (λ (b : Board). b.closed) step.1
step_closed g old Shut new step other = absurd (other refl)

pub closed_shut : ClosedBoardsWereShut
closed_shut g first [] last legal opened closed = absurd (true≢false (sym closed ∙ ap (λ (b : Board). b.closed) legal ∙ opened))
closed_shut g first (Shut ∷ history) last legal opened closed = (0, refl)
closed_shut g first (Submit q s ∷ history) last legal opened closed = later_shut _ history (closed_shut g legal.0 history last legal.2 (step_closed g first (Submit q s) legal.0 legal.1 (λ e. cc) ∙ opened) closed)
closed_shut g first (Claim n d ∷ history) last legal opened closed = later_shut _ history (closed_shut g legal.0 history last legal.2 (step_closed g first (Claim n d) legal.0 legal.1 (λ e. cc) ∙ opened) closed)
closed_shut g first (Back n ∷ history) last legal opened closed = later_shut _ history (closed_shut g legal.0 history last legal.2 (step_closed g first (Back n) legal.0 legal.1 (λ e. cc) ∙ opened) closed)
closed_shut g first (Commit n d ∷ history) last legal opened closed = later_shut _ history (closed_shut g legal.0 history last legal.2 (step_closed g first (Commit n d) legal.0 legal.1 (λ e. cc) ∙ opened) closed)
closed_shut g first (Advance n d ∷ history) last legal opened closed = later_shut _ history (closed_shut g legal.0 history last legal.2 (step_closed g first (Advance n d) legal.0 legal.1 (λ e. cc) ∙ opened) closed)
closed_shut g first (Cancel n d ∷ history) last legal opened closed = later_shut _ history (closed_shut g legal.0 history last legal.2 (step_closed g first (Cancel n d) legal.0 legal.1 (λ e. cc) ∙ opened) closed)

-- ---- a claim is held, and stays

pub claims_held : ClaimsAreHeld
claims_held g old w desk new once oldest step =
    let stood = found is_unheld old.waiting w oldest in
    ap (λ (b : Board). waiting_of b w.request.no) step.3 ∙ held_now old.waiting w.request.no (Some desk) w (once stood.0 w stood.1)

-- a request that a desk holds
abbrev pub held_at : Request → ℕ → Waiting
held_at r desk = record { request = r; holder = Some desk }

-- an entry of another desk, or one that doesn't end the claim, leaves it
abbrev ends : ℕ → RequestNo → ℕ × Entry → Bool
ends desk number e = (e.0 == desk) && is_end_of number e.1

by_holder : (old : Board) (n : RequestNo) (by : ℕ) (r : Request) (desk : ℕ) → NoOtherHolds old by n → waiting_of old r.no ≡ Some (held_at r desk) → r.no ≡ n
    → ((by == desk) && is_number n r.no) ≡ false → ⊥
by_holder old n by r desk held h same ends =
    let here : waiting_of old n ≡ Some (held_at r desk) = subst (λ (m : RequestNo). waiting_of old m ≡ Some (held_at r desk)) same h in
    let is : desk ≡ by = subst (λ (o : Option Waiting). IfSome (holder_in o) (λ (k : ℕ). k ≡ by)) here held in
    let one : (by == desk) ≡ true = eq-eqb by desk (sym is) in
    let two : is_number n r.no ≡ true = subst (λ (m : RequestNo). is_number n m ≡ true) (sym same) (is_itself n) in
    true≢false (sym (ap (λ (b : Bool). b && is_number n r.no) one ∙ two) ∙ ends)

step_stays : (g : Roads) (old : Board) (e : Entry) (by : ℕ) (new : Board) (r : Request) (desk : ℕ) → IsNotedBy old by e → Step g old e new → HaveOwnNumbers old.waiting
    → waiting_of old r.no ≡ Some (held_at r desk) → ends desk r.no (by, e) ≡ false → waiting_of new r.no ≡ Some (held_at r desk)
step_stays g old (Submit q Accepted) by new r desk noted step own h apart =
    ap (λ (b : Board). waiting_of b r.no) step.1 ∙ appended old.waiting (record { request = q; holder = None }) (held_at r desk) r.no h
step_stays g old (Submit q (Refused reason)) by new r desk noted step own h apart = ap (λ (b : Board). waiting_of b r.no) step.1 ∙ h
step_stays g old (Claim number other) by new r desk noted step own h apart =
    ap (λ (b : Board). waiting_of b r.no) step.3
    ∙ held_other old.waiting number r.no (Some other) (λ e. oldest_apart old.waiting step.0 r desk own step.1 h (e ∙ sym step.2)) ∙ h
step_stays g old (Back number) by new r desk noted step own h apart =
    ap (λ (b : Board). waiting_of b r.no) step.3 ∙ held_other old.waiting number r.no None (λ e. by_holder old number by r desk noted h e apart) ∙ h
step_stays g old (Commit number (IsAssigned a)) by new r desk noted step own h apart =
    ap (λ (b : Board). waiting_of b r.no) step.leads_to ∙ left_other old.waiting number r.no (λ e. by_holder old number by r desk noted h e apart) ∙ h
step_stays g old (Commit number Nobody) by new r desk noted step own h apart =
    ap (λ (b : Board). waiting_of b r.no) step.leads_to ∙ left_other old.waiting number r.no (λ e. by_holder old number by r desk noted h e apart) ∙ h
step_stays g old (Advance now (Moved served)) by new r desk noted step own h apart = ap (λ (b : Board). waiting_of b r.no) step.2 ∙ h
step_stays g old (Advance now (Behind clock)) by new r desk noted step own h apart = ap (λ (b : Board). waiting_of b r.no) step.2 ∙ h
step_stays g old (Cancel number (Removed x)) by new r desk noted step own h apart = ap (λ (b : Board). waiting_of b r.no) step.leads_to ∙ h
step_stays g old (Cancel number (Declined reason)) by new r desk noted step own h apart = ap (λ (b : Board). waiting_of b r.no) step.1 ∙ h
step_stays g old Shut by new r desk noted step own h apart = ap (λ (b : Board). waiting_of b r.no) step.1 ∙ h

both_false : (a b : Bool) → (a || b) ≡ false → (a ≡ false) × (b ≡ false)
both_false true b h = cc
both_false false b h = (refl, h)

pub claims_stay : ClaimsStay
claims_stay g first [] last r desk legal own h apart = ap (λ (b : Board). waiting_of b r.no) legal ∙ h
claims_stay g first (e ∷ noted) last r desk legal own h apart =
    let p = both_false (ends desk r.no e) (ends_claim desk r.no noted) apart in
    claims_stay g legal.0 noted last r desk legal.3 (step_apart g first e.1 legal.0 legal.2 own) (step_stays g first e.1 e.0 legal.0 r desk legal.1 legal.2 own h p.0) p.1

-- ---- holders hold their claims

-- where a desk holds the number, it held it before, or the entry says so
abbrev Tells : Board → Board → ℕ → ℕ → RequestNo → Entry → Type 0
Tells old new by desk n e = (held : Bool) → (holder_of old n ≡ Some desk → held ≡ true) → holder_of new n ≡ Some desk → holds_next held desk n (by, e) ≡ true

same_holder : (old new : Board) (by desk : ℕ) (n : RequestNo) (e : Entry) → claim_told n e ≡ None → (holder_of new n ≡ Some desk → holder_of old n ≡ Some desk) → Tells old new by desk n e
same_holder old new by desk n e told same held before now = on (by == desk)
  where
    on : (b : Bool) → cond b (unwrap_or (claim_told n e) held) held ≡ true
    on true = ap (λ o. unwrap_or o held) told ∙ before (same now)
    on false = before (same now)

by_waiting : (old new : Board) (n : RequestNo) (desk : ℕ) → waiting_of new n ≡ waiting_of old n → holder_of new n ≡ Some desk → holder_of old n ≡ Some desk
by_waiting old new n desk e h = ap holder_in (sym e) ∙ h

is_none : (n m : RequestNo) (o : Bool) → (n ≡ m → ⊥) → cond (is_number n m) (Some o) None ≡ None
is_none n m o apart = on (is_number n m) refl
  where
    on : (b : Bool) → is_number n m ≡ b → cond b (Some o) None ≡ None
    on true e = absurd (apart (same_number n m e))
    on false e = refl

-- one that nobody holds
submitted_holder : (xs : List Waiting) (q : Request) (n : RequestNo) (desk : ℕ) → holder_in (waiting_in (xs ++ record { request = q; holder = None } ∷ []) n) ≡ Some desk → holder_in (waiting_in xs n) ≡ Some desk
submitted_holder [] q n desk h = on (is_number q.no n) h
  where
    on : (b : Bool) → holder_in (cond b (Some (record { request = q; holder = None })) None) ≡ Some desk → None ≡ Some desk
    on true h = h
    on false h = h
submitted_holder (x ∷ xs) q n desk h = on (is_number x.request.no n) h (submitted_holder xs q n desk)
  where
    on : (b : Bool) → holder_in (cond b (Some x) (waiting_in (xs ++ record { request = q; holder = None } ∷ []) n)) ≡ Some desk
        → (holder_in (waiting_in (xs ++ record { request = q; holder = None } ∷ []) n) ≡ Some desk → holder_in (waiting_in xs n) ≡ Some desk)
        → holder_in (cond b (Some x) (waiting_in xs n)) ≡ Some desk
    on true h rest = h
    on false h rest = rest h

-- after a change of the holder of a number it is the new one
new_holder : (xs : List Waiting) (n : RequestNo) (holder : Option ℕ) (desk : ℕ) → holder_in (waiting_in (with_holder n holder xs) n) ≡ Some desk → holder ≡ Some desk
new_holder xs n holder desk h = on (waiting_in xs n) refl
  where
    on : (o : Option Waiting) → waiting_in xs n ≡ o → holder ≡ Some desk
    on None e = absurd (let z : None ≡ Some desk = ap holder_in (sym (held_none xs n n holder e)) ∙ h in cc)
    on (Some w) e = ap holder_in (sym (held_now xs n holder w e)) ∙ h

claim_tells : (g : Roads) (old new : Board) (m : RequestNo) (d by desk : ℕ) (n : RequestNo) → d ≡ by → Step g old (Claim m d) new → Tells old new by desk n (Claim m d)
claim_tells g old new m d by desk n is step = on (is_number m n) refl
  where
    on : (b : Bool) → is_number m n ≡ b → Tells old new by desk n (Claim m d)
    on true e held before now =
        let same : m ≡ n = same_number m n e in
        let h : holder_in (waiting_in (with_holder n (Some d) old.waiting) n) ≡ Some desk = subst (λ (k : RequestNo). holder_in (waiting_in (with_holder k (Some d) old.waiting) n) ≡ Some desk) same (subst (λ (b : Board). holder_of b n ≡ Some desk) step.3 now) in
        let one : d ≡ desk = same_Some d desk (new_holder old.waiting n (Some d) desk h) in
        rw (eq-eqb by desk (sym is ∙ one), e) refl
    on false e held before now = same_holder old new by desk n (Claim m d) (ap (λ (b : Bool). cond b (Some true) None) e)
        (by_waiting old new n desk (ap (λ (b : Board). waiting_of b n) step.3 ∙ held_other old.waiting m n (Some d) (λ s. true≢false (sym (subst (λ (k : RequestNo). is_number m k ≡ true) (sym s) (is_itself m)) ∙ e)))) held before now

back_tells : (g : Roads) (old new : Board) (m : RequestNo) (by desk : ℕ) (n : RequestNo) → Step g old (Back m) new → Tells old new by desk n (Back m)
back_tells g old new m by desk n step = on (is_number m n) refl
  where
    on : (b : Bool) → is_number m n ≡ b → Tells old new by desk n (Back m)
    on true e held before now =
        let same : m ≡ n = same_number m n e in
        let h : holder_in (waiting_in (with_holder n None old.waiting) n) ≡ Some desk = subst (λ (k : RequestNo). holder_in (waiting_in (with_holder k None old.waiting) n) ≡ Some desk) same (subst (λ (b : Board). holder_of b n ≡ Some desk) step.3 now) in
        absurd (let z = new_holder old.waiting n None desk h in cc)
    on false e held before now = same_holder old new by desk n (Back m) (ap (λ (b : Bool). cond b (Some false) None) e)
        (by_waiting old new n desk (ap (λ (b : Board). waiting_of b n) step.3 ∙ held_other old.waiting m n None (λ s. true≢false (sym (subst (λ (k : RequestNo). is_number m k ≡ true) (sym s) (is_itself m)) ∙ e)))) held before now

commit_tells : (old new : Board) (m : RequestNo) (d : Decision) (by desk : ℕ) (n : RequestNo) → new.waiting ≡ without m old.waiting → Tells old new by desk n (Commit m d)
commit_tells old new m d by desk n left = on (is_number m n) refl
  where
    on : (b : Bool) → is_number m n ≡ b → Tells old new by desk n (Commit m d)
    on true e held before now =
        let same : m ≡ n = same_number m n e in
        let gone : waiting_of new n ≡ None = ap (λ (l : List Waiting). waiting_in l n) left ∙ subst (λ (k : RequestNo). waiting_in (without k old.waiting) n ≡ None) (sym same) (left_none old.waiting n) in
        absurd (let z : None ≡ Some desk = ap holder_in (sym gone) ∙ now in cc)
    on false e held before now = same_holder old new by desk n (Commit m d) (ap (λ (b : Bool). cond b (Some false) None) e)
        (by_waiting old new n desk (ap (λ (l : List Waiting). waiting_in l n) left ∙ left_other old.waiting m n (λ s. true≢false (sym (subst (λ (k : RequestNo). is_number m k ≡ true) (sym s) (is_itself m)) ∙ e)))) held before now

step_tells : (g : Roads) (old : Board) (e : Entry) (by : ℕ) (new : Board) (desk : ℕ) (n : RequestNo) → IsNotedBy old by e → Step g old e new → Tells old new by desk n e
step_tells g old (Submit q Accepted) by new desk n noted step =
    same_holder old new by desk n (Submit q Accepted) refl (λ h. submitted_holder old.waiting q n desk (subst (λ (b : Board). holder_of b n ≡ Some desk) step.1 h))
step_tells g old (Submit q (Refused reason)) by new desk n noted step = same_holder old new by desk n (Submit q (Refused reason)) refl (by_waiting old new n desk (ap (λ (b : Board). waiting_of b n) step.1))
step_tells g old (Claim m d) by new desk n noted step = claim_tells g old new m d by desk n noted step
step_tells g old (Back m) by new desk n noted step = back_tells g old new m by desk n step
step_tells g old (Commit m (IsAssigned a)) by new desk n noted step = commit_tells old new m (IsAssigned a) by desk n (ap (λ (b : Board). b.waiting) step.leads_to)
step_tells g old (Commit m Nobody) by new desk n noted step = commit_tells old new m Nobody by desk n (ap (λ (b : Board). b.waiting) step.leads_to)
step_tells g old (Advance now (Moved served)) by new desk n noted step = same_holder old new by desk n (Advance now (Moved served)) refl (by_waiting old new n desk (ap (λ (b : Board). waiting_of b n) step.2))
step_tells g old (Advance now (Behind clock)) by new desk n noted step = same_holder old new by desk n (Advance now (Behind clock)) refl (by_waiting old new n desk (ap (λ (b : Board). waiting_of b n) step.2))
step_tells g old (Cancel m (Removed x)) by new desk n noted step = same_holder old new by desk n (Cancel m (Removed x)) refl (by_waiting old new n desk (ap (λ (b : Board). waiting_of b n) step.leads_to))
step_tells g old (Cancel m (Declined reason)) by new desk n noted step = same_holder old new by desk n (Cancel m (Declined reason)) refl (by_waiting old new n desk (ap (λ (b : Board). waiting_of b n) step.1))
step_tells g old Shut by new desk n noted step = same_holder old new by desk n Shut refl (by_waiting old new n desk (ap (λ (b : Board). waiting_of b n) step.1))

holds_from : (g : Roads) (first : Board) (noted : List (ℕ × Entry)) (last : Board) (desk : ℕ) (n : RequestNo) (held : Bool) → LegalNoted g first noted last
    → (holder_of first n ≡ Some desk → held ≡ true) → holder_of last n ≡ Some desk → holds_after held desk n noted ≡ true
holds_from g first [] last desk n held legal before now = before (subst (λ (b : Board). holder_of b n ≡ Some desk) legal now)
holds_from g first (e ∷ noted) last desk n held legal before now =
    holds_from g legal.0 noted last desk n (holds_next held desk n e) legal.3 (step_tells g first e.1 e.0 legal.0 desk n legal.1 legal.2 held before) now

pub holders_hold : HoldersHoldClaims
holders_hold g first noted last desk n legal none now = holds_from g first noted last desk n false legal (λ h. absurd (none h)) now
