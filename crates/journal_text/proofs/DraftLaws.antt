use Rattle.std.proofs.Common.{◌≡◌, ◌⊎◌, inl, inr, ℕ, zero, suc, ◌+◌, ◌^◌, ◌≤◌, ◌<◌, ◌==◌, Bool, true, false, ◌&&◌, cond, List, [], ◌∷◌, ◌++◌, length, flat_map, Option, Some, None, refl, sym, ap, ◌∙◌, subst, append-nil, arith, codes, add-zero}
use Rattle.std.proofs.lemmas.Bool.Decides.{nat_tests}
use Rattle.std.proofs.lemmas.List.Folds.{list_all-append}
use Rattle.std.specs.Prelude.{nat_le, nat_lt}
use Rattle.std.specs.List.{list_all}
use Rattle.road_graph.specs.declared.road.NodeNo.{NodeNo}
use Rattle.plain_search.specs.declared.potential.Potential.{Potential}
use Rattle.ride_base.specs.declared.numbers.VehicleNo.{VehicleNo}
use Rattle.stop_advance.specs.declared.served.Served.{Served}
use Rattle.stop_schedule.specs.declared.request.Request.{Request}
use Rattle.stop_schedule.specs.declared.stop.Insertion.{Insertion}
use Rattle.board_core.specs.declared.entry.Reason.{Reason}
use Rattle.board_core.specs.declared.entry.CancelReason.{CancelReason}
use Rattle.board_core.specs.declared.entry.Submitted.TheVariants.{Accepted, Refused}
use Rattle.journal_text.specs.declared.heads.RemovalHead.{RemovalHead}
use Rattle.journal_text.specs.declared.heads.Head.{Head}
use Rattle.journal_text.specs.declared.heads.Head.TheVariants.{Ride, Claim, Back, Offer, Nobody, Clock, Behind, Asked, Declined, Removal, Shut}
use Rattle.journal_text.specs.declared.draft.Direct.{Direct}
use Rattle.journal_text.specs.declared.draft.Direct.TheVariants.{Ahead, Absent, Walk}
use Rattle.journal_text.specs.declared.draft.Draft.{Draft}
use Rattle.journal_text.specs.Groups.{spaced, numbers_line, ride_line, refusal_line, served_line, reason_text, cancel_reason_text}
use Rattle.journal_text.specs.Certificates.{numbered_lines}
use Rattle.journal_text.specs.Forms.{is_32, is_number, largest_number, largest_32, largest_position, latest_clock, is_walk_text, is_potential_text}
use Rattle.journal_text.specs.LineParts.{and_then}
use Rattle.journal_text.specs.LineHeads.{head_in}
use Rattle.journal_text.specs.Drafts.{most_walks_of, has_walks, is_empty, is_clock, changed_leg_of, joined_leg_of, leg_of, with_head, next_number_with, wants_direct_with, draft_step, new_draft, draft_of_line}
use Rattle.journal_text.specs.DraftTexts.{is_offer_head, is_removal_head, is_head, head_text, leg_at, walks_from, first_number, direct_text, draft_text, is_commit, most_potentials_of, is_direct_draft, IsDraft}
use Rattle.journal_text.proofs.Spelling.{both, both_hold, le_from, is_clean}
use Rattle.journal_text.proofs.HeadsRead.{first_was}
use Rattle.journal_text.proofs.PrintedLines.{claim_read, back_read, nobody_read, asked_read, clock_read, offer_read, request_line_read, refusal_read, cancel_refusal_read, behind_read, removal_read}
use Rattle.journal_text.proofs.DraftSteps.{bare_is_draft, step_was, most_listed_few}
use Rattle.journal_text.proofs.DraftReads.{ended, drafted, drafted-append, Goes, goes_none, goes_line, goes_served, goes_walks, goes_potentials, goes_direct, ended-append}

-- The lines of a group as far as it was read are read again as that group.

pub record Begins (number : ℕ) (text : List ℕ) (d : Draft) : Type 0 where
  pub first : List ℕ
  pub more : List (List ℕ)
  pub spelled : text ≡ ended (first ∷ more)
  pub clean : list_all is_clean (first ∷ more) ≡ true
  pub begun : and_then (draft_of_line number first) (λ (next : Draft). drafted next more) ≡ Some d

begins_then : (number : ℕ) (text : List ℕ) (d : Draft) (text' : List ℕ) (d' : Draft) → Begins number text d → Goes d text' d' → Begins number (text ++ text') d'
begins_then number text d text' d' a b = record {
  first = a.first;
  more = a.more ++ b.lines;
  spelled = ap (λ l. l ++ text') a.spelled ∙ ap (λ l. ended (a.first ∷ a.more) ++ l) b.spelled ∙ sym (ended-append (a.first ∷ a.more) b.lines);
  clean = list_all-append is_clean (a.first ∷ a.more) b.lines ∙ both_hold (list_all is_clean (a.first ∷ a.more)) (list_all is_clean b.lines) a.clean b.clean;
  begun = by (draft_of_line number a.first) a.begun;
}
  where
    by : (o : Option Draft) → and_then o (λ (next : Draft). drafted next a.more) ≡ Some d → and_then o (λ (next : Draft). drafted next (a.more ++ b.lines)) ≡ Some d'
    by None e = absurd cc
    by (Some next) e = drafted-append next a.more b.lines ∙ ap (λ o. and_then o (λ (x : Draft). drafted x b.lines)) e ∙ b.steps

one_line : (number letter : ℕ) (ns : List ℕ) (head : Head) → head_in (letter ∷ spaced ns) ≡ Some head → Begins number (numbers_line letter ns) (new_draft number head)
one_line number letter ns head e = record {
  first = letter ∷ spaced ns;
  more = [];
  spelled = refl;
  clean = both_hold (is_clean (letter ∷ spaced ns)) true (first_was (letter ∷ spaced ns) head e).clean refl;
  begun = ap (λ o. and_then (and_then o (λ (h : Head). Some (new_draft number h))) (λ (next : Draft). Some next)) e;
}

-- a line that takes one head to another one
next_head : (number : ℕ) (head head' : Head) (line : List ℕ) → is_head head ≡ true → draft_step (new_draft number head) line ≡ Some (new_draft number head') → Goes (new_draft number head) (line ++ 10 ∷ []) (new_draft number head')
next_head number head head' line valid e =
    goes_line (new_draft number head) line (new_draft number head') e (step_was (new_draft number head) line (new_draft number head') (bare_is_draft number head valid) e).clean

-- the numbers on the line of a request
abbrev ride_numbers : Request → List ℕ
ride_numbers r = r.no.0 ∷ r.pickup.0 ∷ r.dropoff.0 ∷ r.moment ∷ r.riders ∷ cond (r.spaces == 0) [] (r.spaces ∷ [])

head_begins : (number : ℕ) (head : Head) → is_head head ≡ true → Begins number (head_text head) (new_draft number head)
head_begins number (Ride r Accepted) e =
    subst (λ l. Begins number l (new_draft number (Ride r Accepted))) (sym (append-nil (ride_line r))) (one_line number 114 (ride_numbers r) (Ride r Accepted) (request_line_read r e))
head_begins number (Ride r (Refused reason)) e =
    begins_then number (ride_line r) (new_draft number (Ride r Accepted)) (refusal_line r.no.0 (reason_text reason)) (new_draft number (Ride r (Refused reason))) (one_line number 114 (ride_numbers r) (Ride r Accepted) (request_line_read r e))
    (next_head number (Ride r Accepted) (Ride r (Refused reason)) (120 ∷ spaced (r.no.0 ∷ []) ++ 32 ∷ reason_text reason) e
    (ap (λ o. with_head (new_draft number (Ride r Accepted)) (and_then o (λ (why' : Reason). Some (Ride r (Refused why'))))) (refusal_read r.no reason (le_from r.no.0 largest_number (both (is_number r.no.0) _ e).0))))
head_begins number (Claim asked desk) e =
    let a = both (is_number asked.0) (is_number desk) e in
    one_line number 107 (asked.0 ∷ desk ∷ []) (Claim asked desk) (claim_read asked.0 desk (le_from asked.0 largest_number a.0) (le_from desk largest_number a.1))
head_begins number (Back asked) e = one_line number 98 (asked.0 ∷ []) (Back asked) (back_read asked.0 (le_from asked.0 largest_number e))
head_begins number (Offer asked o) e =
    let a = both (is_number asked.0) (is_offer_head o) e in
    let b = both (is_32 o.no.0) _ a.1 in
    let c = both (nat_le o.at.i o.at.j) _ b.1 in
    let d = both (nat_le o.at.j largest_position) _ c.1 in
    let f = both (is_number o.cost) _ d.1 in
    let g = both (is_number o.leave) (is_number o.arrive) f.1 in
    one_line number 97 (asked.0 ∷ o.no.0 ∷ o.at.i ∷ o.at.j ∷ o.cost ∷ o.leave ∷ o.arrive ∷ []) (Offer asked o) (offer_read asked.0 o.no.0 o.at.i o.at.j o.cost o.leave o.arrive (le_from asked.0 largest_number a.0) (le_from o.no.0 largest_32 b.0) (le_from o.at.i o.at.j c.0)
    (le_from o.at.j largest_position d.0) (le_from o.cost largest_number f.0) (le_from o.leave largest_number g.0) (le_from o.arrive largest_number g.1))
head_begins number (Nobody asked) e = one_line number 110 (asked.0 ∷ []) (Nobody asked) (nobody_read asked.0 (le_from asked.0 largest_number e))
head_begins number (Clock now) e = one_line number 116 (now ∷ []) (Clock now) (clock_read now (le_from now latest_clock e))
head_begins number (Behind now clock) e =
    let a = both (nat_le now latest_clock) (nat_le clock latest_clock) e in
    begins_then number (numbers_line 116 (now ∷ [])) (new_draft number (Clock now)) (codes "x back" ++ spaced (clock ∷ []) ++ 10 ∷ []) (new_draft number (Behind now clock)) (one_line number 116 (now ∷ []) (Clock now) (clock_read now (le_from now latest_clock a.0)))
    (next_head number (Clock now) (Behind now clock) (120 ∷ codes " back" ++ spaced (clock ∷ [])) a.0
    (ap (λ o. with_head (new_draft number (Clock now)) (and_then o (λ (c : ℕ). Some (Behind now c)))) (behind_read clock (le_from clock latest_clock a.1))))
head_begins number (Asked asked) e = one_line number 121 (asked.0 ∷ []) (Asked asked) (asked_read asked.0 (le_from asked.0 largest_number e))
head_begins number (Declined asked reason) e =
    begins_then number (numbers_line 121 (asked.0 ∷ [])) (new_draft number (Asked asked)) (refusal_line asked.0 (cancel_reason_text reason)) (new_draft number (Declined asked reason)) (one_line number 121 (asked.0 ∷ []) (Asked asked) (asked_read asked.0 (le_from asked.0 largest_number e)))
    (next_head number (Asked asked) (Declined asked reason) (120 ∷ spaced (asked.0 ∷ []) ++ 32 ∷ cancel_reason_text reason) e
    (ap (λ o. with_head (new_draft number (Asked asked)) (and_then o (λ (r : CancelReason). Some (Declined asked r)))) (cancel_refusal_read asked reason (le_from asked.0 largest_number e))))
head_begins number (Removal asked x) e =
    let a = both (is_number asked.0) (is_removal_head x) e in
    begins_then number (numbers_line 121 (asked.0 ∷ [])) (new_draft number (Asked asked)) (numbers_line 111 (asked.0 ∷ x.no.0 ∷ x.pickup ∷ x.dropoff ∷ [])) (new_draft number (Removal asked x)) (one_line number 121 (asked.0 ∷ []) (Asked asked) (asked_read asked.0 (le_from asked.0 largest_number a.0)))
    (next_head number (Asked asked) (Removal asked x) (111 ∷ spaced (asked.0 ∷ x.no.0 ∷ x.pickup ∷ x.dropoff ∷ [])) a.0
    (ap (λ o. with_head (new_draft number (Asked asked)) (and_then o (λ (y : RemovalHead). Some (Removal asked y)))) (removal_read asked x (le_from asked.0 largest_number a.0) a.1)))
head_begins number Shut e = one_line number 122 [] Shut refl

-- the legs of the walks that a head may have
abbrev pub HasLegs : Head → Type 0
HasLegs head = (index : ℕ) → (leg_of head index ≡ Some (leg_at head index)) × (leg_at head index < 2 ^ 64)

pub legs_of : (head : Head) → is_head head ≡ true → (most_walks_of head ≡ 0) ⊎ HasLegs head
legs_of (Offer asked o) e =
    let a = both (is_number asked.0) (is_offer_head o) e in
    let b = both (is_32 o.no.0) _ a.1 in
    let c = both (nat_le o.at.i o.at.j) _ b.1 in
    let d = both (nat_le o.at.j largest_position) _ c.1 in
    inr (λ index. (refl, omega (arith, small o.at index (le_from o.at.i o.at.j c.0) (le_from o.at.j largest_position d.0))))
  where
    small : (at : Insertion) (index : ℕ) → at.i ≤ at.j → at.j ≤ 64 → changed_leg_of at index ≤ 67
    small at zero p q = omega (arith, p, q)
    small at (suc zero) p q = omega (arith, p, q)
    small at (suc (suc zero)) p q = by (at.i == at.j)
      where
        by : (t : Bool) → cond t (at.i + 2) (at.j + 1) ≤ 67
        by true = omega (arith, p, q)
        by false = omega (arith, p, q)
    small at (suc (suc (suc index))) p q = omega (arith, p, q)
legs_of (Removal asked x) e =
    let a = both (is_number asked.0) (is_removal_head x) e in
    let b = both (is_32 x.no.0) _ a.1 in
    let c = both (nat_le 1 x.pickup) _ b.1 in
    let d = both (nat_lt x.pickup x.dropoff) (nat_le x.dropoff largest_position) c.1 in
    let order : x.pickup < x.dropoff = grind (arith, nat_tests, d.0) in
    inr (λ index. (refl, omega (arith, small x index order (le_from x.dropoff largest_position d.1))))
  where
    small : (x : RemovalHead) (index : ℕ) → x.pickup < x.dropoff → x.dropoff ≤ 64 → joined_leg_of x index ≤ 67
    small x zero p q = omega (arith, p, q)
    small x (suc index) p q = omega (arith, p, q)
legs_of head e = inl refl

no_walks : (walks : List (List NodeNo)) → length walks ≤ 0 → walks ≡ []
no_walks [] h = refl
no_walks (w ∷ ws) h = absurd (omega arith)

served_stage : (d : Draft) → IsDraft d → Goes (new_draft d.line d.head) (flat_map served_line d.served) (record (new_draft d.line d.head) { served = d.served })
served_stage d ok = by (is_clock d.head) refl
  where
    by : (t : Bool) → is_clock d.head ≡ t → Goes (new_draft d.line d.head) (flat_map served_line d.served) (record (new_draft d.line d.head) { served = d.served })
    by true t = goes_served (new_draft d.line d.head) d.served t ok.stops
    by false t = subst (λ (ss : List (VehicleNo × Served)). Goes (new_draft d.line d.head) (flat_map served_line ss) (record (new_draft d.line d.head) { served = ss })) (sym (ok.still t)) (goes_none (new_draft d.line d.head))

walks_stage : (d d' : Draft) → IsDraft d → d'.head ≡ d.head → d'.walks ≡ [] → d'.potentials ≡ [] → Goes d' (walks_from d'.head 0 d.walks) (record d' { walks = d.walks })
walks_stage d d' ok head none potentials = by (legs_of d'.head (ap is_head head ∙ ok.valid))
  where
    few : length d.walks ≤ most_walks_of d'.head
    few = subst (λ (h : Head). length d.walks ≤ most_walks_of h) (sym head) ok.few_walks

    empty : d' ≡ record d' { walks = [] }
    empty = ap (λ (ws : List (List NodeNo)). record d' { walks = ws }) none

    by : (most_walks_of d'.head ≡ 0) ⊎ HasLegs d'.head → Goes d' (walks_from d'.head 0 d.walks) (record d' { walks = d.walks })
    by (inl zero') =
        let ws : d.walks ≡ [] = no_walks d.walks (omega (arith, few, zero')) in
        subst (λ (l : List (List NodeNo)). Goes d' (walks_from d'.head 0 l) (record d' { walks = l })) (sym ws) (subst (λ (x : Draft). Goes d' [] x) empty (goes_none d'))
    by (inr legs) =
        let r = goes_walks (record d' { walks = [] }) d.walks legs potentials (omega (arith, few)) ok.are_walks in
        subst (λ (x : Draft). Goes x (walks_from d'.head 0 d.walks) (record d' { walks = d.walks })) (sym empty) r

pub next_number_is : (head : Head) (walks count : ℕ) → count < most_potentials_of head walks → next_number_with head Ahead true count walks ≡ Some (first_number head + count)
next_number_is (Offer asked o) walks count less =
    ap (λ t. cond t (Some (count + 1)) None) (let h : nat_lt count 4 ≡ true = grind (arith, nat_tests) in h) ∙ ap (λ n. Some n) (omega arith)
next_number_is (Nobody asked) walks count less =
    ap (λ t. cond t (Some (count + 1)) None) (let h : nat_lt count 4 ≡ true = grind (arith, nat_tests) in h) ∙ ap (λ n. Some n) (omega arith)
next_number_is (Removal asked x) walks count less =
    ap (λ t. cond t (Some (count + 5)) None) (let h : nat_lt count walks ≡ true = grind (arith, nat_tests) in h) ∙ ap (λ n. Some n) (omega arith)
next_number_is head walks count less = absurd (omega (arith, less))

-- the group up to its potentials
abbrev with_walks : Draft → Draft
with_walks d = record d { potentials = []; direct = Ahead }

potentials_stage : (d : Draft) → IsDraft d → Goes (with_walks d) (numbered_lines (first_number d.head) d.potentials) (record d { direct = Ahead })
potentials_stage d ok = by d.potentials refl
  where
    by : (ps : List Potential) → d.potentials ≡ ps → Goes (with_walks d) (numbered_lines (first_number d.head) ps) (record d { potentials = ps; direct = Ahead })
    by [] e = goes_none (with_walks d)
    by (p ∷ ps) e =
        let walks : has_walks d ≡ true = ok.begun (ap is_empty e) in
        let few : length (p ∷ ps) ≤ most_potentials_of d.head (length d.walks) = subst (λ (l : List Potential). length l ≤ most_potentials_of d.head (length d.walks)) e ok.few in
        let valid : list_all is_potential_text (p ∷ ps) ≡ true = sym (ap (list_all is_potential_text) e) ∙ ok.are_potentials in
        let r = goes_potentials (with_walks d) (p ∷ ps)
        (λ count less. ap (λ t. next_number_with d.head Ahead t count (length d.walks)) walks ∙ next_number_is d.head (length d.walks) count (omega (arith, less, few)))
        refl (omega (arith, few, most_listed_few d.head (length d.walks) ok.few_walks)) valid in
        subst (λ n. Goes (with_walks d) (numbered_lines n (p ∷ ps)) (record d { potentials = p ∷ ps; direct = Ahead })) (add-zero (first_number d.head)) r

pub wants_direct_is : (head : Head) (count : ℕ) → (is_commit head && count == 4) ≡ true → wants_direct_with head Ahead count ≡ true
wants_direct_is (Offer asked o) count e = e
wants_direct_is (Nobody asked) count e = e
wants_direct_is head count e = absurd cc

direct_stage : (d : Draft) → IsDraft d → Goes (record d { direct = Ahead }) (direct_text d.direct) d
direct_stage d ok = by d.direct refl
  where
    by : (direct : Direct) → d.direct ≡ direct → Goes (record d { direct = Ahead }) (direct_text direct) d
    by Ahead e = subst (λ (x : Draft). Goes (record d { direct = Ahead }) [] x) (ap (λ (x : Direct). record d { direct = x }) (sym e)) (goes_none (record d { direct = Ahead }))
    by Absent e =
        let wants = wants_direct_is d.head (length d.potentials) (sym (ap (is_direct_draft d.head d.potentials) e) ∙ ok.is_direct) in
        subst (λ (x : Direct). Goes (record d { direct = Ahead }) (direct_text Absent) (record d { direct = x })) (sym e) (goes_direct (record d { direct = Ahead }) None wants refl)
    by (Walk nodes) e =
        let a = both (is_commit d.head && length d.potentials == 4) (is_walk_text nodes) (sym (ap (is_direct_draft d.head d.potentials) e) ∙ ok.is_direct) in
        let wants = wants_direct_is d.head (length d.potentials) a.0 in
        subst (λ (x : Direct). Goes (record d { direct = Ahead }) (direct_text (Walk nodes)) (record d { direct = x })) (sym e) (goes_direct (record d { direct = Ahead }) (Some nodes) wants a.1)

pub draft_reads : (d : Draft) → IsDraft d → Begins d.line (draft_text d) d
draft_reads d ok =
    let d0 : Draft = new_draft d.line d.head in
    let d1 : Draft = record d0 { served = d.served } in
    let d2 : Draft = with_walks d in
    let d3 : Draft = record d { direct = Ahead } in
    let t0 = head_text d.head in
    let t1 = t0 ++ flat_map served_line d.served in
    let t2 = t1 ++ walks_from d.head 0 d.walks in
    let t3 = t2 ++ numbered_lines (first_number d.head) d.potentials in
    begins_then d.line t3 d3 (direct_text d.direct) d
    (begins_then d.line t2 d2 (numbered_lines (first_number d.head) d.potentials) d3
    (begins_then d.line t1 d1 (walks_from d.head 0 d.walks) d2
    (begins_then d.line t0 d0 (flat_map served_line d.served) d1 (head_begins d.line d.head ok.valid) (served_stage d ok))
    (walks_stage d d1 ok refl refl refl))
    (potentials_stage d ok))
    (direct_stage d ok)
