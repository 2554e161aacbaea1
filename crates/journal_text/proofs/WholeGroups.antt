use Rattle.std.proofs.Common.{◌≡◌, ◌⊎◌, inl, inr, ℕ, zero, suc, ◌+◌, ◌-◌, ◌≤◌, ◌<◌, ◌==◌, Bool, true, false, ◌&&◌, cond, List, [], ◌∷◌, ◌++◌, length, Some, None, refl, sym, ap, ◌∙◌, append_assoc, append-nil, length-append, arith, codes, eq-eqb}
use Rattle.std.proofs.lemmas.Bool.Decides.{nat_tests}
use Rattle.std.specs.Prelude.{nat_le, nat_lt}
use Rattle.road_graph.specs.Roads.{node}
use Rattle.std.specs.Fmt.{decimal}
use Rattle.plain_search.specs.declared.potential.Potential.{Potential}
use Rattle.board_core.specs.declared.entry.CancelReason.{CancelReason}
use Rattle.board_core.specs.declared.entry.CancelReason.TheVariants as why
use Rattle.journal_text.specs.declared.heads.Head.{Head}
use Rattle.journal_text.specs.declared.heads.Head.TheVariants.{Offer, Nobody, Asked, Declined, Removal}
use Rattle.journal_text.specs.declared.draft.Direct.{Direct}
use Rattle.journal_text.specs.declared.draft.Direct.TheVariants.{Ahead, Absent, Walk}
use Rattle.journal_text.specs.declared.draft.Draft.{Draft}
use Rattle.journal_text.specs.Groups.{spaced, cancel_reason_text}
use Rattle.journal_text.specs.Forms.{largest_number}
use Rattle.journal_text.specs.LineParts.{and_then}
use Rattle.journal_text.specs.Drafts.{most_walks_of, has_walks, has_proof_or_none, is_whole_with, is_whole_draft, is_empty, with_head, refused_head, next_number_with, wants_direct_with, with_direct, direct_in, draft_step}
use Rattle.journal_text.specs.DraftTexts.{is_head, leg_at, first_number, draft_text, is_commit, most_potentials_of, IsDraft}
use Rattle.journal_text.proofs.Spelling.{both_hold, le_holds, le_from}
use Rattle.journal_text.proofs.PrintedLines.{cancel_refusal_read}
use Rattle.journal_text.proofs.DraftSteps.{step_was, none_listed, first_number_few}
use Rattle.journal_text.proofs.DraftReads.{HasRoom, first_of_walk, WantsPotential, begin_of_potential}
use Rattle.journal_text.proofs.DraftLaws.{HasLegs, legs_of, next_number_is, wants_direct_is}

-- What was read of a group is the beginning of one that is whole.

pub record Completes (d : Draft) : Type 0 where
  pub whole : Draft
  pub fits : IsDraft whole
  pub is_whole : is_whole_draft whole ≡ true
  pub same : whole.line ≡ d.line
  pub more : List ℕ
  pub text : draft_text whole ≡ draft_text d ++ more

all_read : (d : Draft) → IsDraft d → is_whole_draft d ≡ true → Completes d
all_read d ok e = record { whole = d; fits = ok; is_whole = e; same = refl; more = []; text = sym (append-nil (draft_text d)) }

line_more : (d : Draft) (line : List ℕ) (d' : Draft) → IsDraft d → draft_step d line ≡ Some d' → (IsDraft d' → Completes d') → Completes d
line_more d line d' ok e rest =
    let w = step_was d line d' ok e in
    let c = rest w.draft in
    record {
      whole = c.whole;
      fits = c.fits;
      is_whole = c.is_whole;
      same = c.same ∙ w.same;
      more = (line ++ 10 ∷ []) ++ c.more;
      text = c.text ∙ ap (λ l. l ++ c.more) w.spelled ∙ append_assoc (draft_text d) (line ++ 10 ∷ []) c.more;
    }

clash : {A : Type 0} (t : Bool) → t ≡ true → t ≡ false → A
clash true e f = absurd cc
clash false e f = absurd cc

not_listed : (d : Draft) → IsDraft d → has_walks d ≡ false → d.potentials ≡ []
not_listed d ok e = by (is_empty d.potentials) refl
  where
    by : (t : Bool) → is_empty d.potentials ≡ t → d.potentials ≡ []
    by true t = none_listed d.potentials t
    by false t = clash (has_walks d) (ok.begun t) e

most_walks_few : (head : Head) → most_walks_of head ≤ 4
most_walks_few (Offer asked o) = by (o.at.i == o.at.j)
  where
    by : (t : Bool) → cond t 3 4 ≤ 4
    by true = omega arith
    by false = omega arith
most_walks_few (Removal asked x) = by (x.dropoff == x.pickup + 1)
  where
    by : (t : Bool) → cond t 1 2 ≤ 4
    by true = omega arith
    by false = omega arith
most_walks_few head = omega arith

-- a walk of one node more
walk_more : (d : Draft) → IsDraft d → HasLegs d.head → has_walks d ≡ false
    → ((d' : Draft) → IsDraft d' → (4 - length d'.walks) + (5 - length d'.potentials) < (4 - length d.walks) + (5 - length d.potentials) → Completes d') → Completes d
walk_more d ok legs few rest =
    let leg : ℕ = leg_at d.head (length d.walks) in
    let room : length d.walks < most_walks_of d.head = grind (arith, nat_tests, few) in
    let h : HasRoom d leg = record { none = not_listed d ok few; room = room; has_leg = (legs (length d.walks)).0; small = (legs (length d.walks)).1 } in
    let r = first_of_walk d leg (node 1 ∷ []) h (omega arith) (omega arith) refl in
    line_more d (103 ∷ 32 ∷ decimal leg ++ spaced (1 ∷ [])) (record d { walks = d.walks ++ (node 1 ∷ []) ∷ [] }) ok r.step
    (λ ok'. rest (record d { walks = d.walks ++ (node 1 ∷ []) ∷ [] }) ok' (omega (arith, room, most_walks_few d.head, length-append d.walks ((node 1 ∷ []) ∷ []))))

-- a certificate that was begun
proof_more : (d : Draft) → IsDraft d → is_commit d.head ≡ true → has_walks d ≡ true → has_proof_or_none d.direct d.potentials ≡ false
    → ((direct : Direct) → has_proof_or_none direct d.potentials ≡ true → is_whole_draft (record d { direct = direct }) ≡ true)
    → ((d' : Draft) → IsDraft d' → (4 - length d'.walks) + (5 - length d'.potentials) < (4 - length d.walks) + (5 - length d.potentials) → Completes d') → Completes d
proof_more d ok commit walks begun whole rest = by d.direct refl begun (nat_lt (length d.potentials) 4) refl
  where
    four : (head : Head) → is_commit head ≡ true → length d.potentials ≤ most_potentials_of head (length d.walks) → length d.potentials ≤ 4
    four (Offer asked o) c h = h
    four (Nobody asked) c h = h
    four head c h = absurd cc

    room_of : (head : Head) → is_commit head ≡ true → most_potentials_of head (length d.walks) ≡ 4
    room_of (Offer asked o) c = refl
    room_of (Nobody asked) c = refl
    room_of head c = absurd cc

    by : (direct : Direct) → d.direct ≡ direct → has_proof_or_none direct d.potentials ≡ false → (t : Bool) → nat_lt (length d.potentials) 4 ≡ t → Completes d
    by Ahead k none true less =
        let few : length d.potentials < 4 = grind (arith, nat_tests, less) in
        let number : ℕ = first_number d.head + length d.potentials in
        let next : next_number_with d.head d.direct (has_walks d) (length d.potentials) (length d.walks) ≡ Some number =
        ap (λ (x : Direct). next_number_with d.head x (has_walks d) (length d.potentials) (length d.walks)) k ∙ ap (λ w. next_number_with d.head Ahead w (length d.potentials) (length d.walks)) walks
        ∙ next_number_is d.head (length d.walks) (length d.potentials) (omega (arith, few, room_of d.head commit)) in
        let w : WantsPotential d number = record { next = next; small = omega (arith, few, first_number_few d.head); ahead = k } in
        let r = begin_of_potential d number None w refl in
        let p : Potential = record { listed = []; rest = None } in
        line_more d (117 ∷ spaced (number ∷ []) ++ 32 ∷ 45 ∷ []) (record d { potentials = d.potentials ++ p ∷ [] }) ok r.step
        (λ ok'. rest (record d { potentials = d.potentials ++ p ∷ [] }) ok' (omega (arith, few, length-append d.potentials (p ∷ []))))
    by Ahead k none false less =
        let most : length d.potentials ≤ 4 = four d.head commit ok.few in
        let all : length d.potentials ≡ 4 = let h : 4 ≤ length d.potentials = grind (arith, nat_tests, less) in omega (arith, h, most) in
        let wants : wants_direct_with d.head d.direct (length d.potentials) ≡ true =
        ap (λ (x : Direct). wants_direct_with d.head x (length d.potentials)) k ∙ wants_direct_is d.head (length d.potentials) (both_hold _ _ commit (eq-eqb (length d.potentials) 4 all)) in
        line_more d (101 ∷ codes " -") (record d { direct = Absent }) ok (ap (λ t. cond t (with_direct d (direct_in (codes " -"))) None) wants)
        (λ ok'. all_read (record d { direct = Absent }) ok' (whole Absent refl))
    by Absent k none t less = absurd cc
    by (Walk nodes) k none t less = absurd cc

pub completes : (fuel : ℕ) (d : Draft) → IsDraft d → (4 - length d.walks) + (5 - length d.potentials) < fuel → Completes d
completes zero d ok h = absurd (omega (arith, h))
completes (suc fuel) d ok h = by (is_whole_draft d) refl (λ d' ok' less. completes fuel d' ok' (omega (arith, h, less)))
  where
    by : (t : Bool) → is_whole_draft d ≡ t → ((d' : Draft) → IsDraft d' → (4 - length d'.walks) + (5 - length d'.potentials) < (4 - length d.walks) + (5 - length d.potentials) → Completes d') → Completes d
    by true t rest = all_read d ok t
    by false t rest = by_head d.head refl
      where
        whole_at : (head : Head) → d.head ≡ head → is_whole_with head (has_walks d) (has_proof_or_none d.direct d.potentials) ≡ false
        whole_at head k = sym (ap (λ (x : Head). is_whole_with x (has_walks d) (has_proof_or_none d.direct d.potentials)) k) ∙ t

        legs : (head : Head) → d.head ≡ head → is_commit head ≡ is_commit head → (most_walks_of head ≡ 0 → ⊥) → HasLegs d.head
        legs head k c some = pick (legs_of d.head ok.valid)
          where
            pick : (most_walks_of d.head ≡ 0) ⊎ HasLegs d.head → HasLegs d.head
            pick (inl none) = absurd (some (sym (ap most_walks_of k) ∙ none))
            pick (inr l) = l

        by_head : (head : Head) → d.head ≡ head → Completes d
        by_head (Asked asked) k =
            let step : draft_step d (120 ∷ spaced (asked.0 ∷ []) ++ 32 ∷ cancel_reason_text why.Unknown) ≡ Some (record d { head = Declined asked why.Unknown }) =
            ap (λ (x : Head). with_head d (refused_head x d.served (spaced (asked.0 ∷ []) ++ 32 ∷ cancel_reason_text why.Unknown))) k
            ∙ ap (λ o. with_head d (and_then o (λ (r : CancelReason). Some (Declined asked r)))) (cancel_refusal_read asked why.Unknown (le_from asked.0 largest_number (sym (ap is_head k) ∙ ok.valid))) in
            line_more d (120 ∷ spaced (asked.0 ∷ []) ++ 32 ∷ cancel_reason_text why.Unknown) (record d { head = Declined asked why.Unknown }) ok step (λ ok'. all_read (record d { head = Declined asked why.Unknown }) ok' refl)
        by_head (Offer asked o) k = by_walks (has_walks d) refl
          where
            by_walks : (w : Bool) → has_walks d ≡ w → Completes d
            by_walks false w = walk_more d ok (legs (Offer asked o) k refl (some_walks (o.at.i == o.at.j))) w rest
              where
                some_walks : (b : Bool) → ◌≡◌ {A = ℕ} (cond b 3 4) 0 → ⊥
                some_walks true e = absurd (omega (arith, e))
                some_walks false e = absurd (omega (arith, e))
            by_walks true w =
                proof_more d ok (ap is_commit k) w (sym (ap (λ x. x && has_proof_or_none d.direct d.potentials) w) ∙ whole_at (Offer asked o) k)
                (λ direct p. ap (λ (x : Head). is_whole_with x (has_walks d) (has_proof_or_none direct d.potentials)) k ∙ both_hold (has_walks d) (has_proof_or_none direct d.potentials) w p) rest
        by_head (Nobody asked) k =
            let w : has_walks d ≡ true = ap (λ (x : Head). nat_le (most_walks_of x) (length d.walks + 1)) k ∙ le_holds 0 (length d.walks + 1) (omega arith) in
            proof_more d ok (ap is_commit k) w (whole_at (Nobody asked) k) (λ direct p. ap (λ (x : Head). is_whole_with x (has_walks d) (has_proof_or_none direct d.potentials)) k ∙ p) rest
        by_head (Removal asked x) k = walk_more d ok (legs (Removal asked x) k refl (some_walks (x.dropoff == x.pickup + 1))) (whole_at (Removal asked x) k) rest
          where
            some_walks : (b : Bool) → ◌≡◌ {A = ℕ} (cond b 1 2) 0 → ⊥
            some_walks true e = absurd (omega (arith, e))
            some_walks false e = absurd (omega (arith, e))
        by_head head k = absurd (other head k (whole_at head k))
          where
            other : (head : Head) → d.head ≡ head → true ≡ false → ⊥
            other head k e = absurd cc
