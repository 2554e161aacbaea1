use Rattle.std.proofs.Common.{◌≡◌, ◌⊎◌, inl, inr, ℕ, zero, suc, ◌+◌, ◌-◌, ◌%◌, ◌^◌, ◌≤◌, ◌<◌, ◌==◌, Bool, true, false, ◌&&◌, cond, List, [], ◌∷◌, ◌++◌, length, flat_map, Option, Some, None, refl, sym, ap, ◌∙◌, subst, append_assoc, append-nil, length-append, arith, codes}
use Rattle.std.proofs.lemmas.Bool.Decides.{nat_tests}
use Rattle.std.proofs.lemmas.List.Concat.{flat_map-append}
use Rattle.std.proofs.lemmas.Slice.Eq.{bytes_eq-Decides}
use Rattle.std.proofs.lemmas.List.Folds.{list_all-append}
use Rattle.std.specs.Prelude.{nat_le, nat_lt}
use Rattle.std.specs.List.{list_all}
use Rattle.std.specs.Str.{bytes_eq}
use Rattle.std.specs.Fmt.{decimal}
use Rattle.road_graph.specs.declared.road.NodeNo.{NodeNo}
use Rattle.plain_search.specs.declared.potential.Potential.{Potential}
use Rattle.ride_base.specs.declared.numbers.VehicleNo.{VehicleNo}
use Rattle.stop_advance.specs.declared.served.Served.{Served}
use Rattle.stop_schedule.specs.declared.stop.Insertion.{Insertion}
use Rattle.board_core.specs.declared.entry.Reason.{Reason}
use Rattle.board_core.specs.declared.entry.CancelReason.{CancelReason}
use Rattle.board_core.specs.declared.entry.Submitted.TheVariants.{Accepted, Refused}
use Rattle.journal_text.specs.declared.heads.RemovalHead.{RemovalHead}
use Rattle.journal_text.specs.declared.heads.Head.{Head}
use Rattle.journal_text.specs.declared.heads.Head.TheVariants.{Ride, Offer, Nobody, Clock, Behind, Asked, Declined, Removal}
use Rattle.journal_text.specs.declared.draft.Direct.{Direct}
use Rattle.journal_text.specs.declared.draft.Direct.TheVariants.{Ahead, Absent, Walk}
use Rattle.journal_text.specs.declared.draft.Draft.{Draft}
use Rattle.journal_text.specs.Groups.{spaced, ride_line, refusal_line, served_line, walk_lines, reason_text, nodes_after}
use Rattle.journal_text.specs.Certificates.{numbered_lines, potential_lines, direct_lines, rest_text, pairs_after}
use Rattle.journal_text.specs.TextGroups.{is_full_walk, last_walk, is_field_end}
use Rattle.journal_text.specs.Forms.{is_32, is_number, largest_position, most_nodes, latest_clock, is_served_text, is_walk_text, is_potential_text, is_rest_text, do_rise, rise_above}
use Rattle.journal_text.specs.LineParts.{and_then}
use Rattle.journal_text.specs.LineRuns.{nodes_of_line, pairs_of_line}
use Rattle.journal_text.specs.LineHeads.{head_in, refusal_in, cancel_refusal_in, behind_in, removal_in, served_in}
use Rattle.journal_text.specs.Drafts.{most_walks_of, has_walks, is_empty, is_clock, changed_leg_of, joined_leg_of, leg_of, with_head, refused_head, removed_head, refuse_step, remove_step, serve_step, next_leg_of, walk_step, behind_the, rest_at_end, next_number_with, potential_step, replaced_last, lengthened, open_leg_of, longer_step, last_listed, last_node_of, are_pairs_full_in, with_pairs, is_ahead, pairs_step, wants_direct_with, with_direct, walk_direct, direct_in, direct_step, longer_direct_in, longer_direct_step, draft_step, new_draft, draft_of_line}
use Rattle.journal_text.specs.DraftTexts.{is_offer_head, is_removal_head, is_head, head_text, leg_at, walks_from, first_number, direct_text, draft_text, is_commit, most_potentials_of, is_direct_draft, IsDraft}
use Rattle.journal_text.proofs.Spelling.{both, both_hold, le_holds, le_from, same_value, is_clean, clean_append, clean_decimal, short_decimal, was_then, was_if}
use Rattle.journal_text.proofs.LongLines.{length-nodes, length-pairs, numbers_of_items, node_number, pair_numbers, nodes_are, direct_is, pairs_are, after_short, after_more, full_64, full_32}
use Rattle.journal_text.proofs.HeadsRead.{first_was}
use Rattle.journal_text.proofs.PartsRead.{is_node_text, is_pair_text, WasLine, refusal_was, cancel_refusal_was, behind_was, removal_was, served_was, the_number_was, rest_was, nodes_were, rise_from, pairs_were}

-- the first field of a line is one letter
abbrev pub has_letter : List ℕ → Bool
has_letter [] = false
has_letter (letter ∷ rest) = is_field_end rest

spaced_field : (rest ns : List ℕ) → rest ≡ spaced ns → is_field_end rest ≡ true
spaced_field rest [] e = ap is_field_end e
spaced_field rest (n ∷ ns) e = ap is_field_end e

-- A line that goes on with a group is what is printed behind it, and the group is as far as it was read still.

pub record WasStep (d : Draft) (line : List ℕ) (d' : Draft) : Type 0 where
  pub spelled : draft_text d' ≡ draft_text d ++ (line ++ 10 ∷ [])
  pub clean : is_clean line ≡ true
  pub field : has_letter line ≡ true
  pub short : length line ≤ 65536
  pub draft : IsDraft d'
  pub same : d'.line ≡ d.line

-- a group of which only heads were read
record IsBare (d : Draft) : Type 0 where
  stops : d.served ≡ []
  walks : d.walks ≡ []
  potentials : d.potentials ≡ []
  direct : d.direct ≡ Ahead

pub no_length : {X : Type 0} (xs : List X) → length xs ≤ 0 → xs ≡ []
no_length [] h = refl
no_length (x ∷ xs) h = absurd (omega arith)

-- only answers have a direct walk
pub not_direct : (head : Head) (potentials : List Potential) (direct : Direct) → (is_commit head && length potentials == 4) ≡ false → is_direct_draft head potentials direct ≡ true → direct ≡ Ahead
not_direct head potentials Ahead asked e = refl
not_direct head potentials Absent asked e = absurd cc
not_direct head potentials (Walk nodes) asked e =
    let h = both (is_commit head && length potentials == 4) (is_walk_text nodes) e in
    absurd cc

stops_of_bare : (d : Draft) → IsDraft d → is_clock d.head ≡ false ⊎ (d.served ≡ []) → d.served ≡ []
stops_of_bare d ok (inl clock) = ok.still clock
stops_of_bare d ok (inr none) = none

bare : (d : Draft) → IsDraft d → is_clock d.head ≡ false ⊎ (d.served ≡ []) → most_walks_of d.head ≡ 0 → most_potentials_of d.head 0 ≡ 0 → is_commit d.head ≡ false → IsBare d
bare d ok clock walks potentials commit =
    let none : d.walks ≡ [] = no_length d.walks (omega (arith, ok.few_walks, walks)) in
    let bound : length d.potentials ≤ most_potentials_of d.head 0 = subst (λ (w : List (List NodeNo)). length d.potentials ≤ most_potentials_of d.head (length w)) none ok.few in
    record {
      stops = stops_of_bare d ok clock;
      walks = none;
      potentials = no_length d.potentials (omega (arith, bound, potentials));
      direct = not_direct d.head d.potentials d.direct (ap (λ t. t && length d.potentials == 4) commit) ok.is_direct;
    }

abbrev bare_draft : ℕ → Head → Draft
bare_draft line head = new_draft line head

pub bare_text : (line : ℕ) (head : Head) → draft_text (bare_draft line head) ≡ head_text head
bare_text line head = append-nil (head_text head ++ [] ++ [] ++ []) ∙ append-nil (head_text head ++ [] ++ []) ∙ append-nil (head_text head ++ []) ∙ append-nil (head_text head)

is_bare : (d : Draft) (head : Head) → d.head ≡ head → IsBare d → d ≡ bare_draft d.line head
is_bare d head e b = λ i. record { line = d.line; head = e i; served = b.stops i; walks = b.walks i; potentials = b.potentials i; direct = b.direct i }

pub bare_is_draft : (line : ℕ) (head : Head) → is_head head ≡ true → IsDraft (bare_draft line head)
bare_is_draft line head valid = record {
  valid = valid;
  stops = refl;
  still = λ e. refl;
  few_walks = omega arith;
  are_walks = refl;
  few = omega arith;
  are_potentials = refl;
  begun = λ e. absurd cc;
  is_direct = refl;
}

-- a head in the place of another one
other_head : (line : ℕ) (head head' : Head) (letter : ℕ) (rest text : List ℕ) → head_text head' ≡ head_text head ++ text → WasLine letter rest text → nat_le 32 letter ≡ true → is_head head' ≡ true
    → WasStep (bare_draft line head) (letter ∷ rest) (bare_draft line head')
other_head line head head' letter rest text printed was low valid = record {
  spelled = bare_text line head' ∙ printed ∙ ap (λ l. head_text head ++ l) was.spelled ∙ ap (λ l. l ++ ((letter ∷ rest) ++ 10 ∷ [])) (sym (bare_text line head));
  clean = both_hold (nat_le 32 letter) (is_clean rest) low was.clean;
  field = was.field;
  short = omega (arith, was.short);
  draft = bare_is_draft line head' valid;
  same = refl;
}

put_head : (d : Draft) (head head' : Head) (letter : ℕ) (rest text : List ℕ) → IsDraft d → d.head ≡ head → is_clock head ≡ false ⊎ (d.served ≡ []) → most_walks_of head ≡ 0 → most_potentials_of head 0 ≡ 0
    → is_commit head ≡ false → head_text head' ≡ head_text head ++ text → WasLine letter rest text → nat_le 32 letter ≡ true → is_head head' ≡ true
    → WasStep d (letter ∷ rest) (record d { head = head' })
put_head d head head' letter rest text ok h clock walks potentials commit printed was low valid =
    let b = bare d ok (stands clock) (ap most_walks_of h ∙ walks) (ap (λ x. most_potentials_of x 0) h ∙ potentials) (ap is_commit h ∙ commit) in
    subst (λ (x : Draft). WasStep x (letter ∷ rest) (record x { head = head' })) (sym (is_bare d head h b)) (other_head d.line head head' letter rest text printed was low valid)
  where
    stands : is_clock head ≡ false ⊎ (d.served ≡ []) → is_clock d.head ≡ false ⊎ (d.served ≡ [])
    stands (inl e) = inl (ap is_clock h ∙ e)
    stands (inr e) = inr e

pub with_head_was : (d d' : Draft) (o : Option Head) → with_head d o ≡ Some d' → (head : Head) × (o ≡ Some head) × (record d { head = head } ≡ d')
with_head_was d d' None e = absurd cc
with_head_was d d' (Some head) e = (head, refl, same_value (record d { head = head }) d' e)

refuse_was : (d : Draft) (rest : List ℕ) (d' : Draft) → IsDraft d → refuse_step d rest ≡ Some d' → WasStep d (120 ∷ rest) d'
refuse_was d rest d' ok e =
    let w = with_head_was d d' (refused_head d.head d.served rest) e in
    subst (WasStep d (120 ∷ rest)) w.2 (by d.head d.served refl refl w.0 w.1)
  where
    by : (head : Head) (served : List (VehicleNo × Served)) → d.head ≡ head → d.served ≡ served → (head' : Head) → refused_head head served rest ≡ Some head' → WasStep d (120 ∷ rest) (record d { head = head' })
    by (Ride r Accepted) served h s head' f =
        let a = was_then (refusal_in rest r.no) (λ (reason : Reason). Some (Ride r (Refused reason))) head' f in
        subst (λ (x : Head). WasStep d (120 ∷ rest) (record d { head = x })) (same_value (Ride r (Refused a.value)) head' a.gave)
        (put_head d (Ride r Accepted) (Ride r (Refused a.value)) 120 rest _ ok h (inl refl) refl refl refl (ap (λ l. l ++ refusal_line r.no.0 (reason_text a.value)) (sym (append-nil (ride_line r)))) (refusal_was rest r.no a.value a.was) refl (sym (ap is_head h) ∙ ok.valid))
    by (Clock now) [] h s head' f =
        let a = was_then (behind_in rest) (λ (clock : ℕ). Some (Behind now clock)) head' f in
        let b = behind_was rest a.value a.was in
        subst (λ (x : Head). WasStep d (120 ∷ rest) (record d { head = x })) (same_value (Behind now a.value) head' a.gave)
        (put_head d (Clock now) (Behind now a.value) 120 rest _ ok h (inr s) refl refl refl refl b.0 refl (both_hold (nat_le now latest_clock) (nat_le a.value latest_clock) (sym (ap is_head h) ∙ ok.valid) b.1))
    by (Asked asked) served h s head' f =
        let a = was_then (cancel_refusal_in rest asked) (λ (reason : CancelReason). Some (Declined asked reason)) head' f in
        subst (λ (x : Head). WasStep d (120 ∷ rest) (record d { head = x })) (same_value (Declined asked a.value) head' a.gave)
        (put_head d (Asked asked) (Declined asked a.value) 120 rest _ ok h (inl refl) refl refl refl refl (cancel_refusal_was rest asked a.value a.was) refl (sym (ap is_head h) ∙ ok.valid))
    by head served h s head' f = absurd cc

remove_was : (d : Draft) (rest : List ℕ) (d' : Draft) → IsDraft d → remove_step d rest ≡ Some d' → WasStep d (111 ∷ rest) d'
remove_was d rest d' ok e =
    let w = with_head_was d d' (removed_head d.head rest) e in
    subst (WasStep d (111 ∷ rest)) w.2 (by d.head refl w.0 w.1)
  where
    by : (head : Head) → d.head ≡ head → (head' : Head) → removed_head head rest ≡ Some head' → WasStep d (111 ∷ rest) (record d { head = head' })
    by (Asked asked) h head' f =
        let a = was_then (removal_in rest asked) (λ (x : RemovalHead). Some (Removal asked x)) head' f in
        let r = removal_was rest asked a.value a.was in
        subst (λ (x : Head). WasStep d (111 ∷ rest) (record d { head = x })) (same_value (Removal asked a.value) head' a.gave)
        (put_head d (Asked asked) (Removal asked a.value) 111 rest _ ok h (inl refl) refl refl refl refl r.0 refl (both_hold (is_number asked.0) (is_removal_head a.value) (sym (ap is_head h) ∙ ok.valid) r.1))
    by head h head' f = absurd cc

-- The other lines go behind some of the parts where nothing stands behind them yet.

behind_parts : (h s w p : List ℕ) (more : List ℕ) → h ++ s ++ w ++ (p ++ more) ≡ h ++ s ++ w ++ p ++ more
behind_parts h s w p more = sym (append_assoc (h ++ s ++ w) p more)

-- a stop at the end
served_was_step : (d : Draft) (rest : List ℕ) (d' : Draft) → IsDraft d → serve_step d rest ≡ Some d' → WasStep d (115 ∷ rest) d'
served_was_step d rest d' ok e =
    let t = was_if (is_clock d.head) (and_then (served_in rest) (λ (stop : VehicleNo × Served). Some (record d { served = d.served ++ stop ∷ [] }))) d' e in
    let a = was_then (served_in rest) (λ (stop : VehicleNo × Served). Some (record d { served = d.served ++ stop ∷ [] })) d' t.1 in
    let w = served_was rest a.value a.was in
    subst (WasStep d (115 ∷ rest)) (same_value (record d { served = d.served ++ a.value ∷ [] }) d' a.gave)
    (by d.head refl t.0 a.value w.0 w.1)
  where
    ends : (x : List ℕ) → x ++ [] ++ [] ++ [] ≡ x
    ends x = append-nil (x ++ [] ++ []) ∙ append-nil (x ++ []) ∙ append-nil x

    by : (head : Head) → d.head ≡ head → is_clock head ≡ true → (stop : VehicleNo × Served) → WasLine 115 rest (served_line stop) → is_served_text stop ≡ true → WasStep d (115 ∷ rest) (record d { served = d.served ++ stop ∷ [] })
    by (Clock now) h t stop line valid =
        let walks : d.walks ≡ [] = no_length d.walks (omega (arith, ok.few_walks, ap most_walks_of h)) in
        let bound : length d.potentials ≤ most_potentials_of (Clock now) (length d.walks) = subst (λ (x : Head). length d.potentials ≤ most_potentials_of x (length d.walks)) h ok.few in
        let potentials : d.potentials ≡ [] = no_length d.potentials bound in
        let direct : d.direct ≡ Ahead = not_direct d.head d.potentials d.direct (ap (λ x. is_commit x && length d.potentials == 4) h) ok.is_direct in
        let same : d ≡ record { line = d.line; head = Clock now; served = d.served; walks = []; potentials = []; direct = Ahead } =
        λ i. record { line = d.line; head = h i; served = d.served; walks = walks i; potentials = potentials i; direct = direct i } in
        subst (λ (x : Draft). WasStep x (115 ∷ rest) (record x { served = x.served ++ stop ∷ [] })) (sym same) (record {
          spelled = ends (head_text (Clock now) ++ flat_map served_line (d.served ++ stop ∷ []))
              ∙ ap (λ l. head_text (Clock now) ++ l) (flat_map-append served_line d.served (stop ∷ []) ∙ ap (λ l. flat_map served_line d.served ++ l) (append-nil (served_line stop) ∙ line.spelled))
              ∙ sym (append_assoc (head_text (Clock now)) (flat_map served_line d.served) ((115 ∷ rest) ++ 10 ∷ []))
              ∙ ap (λ l. l ++ ((115 ∷ rest) ++ 10 ∷ [])) (sym (ends (head_text (Clock now) ++ flat_map served_line d.served)));
          clean = line.clean;
          field = line.field;
          short = omega (arith, line.short);
          draft = record {
            valid = sym (ap is_head h) ∙ ok.valid;
            stops = list_all-append is_served_text d.served (stop ∷ []) ∙ both_hold (list_all is_served_text d.served) (is_served_text stop && true) ok.stops (both_hold (is_served_text stop) true valid refl);
            still = λ f. absurd cc;
            few_walks = omega arith;
            are_walks = refl;
            few = omega arith;
            are_potentials = refl;
            begun = λ f. absurd cc;
            is_direct = refl;
          };
          same = refl;
        })
    by head h t stop line valid = absurd cc

-- Walks.

pub walks_from-append : (head : Head) (index : ℕ) (walks : List (List NodeNo)) (nodes : List NodeNo)
    → walks_from head index (walks ++ nodes ∷ []) ≡ walks_from head index walks ++ walk_lines (leg_at head (index + length walks)) nodes
walks_from-append head index [] nodes =
    append-nil (walk_lines (leg_at head index) nodes) ∙ ap (λ k. walk_lines (leg_at head k) nodes) (omega arith)
walks_from-append head index (walk ∷ walks) nodes =
    ap (λ l. walk_lines (leg_at head index) walk ++ l) (walks_from-append head (index + 1) walks nodes)
    ∙ sym (append_assoc (walk_lines (leg_at head index) walk) (walks_from head (index + 1) walks) (walk_lines (leg_at head (index + 1 + length walks)) nodes))
    ∙ ap (λ k. walk_lines (leg_at head index) walk ++ walks_from head (index + 1) walks ++ walk_lines (leg_at head k) nodes) (omega arith)

-- the walks with more lines behind the last of them
pub walks_from-replaced : (head : Head) (index : ℕ) (walks : List (List NodeNo)) (walk : List NodeNo) (more : List ℕ) → 1 ≤ length walks
    → walk_lines (leg_at head (index + (length walks - 1))) walk ≡ walk_lines (leg_at head (index + (length walks - 1))) (last_walk walks) ++ more
    → walks_from head index (replaced_last walks walk) ≡ walks_from head index walks ++ more
walks_from-replaced head index [] walk more some e = absurd (omega arith)
walks_from-replaced head index (w ∷ []) walk more some e =
    let k : index + (length (w ∷ []) - 1) ≡ index = omega arith in
    let f : walk_lines (leg_at head index) walk ≡ walk_lines (leg_at head index) w ++ more = subst (λ i. walk_lines (leg_at head i) walk ≡ walk_lines (leg_at head i) w ++ more) k e in
    ap (λ l. l ++ []) f ∙ append-nil (walk_lines (leg_at head index) w ++ more) ∙ ap (λ l. l ++ more) (sym (append-nil (walk_lines (leg_at head index) w)))
walks_from-replaced head index (w ∷ next ∷ walks) walk more some e =
    let k : index + (length (w ∷ next ∷ walks) - 1) ≡ index + 1 + (length (next ∷ walks) - 1) = omega arith in
    let f = subst (λ i. walk_lines (leg_at head i) walk ≡ walk_lines (leg_at head i) (last_walk (next ∷ walks)) ++ more) k e in
    ap (λ l. walk_lines (leg_at head index) w ++ l) (walks_from-replaced head (index + 1) (next ∷ walks) walk more (omega arith) f)
    ∙ sym (append_assoc (walk_lines (leg_at head index) w) (walks_from head (index + 1) (next ∷ walks)) more)

-- the legs that walks have
record IsLeg (head : Head) (index leg : ℕ) : Type 0 where
  is : leg_at head index ≡ leg
  small : leg < 2 ^ 64
  walks : is_clock head ≡ false

leg_was : (head : Head) (index leg : ℕ) → is_head head ≡ true → leg_of head index ≡ Some leg → IsLeg head index leg
leg_was (Offer asked o) index leg valid e =
    let a = both (is_number asked.0) (is_offer_head o) valid in
    let b = both (is_32 o.no.0) _ a.1 in
    let c = both (nat_le o.at.i o.at.j) _ b.1 in
    let d = both (nat_le o.at.j largest_position) _ c.1 in
    let order = le_from o.at.i o.at.j c.0 in
    let bound = le_from o.at.j largest_position d.0 in
    let same = same_value (changed_leg_of o.at index) leg e in
    record { is = same; small = subst (λ k. k < 2 ^ 64) same (omega (arith, small_changed o.at index order bound)); walks = refl }
  where
    small_changed : (at : Insertion) (index : ℕ) → at.i ≤ at.j → at.j ≤ 64 → changed_leg_of at index ≤ 67
    small_changed at zero p q = omega (arith, p, q)
    small_changed at (suc zero) p q = omega (arith, p, q)
    small_changed at (suc (suc zero)) p q = by (at.i == at.j)
      where
        by : (t : Bool) → cond t (at.i + 2) (at.j + 1) ≤ 67
        by true = omega (arith, p, q)
        by false = omega (arith, p, q)
    small_changed at (suc (suc (suc index))) p q = omega (arith, p, q)
leg_was (Removal asked x) index leg valid e =
    let a = both (is_number asked.0) (is_removal_head x) valid in
    let b = both (is_32 x.no.0) _ a.1 in
    let c = both (nat_le 1 x.pickup) _ b.1 in
    let d = both (nat_lt x.pickup x.dropoff) (nat_le x.dropoff largest_position) c.1 in
    let order : x.pickup < x.dropoff = grind (arith, nat_tests, d.0) in
    let bound = le_from x.dropoff largest_position d.1 in
    let same = same_value (joined_leg_of x index) leg e in
    record { is = same; small = subst (λ k. k < 2 ^ 64) same (omega (arith, small_joined x index order bound)); walks = refl }
  where
    small_joined : (x : RemovalHead) (index : ℕ) → x.pickup < x.dropoff → x.dropoff ≤ 64 → joined_leg_of x index ≤ 67
    small_joined x zero p q = omega (arith, p, q)
    small_joined x (suc index) p q = omega (arith, p, q)
leg_was head index leg valid e = absurd cc

pub none_listed : (xs : List Potential) → is_empty xs ≡ true → xs ≡ []
none_listed [] e = refl
none_listed (x ∷ xs) e = absurd cc

-- nothing of a certificate was read
no_direct : (d : Draft) → IsDraft d → d.potentials ≡ [] → d.direct ≡ Ahead
no_direct d ok e = not_direct d.head d.potentials d.direct (ap (λ ps. is_commit d.head && length ps == 4) e ∙ never (is_commit d.head)) ok.is_direct
  where
    never : (t : Bool) → (t && false) ≡ false
    never true = refl
    never false = refl

-- other walks, where nothing of a certificate was read
other_walks : (d : Draft) (walks : List (List NodeNo)) (line : List ℕ) → IsDraft d → d.potentials ≡ [] → is_clean line ≡ true → has_letter line ≡ true → length line ≤ 65536
    → walks_from d.head 0 walks ≡ walks_from d.head 0 d.walks ++ (line ++ 10 ∷ []) → length walks ≤ most_walks_of d.head → list_all is_walk_text walks ≡ true
    → WasStep d line (record d { walks = walks })
other_walks d walks line ok none clean field short printed few valid =
    let direct = no_direct d ok none in
    let same : d ≡ record { line = d.line; head = d.head; served = d.served; walks = d.walks; potentials = []; direct = Ahead } =
    λ i. record { line = d.line; head = d.head; served = d.served; walks = d.walks; potentials = none i; direct = direct i } in
    subst (λ (x : Draft). WasStep x line (record x { walks = walks })) (sym same) (record {
      spelled = ends (head_text d.head ++ flat_map served_line d.served ++ walks_from d.head 0 walks)
          ∙ ap (λ l. head_text d.head ++ flat_map served_line d.served ++ l) printed
          ∙ sym (append_assoc (head_text d.head ++ flat_map served_line d.served) (walks_from d.head 0 d.walks) (line ++ 10 ∷ []))
          ∙ ap (λ l. l ++ (line ++ 10 ∷ [])) (sym (ends (head_text d.head ++ flat_map served_line d.served ++ walks_from d.head 0 d.walks)));
      clean = clean;
      field = field;
      short = short;
      draft = record {
        valid = ok.valid;
        stops = ok.stops;
        still = ok.still;
        few_walks = few;
        are_walks = valid;
        few = omega arith;
        are_potentials = refl;
        begun = λ f. absurd cc;
        is_direct = refl;
      };
      same = refl;
    })
  where
    ends : (x : List ℕ) → x ++ [] ++ [] ≡ x
    ends x = append-nil (x ++ []) ∙ append-nil x

-- what is printed of a walk on one line
pub walk_line : (leg : ℕ) (nodes : List NodeNo) → length nodes ≤ 64 → walk_lines leg nodes ≡ (103 ∷ 32 ∷ decimal leg ++ spaced (numbers_of_items node_number nodes)) ++ 10 ∷ []
walk_line leg nodes few =
    ap (λ l. 103 ∷ spaced (leg ∷ []) ++ l) (nodes_are leg 64 nodes ∙ after_short node_number (104 ∷ 32 ∷ decimal leg) 63 64 nodes few)
    ∙ ap (λ l. 103 ∷ 32 ∷ l ++ (spaced (numbers_of_items node_number nodes) ++ 10 ∷ [])) (append-nil (decimal leg))
    ∙ sym (append_assoc (103 ∷ 32 ∷ decimal leg) (spaced (numbers_of_items node_number nodes)) (10 ∷ []))

walk_texts : (nodes : List NodeNo) → 1 ≤ length nodes → length nodes ≤ most_nodes → list_all is_node_text nodes ≡ true → is_walk_text nodes ≡ true
walk_texts nodes some few valid = both_hold _ _ (le_holds 1 (length nodes) some) (both_hold _ _ (le_holds (length nodes) most_nodes few) valid)

walk_was : (d : Draft) (rest : List ℕ) (d' : Draft) → IsDraft d → walk_step d rest ≡ Some d' → WasStep d (103 ∷ rest) d'
walk_was d rest d' ok e =
    let a = was_then (next_leg_of d) _ d' e in
    let t = was_if (is_empty d.potentials && nat_lt (length d.walks) (most_walks_of d.head)) (leg_of d.head (length d.walks)) a.value a.was in
    let u = both (is_empty d.potentials) (nat_lt (length d.walks) (most_walks_of d.head)) t.0 in
    let room : length d.walks < most_walks_of d.head = grind (arith, nat_tests, u.1) in
    let leg = leg_was d.head (length d.walks) a.value ok.valid t.1 in
    let b = was_then (behind_the rest a.value) _ d' a.gave in
    let n = the_number_was rest b.value a.value leg.small b.was in
    let c = was_then (nodes_of_line b.value) _ d' b.gave in
    let w = nodes_were b.value c.value c.was in
    let line : 103 ∷ rest ≡ 103 ∷ 32 ∷ decimal a.value ++ spaced (numbers_of_items node_number c.value) = ap (λ l. 103 ∷ l) (n ∙ ap (λ l. 32 ∷ decimal a.value ++ l) w.were.spaced_.spelled) in
    let at : leg_at d.head (0 + length d.walks) ≡ a.value = ap (leg_at d.head) (omega arith) ∙ leg.is in
    subst (WasStep d (103 ∷ rest)) (same_value (record d { walks = d.walks ++ c.value ∷ [] }) d' c.gave)
    (other_walks d (d.walks ++ c.value ∷ []) (103 ∷ rest) ok (none_listed d.potentials u.0)
    (ap is_clean n ∙ clean_append (decimal a.value) b.value (clean_decimal a.value leg.small) w.were.spaced_.clean)
    (ap is_field_end n)
    (omega (arith, ap length n, length-append (32 ∷ decimal a.value) b.value, short_decimal a.value leg.small, w.were.spaced_.short, length-nodes c.value, w.were.few))
    (walks_from-append d.head 0 d.walks c.value ∙ ap (λ l. walks_from d.head 0 d.walks ++ l) (ap (λ k. walk_lines k c.value) at ∙ walk_line a.value c.value w.were.few ∙ ap (λ l. l ++ 10 ∷ []) (sym line)))
    (omega (arith, room, length-append d.walks (c.value ∷ [])))
    (list_all-append is_walk_text d.walks (c.value ∷ []) ∙ both_hold _ _ ok.are_walks (both_hold (is_walk_text c.value) true (walk_texts c.value w.some (omega (arith, w.were.few)) w.were.valid) refl)))

is_full : (nodes : List NodeNo) → is_full_walk nodes ≡ true → (1 ≤ length nodes) × (length nodes % 64 ≡ 0)
is_full [] e = absurd cc
is_full (n ∷ nodes) e = (omega arith, grind (arith, nat_tests, e))

some_walks : (walks : List (List NodeNo)) → 1 ≤ length (last_walk walks) → 1 ≤ length walks
some_walks [] h = absurd (omega arith)
some_walks (w ∷ walks) h = omega arith

pub length-replaced_last : {X : Type 0} (xs : List X) (x : X) → length (replaced_last xs x) ≡ length xs
length-replaced_last [] x = refl
length-replaced_last (y ∷ []) x = refl
length-replaced_last (y ∷ next ∷ ys) x = ap suc (length-replaced_last (next ∷ ys) x)

replaced_pass : (p : List NodeNo → Bool) (walks : List (List NodeNo)) (walk : List NodeNo) → list_all p walks ≡ true → p walk ≡ true → list_all p (replaced_last walks walk) ≡ true
replaced_pass p [] walk e f = refl
replaced_pass p (w ∷ []) walk e f = both_hold (p walk) true f refl
replaced_pass p (w ∷ next ∷ walks) walk e f =
    let a = both (p w) (list_all p (next ∷ walks)) e in
    both_hold (p w) (list_all p (replaced_last (next ∷ walks) walk)) a.0 (replaced_pass p (next ∷ walks) walk a.1 f)

last_pass : (p : List NodeNo → Bool) (walks : List (List NodeNo)) → list_all p walks ≡ true → 1 ≤ length walks → p (last_walk walks) ≡ true
last_pass p [] e some = absurd (omega arith)
last_pass p (w ∷ []) e some = (both (p w) true e).0
last_pass p (w ∷ next ∷ walks) e some = last_pass p (next ∷ walks) (both (p w) (list_all p (next ∷ walks)) e).1 (omega arith)

-- a full walk with a line more
longer_walk : (leg : ℕ) (walk nodes : List NodeNo) → is_full_walk walk ≡ true → 1 ≤ length nodes → length nodes ≤ 64
    → walk_lines leg (walk ++ nodes) ≡ walk_lines leg walk ++ ((104 ∷ 32 ∷ decimal leg ++ spaced (numbers_of_items node_number nodes)) ++ 10 ∷ [])
longer_walk leg [] nodes full some few = absurd cc
longer_walk leg (w ∷ walk) [] full some few = absurd (omega arith)
longer_walk leg (w ∷ walk) (n ∷ nodes) full some few =
    let whole = is_full (w ∷ walk) full in
    ap (λ l. 103 ∷ spaced (leg ∷ []) ++ l) (nodes_are leg 64 ((w ∷ walk) ++ n ∷ nodes)
    ∙ after_more node_number (104 ∷ 32 ∷ decimal leg) 63 64 (w ∷ walk) n nodes (full_64 w walk whole.1) (omega arith)
    ∙ ap (λ l. l ++ (104 ∷ 32 ∷ decimal leg ++ spaced (numbers_of_items node_number (n ∷ nodes)) ++ 10 ∷ [])) (sym (nodes_are leg 64 (w ∷ walk))))
    ∙ sym (append_assoc (103 ∷ spaced (leg ∷ [])) (nodes_after leg 64 (w ∷ walk)) (104 ∷ 32 ∷ decimal leg ++ spaced (numbers_of_items node_number (n ∷ nodes)) ++ 10 ∷ []))

longer_was : (d : Draft) (rest : List ℕ) (d' : Draft) → IsDraft d → longer_step d rest ≡ Some d' → WasStep d (104 ∷ rest) d'
longer_was d rest d' ok e =
    let a = was_then (open_leg_of d) _ d' e in
    let t = was_if (is_empty d.potentials && is_full_walk (last_walk d.walks)) (leg_of d.head (length d.walks - 1)) a.value a.was in
    let u = both (is_empty d.potentials) (is_full_walk (last_walk d.walks)) t.0 in
    let whole = is_full (last_walk d.walks) u.1 in
    let some = some_walks d.walks whole.0 in
    let leg = leg_was d.head (length d.walks - 1) a.value ok.valid t.1 in
    let b = was_then (behind_the rest a.value) _ d' a.gave in
    let n = the_number_was rest b.value a.value leg.small b.was in
    let c = was_then (nodes_of_line b.value) _ d' b.gave in
    let w = nodes_were b.value c.value c.was in
    let f = was_then (lengthened (last_walk d.walks) c.value) _ d' c.gave in
    let g = was_if (nat_le (length (last_walk d.walks) + length c.value) most_nodes) (Some (last_walk d.walks ++ c.value)) f.value f.was in
    let longer = same_value (last_walk d.walks ++ c.value) f.value g.1 in
    let room = le_from (length (last_walk d.walks) + length c.value) most_nodes g.0 in
    let line : 104 ∷ rest ≡ 104 ∷ 32 ∷ decimal a.value ++ spaced (numbers_of_items node_number c.value) = ap (λ l. 104 ∷ l) (n ∙ ap (λ l. 32 ∷ decimal a.value ++ l) w.were.spaced_.spelled) in
    let at : leg_at d.head (0 + (length d.walks - 1)) ≡ a.value = ap (leg_at d.head) (omega arith) ∙ leg.is in
    let printed : walk_lines (leg_at d.head (0 + (length d.walks - 1))) f.value ≡ walk_lines (leg_at d.head (0 + (length d.walks - 1))) (last_walk d.walks) ++ ((104 ∷ rest) ++ 10 ∷ []) =
    subst (λ k. walk_lines k f.value ≡ walk_lines k (last_walk d.walks) ++ ((104 ∷ rest) ++ 10 ∷ [])) (sym at)
    (ap (walk_lines a.value) (sym longer) ∙ longer_walk a.value (last_walk d.walks) c.value u.1 w.some w.were.few
    ∙ ap (λ l. walk_lines a.value (last_walk d.walks) ++ (l ++ 10 ∷ [])) (sym line)) in
    let last = last_pass is_walk_text d.walks ok.are_walks some in
    let nodes = both (nat_le (length (last_walk d.walks)) most_nodes) _ (both (nat_le 1 (length (last_walk d.walks))) _ last).1 in
    let valid : is_walk_text f.value ≡ true = subst (λ (x : List NodeNo). is_walk_text x ≡ true) longer
    (walk_texts (last_walk d.walks ++ c.value) (omega (arith, whole.0, length-append (last_walk d.walks) c.value)) (omega (arith, room, length-append (last_walk d.walks) c.value))
    (list_all-append is_node_text (last_walk d.walks) c.value ∙ both_hold _ _ nodes.1 w.were.valid)) in
    subst (WasStep d (104 ∷ rest)) (same_value (record d { walks = replaced_last d.walks f.value }) d' f.gave)
    (other_walks d (replaced_last d.walks f.value) (104 ∷ rest) ok (none_listed d.potentials u.0)
    (ap is_clean n ∙ clean_append (decimal a.value) b.value (clean_decimal a.value leg.small) w.were.spaced_.clean)
    (ap is_field_end n)
    (omega (arith, ap length n, length-append (32 ∷ decimal a.value) b.value, short_decimal a.value leg.small, w.were.spaced_.short, length-nodes c.value, w.were.few))
    (walks_from-replaced d.head 0 d.walks f.value ((104 ∷ rest) ++ 10 ∷ []) some printed)
    (omega (arith, ok.few_walks, length-replaced_last d.walks f.value))
    (replaced_pass is_walk_text d.walks f.value ok.are_walks valid))

-- Potentials.

pub numbered-append : (number : ℕ) (ps : List Potential) (p : Potential) → numbered_lines number (ps ++ p ∷ []) ≡ numbered_lines number ps ++ potential_lines (number + length ps) p
numbered-append number [] p = append-nil (potential_lines number p) ∙ ap (λ k. potential_lines k p) (omega arith)
numbered-append number (q ∷ ps) p =
    ap (λ l. potential_lines number q ++ l) (numbered-append (number + 1) ps p)
    ∙ sym (append_assoc (potential_lines number q) (numbered_lines (number + 1) ps) (potential_lines (number + 1 + length ps) p))
    ∙ ap (λ k. potential_lines number q ++ numbered_lines (number + 1) ps ++ potential_lines k p) (omega arith)

-- a potential with a line more
longer_potential : (number : ℕ) (p : Potential) (pairs : List (NodeNo × ℕ)) → length p.listed % 32 ≡ 0 → 1 ≤ length pairs → length pairs ≤ 32
    → potential_lines number (record p { listed = p.listed ++ pairs }) ≡ potential_lines number p ++ ((119 ∷ spaced (numbers_of_items pair_numbers pairs)) ++ 10 ∷ [])
longer_potential number p [] full some few = absurd (omega arith)
longer_potential number p (pair ∷ pairs) full some few =
    let opening : List ℕ = 117 ∷ spaced (number ∷ []) ++ 32 ∷ rest_text p.rest in
    ap (λ l. opening ++ l) (pairs_are 0 (p.listed ++ pair ∷ pairs) ∙ after_more pair_numbers (119 ∷ []) 31 0 p.listed pair pairs (full_32 p.listed full) (omega arith)
    ∙ ap (λ l. l ++ (119 ∷ [] ++ spaced (numbers_of_items pair_numbers (pair ∷ pairs)) ++ 10 ∷ [])) (sym (pairs_are 0 p.listed)))
    ∙ sym (append_assoc opening (pairs_after 0 p.listed) (119 ∷ [] ++ spaced (numbers_of_items pair_numbers (pair ∷ pairs)) ++ 10 ∷ []))

pub numbered-with_pairs : (number : ℕ) (ps : List Potential) (pairs : List (NodeNo × ℕ)) → are_pairs_full_in ps ≡ true → 1 ≤ length pairs → length pairs ≤ 32
    → numbered_lines number (with_pairs ps pairs) ≡ numbered_lines number ps ++ ((119 ∷ spaced (numbers_of_items pair_numbers pairs)) ++ 10 ∷ [])
numbered-with_pairs number [] pairs full some few = absurd cc
numbered-with_pairs number (p ∷ []) pairs full some few =
    let more : List ℕ = (119 ∷ spaced (numbers_of_items pair_numbers pairs)) ++ 10 ∷ [] in
    let whole : length p.listed % 32 ≡ 0 = grind (arith, nat_tests, full) in
    append-nil (potential_lines number (record p { listed = p.listed ++ pairs })) ∙ longer_potential number p pairs whole some few
    ∙ ap (λ l. l ++ more) (sym (append-nil (potential_lines number p)))
numbered-with_pairs number (p ∷ next ∷ ps) pairs full some few =
    let more : List ℕ = (119 ∷ spaced (numbers_of_items pair_numbers pairs)) ++ 10 ∷ [] in
    ap (λ l. potential_lines number p ++ l) (numbered-with_pairs (number + 1) (next ∷ ps) pairs full some few)
    ∙ sym (append_assoc (potential_lines number p) (numbered_lines (number + 1) (next ∷ ps)) more)

-- other potentials, where no direct walk was read
other_potentials : (d : Draft) (ps : List Potential) (line : List ℕ) → IsDraft d → d.direct ≡ Ahead → has_walks d ≡ true → is_clean line ≡ true → has_letter line ≡ true → length line ≤ 65536
    → numbered_lines (first_number d.head) ps ≡ numbered_lines (first_number d.head) d.potentials ++ (line ++ 10 ∷ []) → length ps ≤ most_potentials_of d.head (length d.walks) → list_all is_potential_text ps ≡ true
    → WasStep d line (record d { potentials = ps })
other_potentials d ps line ok direct walks clean field short printed few valid =
    let same : d ≡ record { line = d.line; head = d.head; served = d.served; walks = d.walks; potentials = d.potentials; direct = Ahead } =
    λ i. record { line = d.line; head = d.head; served = d.served; walks = d.walks; potentials = d.potentials; direct = direct i } in
    let front : List ℕ = head_text d.head ++ flat_map served_line d.served ++ walks_from d.head 0 d.walks in
    let number : ℕ = first_number d.head in
    subst (λ (x : Draft). WasStep x line (record x { potentials = ps })) (sym same) (record {
      spelled = append-nil (front ++ numbered_lines number ps)
          ∙ ap (λ l. front ++ l) printed
          ∙ sym (append_assoc front (numbered_lines number d.potentials) (line ++ 10 ∷ []))
          ∙ ap (λ l. l ++ (line ++ 10 ∷ [])) (sym (append-nil (front ++ numbered_lines number d.potentials)));
      clean = clean;
      field = field;
      short = short;
      draft = record {
        valid = ok.valid;
        stops = ok.stops;
        still = ok.still;
        few_walks = ok.few_walks;
        are_walks = ok.are_walks;
        few = few;
        are_potentials = valid;
        begun = λ f. walks;
        is_direct = refl;
      };
      same = refl;
    })

record IsNextNumber (head : Head) (direct : Direct) (has : Bool) (potentials walks number : ℕ) : Type 0 where
  has_them : has ≡ true
  is : first_number head + potentials ≡ number
  room : potentials < most_potentials_of head walks
  ahead : is_commit head ≡ true → direct ≡ Ahead

next_number_was : (head : Head) (direct : Direct) (has : Bool) (potentials walks number : ℕ) → next_number_with head direct has potentials walks ≡ Some number → IsNextNumber head direct has potentials walks number
next_number_was head direct false potentials walks number e = absurd cc
next_number_was (Offer asked o) Ahead true potentials walks number e =
    let t = was_if (nat_lt potentials 4) (Some (potentials + 1)) number e in
    record { has_them = refl; is = omega arith ∙ same_value (potentials + 1) number t.1; room = grind (arith, nat_tests, t.0); ahead = λ c. refl }
next_number_was (Nobody asked) Ahead true potentials walks number e =
    let t = was_if (nat_lt potentials 4) (Some (potentials + 1)) number e in
    record { has_them = refl; is = omega arith ∙ same_value (potentials + 1) number t.1; room = grind (arith, nat_tests, t.0); ahead = λ c. refl }
next_number_was (Removal asked x) direct true potentials walks number e =
    let t = was_if (nat_lt potentials walks) (Some (potentials + 5)) number e in
    record { has_them = refl; is = omega arith ∙ same_value (potentials + 5) number t.1; room = grind (arith, nat_tests, t.0); ahead = λ c. absurd cc }
next_number_was head direct true potentials walks number e = absurd cc

pub most_listed_few : (head : Head) (walks : ℕ) → walks ≤ most_walks_of head → most_potentials_of head walks ≤ 4
most_listed_few (Offer asked o) walks h = omega arith
most_listed_few (Nobody asked) walks h = omega arith
most_listed_few (Removal asked x) walks h = by (x.dropoff == x.pickup + 1) h
  where
    by : (t : Bool) → walks ≤ cond t 1 2 → walks ≤ 4
    by true h = omega (arith, h)
    by false h = omega (arith, h)
most_listed_few head walks h = omega arith

pub first_number_few : (head : Head) → first_number head ≤ 5
first_number_few (Removal asked x) = omega arith
first_number_few head = omega arith

ahead_of : (d : Draft) → IsDraft d → (is_commit d.head ≡ true → d.direct ≡ Ahead) → d.direct ≡ Ahead
ahead_of d ok commit = by (is_commit d.head) refl
  where
    by : (t : Bool) → is_commit d.head ≡ t → d.direct ≡ Ahead
    by true t = commit t
    by false t = not_direct d.head d.potentials d.direct (ap (λ b. b && length d.potentials == 4) t) ok.is_direct

potential_was : (d : Draft) (rest : List ℕ) (d' : Draft) → IsDraft d → potential_step d rest ≡ Some d' → WasStep d (117 ∷ rest) d'
potential_was d rest d' ok e =
    let a = was_then (next_number_with d.head d.direct (has_walks d) (length d.potentials) (length d.walks)) _ d' e in
    let k = next_number_was d.head d.direct (has_walks d) (length d.potentials) (length d.walks) a.value a.was in
    let small : a.value < 2 ^ 64 = omega (arith, k.is, k.room, most_listed_few d.head (length d.walks) ok.few_walks, first_number_few d.head) in
    let b = was_then (behind_the rest a.value) _ d' a.gave in
    let n = the_number_was rest b.value a.value small b.was in
    let c = was_then (rest_at_end b.value) _ d' b.gave in
    let r = rest_was b.value c.value c.was in
    let p : Potential = record { listed = []; rest = c.value } in
    let spelled : potential_lines a.value p ≡ (117 ∷ rest) ++ 10 ∷ [] =
    ap (λ l. 117 ∷ l ++ 32 ∷ rest_text c.value ++ 10 ∷ []) (append-nil (32 ∷ decimal a.value)) ∙ ap (λ l. 117 ∷ l ++ 10 ∷ []) (sym (n ∙ ap (λ l. 32 ∷ decimal a.value ++ l) r.0)) in
    subst (WasStep d (117 ∷ rest)) (same_value (record d { potentials = d.potentials ++ p ∷ [] }) d' c.gave)
    (other_potentials d (d.potentials ++ p ∷ []) (117 ∷ rest) ok (ahead_of d ok k.ahead) k.has_them
    (ap is_clean n ∙ clean_append (decimal a.value) b.value (clean_decimal a.value small) r.1)
    (ap is_field_end n)
    (omega (arith, ap length n, length-append (32 ∷ decimal a.value) b.value, short_decimal a.value small, r.3))
    (numbered-append (first_number d.head) d.potentials p ∙ ap (λ l. numbered_lines (first_number d.head) d.potentials ++ l) (ap (λ m. potential_lines m p) k.is ∙ spelled))
    (omega (arith, k.room, length-append d.potentials (p ∷ [])))
    (list_all-append is_potential_text d.potentials (p ∷ []) ∙ both_hold _ _ ok.are_potentials (both_hold (is_potential_text p) true (both_hold (is_rest_text c.value) true r.2 refl) refl)))

-- Pairs that rise go on with pairs that rise.

rises_above : (last : NodeNo) (pairs : List (NodeNo × ℕ)) → rise_from (Some last) pairs ≡ true → rise_above last.0 pairs ≡ true
rises_above last [] e = refl
rises_above last (pair ∷ pairs) e =
    let a = both (nat_lt last.0 pair.0.0) (rise_from (Some pair.0) pairs) e in
    both_hold (nat_lt last.0 pair.0.0) (rise_above pair.0.0 pairs) a.0 (rises_above pair.0 pairs a.1)

rise_on : (n : ℕ) (x : NodeNo × ℕ) (xs pairs : List (NodeNo × ℕ)) → rise_above n (x ∷ xs) ≡ true → rise_from (last_node_of (x ∷ xs)) pairs ≡ true → rise_above n ((x ∷ xs) ++ pairs) ≡ true
rise_on n x [] pairs e f =
    let a = both (nat_lt n x.0.0) true e in
    both_hold (nat_lt n x.0.0) (rise_above x.0.0 pairs) a.0 (rises_above x.0 pairs f)
rise_on n x (y ∷ ys) pairs e f =
    let a = both (nat_lt n x.0.0) (rise_above x.0.0 (y ∷ ys)) e in
    both_hold (nat_lt n x.0.0) (rise_above x.0.0 ((y ∷ ys) ++ pairs)) a.0 (rise_on x.0.0 y ys pairs a.1 f)

do_rise-append : (xs pairs : List (NodeNo × ℕ)) → do_rise xs ≡ true → rise_from (last_node_of xs) pairs ≡ true → do_rise (xs ++ pairs) ≡ true
do_rise-append [] [] e f = refl
do_rise-append [] (pair ∷ pairs) e f = rises_above pair.0 pairs (both true (rise_from (Some pair.0) pairs) f).1
do_rise-append (x ∷ []) pairs e f = rises_above x.0 pairs f
do_rise-append (x ∷ y ∷ ys) pairs e f = rise_on x.0.0 y ys pairs e f

longer_potential_text : (p : Potential) (pairs : List (NodeNo × ℕ)) → is_potential_text p ≡ true → rise_from (last_node_of p.listed) pairs ≡ true → list_all is_pair_text pairs ≡ true
    → is_potential_text (record p { listed = p.listed ++ pairs }) ≡ true
longer_potential_text p pairs e rising valid =
    let a = both (is_rest_text p.rest) (do_rise p.listed && list_all is_pair_text p.listed) e in
    let b = both (do_rise p.listed) (list_all is_pair_text p.listed) a.1 in
    both_hold (is_rest_text p.rest) _ a.0 (both_hold (do_rise (p.listed ++ pairs)) _ (do_rise-append p.listed pairs b.0 rising)
    (list_all-append is_pair_text p.listed pairs ∙ both_hold (list_all is_pair_text p.listed) (list_all is_pair_text pairs) b.1 valid))

with_pairs_texts : (ps : List Potential) (pairs : List (NodeNo × ℕ)) → list_all is_potential_text ps ≡ true → rise_from (last_node_of (last_listed ps)) pairs ≡ true → list_all is_pair_text pairs ≡ true
    → list_all is_potential_text (with_pairs ps pairs) ≡ true
with_pairs_texts [] pairs e rising valid = refl
with_pairs_texts (p ∷ []) pairs e rising valid =
    both_hold (is_potential_text (record p { listed = p.listed ++ pairs })) true (longer_potential_text p pairs (both (is_potential_text p) true e).0 rising valid) refl
with_pairs_texts (p ∷ next ∷ ps) pairs e rising valid =
    let a = both (is_potential_text p) (list_all is_potential_text (next ∷ ps)) e in
    both_hold (is_potential_text p) _ a.0 (with_pairs_texts (next ∷ ps) pairs a.1 rising valid)

pub length-with_pairs : (ps : List Potential) (pairs : List (NodeNo × ℕ)) → length (with_pairs ps pairs) ≡ length ps
length-with_pairs [] pairs = refl
length-with_pairs (p ∷ []) pairs = refl
length-with_pairs (p ∷ next ∷ ps) pairs = ap suc (length-with_pairs (next ∷ ps) pairs)

some_listed : (ps : List Potential) → are_pairs_full_in ps ≡ true → is_empty ps ≡ false
some_listed [] e = absurd cc
some_listed (p ∷ ps) e = refl

is_ahead_was : (direct : Direct) → is_ahead direct ≡ true → direct ≡ Ahead
is_ahead_was Ahead e = refl
is_ahead_was Absent e = absurd cc
is_ahead_was (Walk nodes) e = absurd cc

pairs_was : (d : Draft) (rest : List ℕ) (d' : Draft) → IsDraft d → pairs_step d rest ≡ Some d' → WasStep d (119 ∷ rest) d'
pairs_was d rest d' ok e =
    let t = was_if (is_ahead d.direct && are_pairs_full_in d.potentials) _ d' e in
    let u = both (is_ahead d.direct) (are_pairs_full_in d.potentials) t.0 in
    let a = was_then (pairs_of_line rest (last_node_of (last_listed d.potentials))) _ d' t.1 in
    let w = pairs_were (last_node_of (last_listed d.potentials)) rest a.value a.was in
    subst (WasStep d (119 ∷ rest)) (same_value (record d { potentials = with_pairs d.potentials a.value }) d' a.gave)
    (other_potentials d (with_pairs d.potentials a.value) (119 ∷ rest) ok (is_ahead_was d.direct u.0) (ok.begun (some_listed d.potentials u.1))
    w.were.spaced_.clean
    (spaced_field rest (numbers_of_items pair_numbers a.value) w.were.spaced_.spelled)
    (omega (arith, w.were.spaced_.short, length-pairs a.value, w.were.few))
    (numbered-with_pairs (first_number d.head) d.potentials a.value u.1 w.some w.were.few
    ∙ ap (λ l. numbered_lines (first_number d.head) d.potentials ++ ((119 ∷ l) ++ 10 ∷ [])) (sym w.were.spaced_.spelled))
    (omega (arith, ok.few, length-with_pairs d.potentials a.value))
    (with_pairs_texts d.potentials a.value ok.are_potentials w.were.rising w.were.valid))

-- The direct walk.

other_direct : (d : Draft) (direct : Direct) (line : List ℕ) → IsDraft d → is_clean line ≡ true → has_letter line ≡ true → length line ≤ 65536 → direct_text direct ≡ direct_text d.direct ++ (line ++ 10 ∷ []) → is_direct_draft d.head d.potentials direct ≡ true
    → WasStep d line (record d { direct = direct })
other_direct d direct line ok clean field short printed valid =
    let front : List ℕ = head_text d.head ++ flat_map served_line d.served ++ walks_from d.head 0 d.walks ++ numbered_lines (first_number d.head) d.potentials in
    record {
      spelled = ap (λ l. front ++ l) printed ∙ sym (append_assoc front (direct_text d.direct) (line ++ 10 ∷ []));
      clean = clean;
      field = field;
      short = short;
      draft = record {
        valid = ok.valid;
        stops = ok.stops;
        still = ok.still;
        few_walks = ok.few_walks;
        are_walks = ok.are_walks;
        few = ok.few;
        are_potentials = ok.are_potentials;
        begun = ok.begun;
        is_direct = valid;
      };
      same = refl;
    }

pub with_direct_was : (d d' : Draft) (o : Option Direct) → with_direct d o ≡ Some d' → (direct : Direct) × (o ≡ Some direct) × (record d { direct = direct } ≡ d')
with_direct_was d d' None e = absurd cc
with_direct_was d d' (Some direct) e = (direct, refl, same_value (record d { direct = direct }) d' e)

walk_direct_was : (o : Option (List NodeNo)) (direct : Direct) → walk_direct o ≡ Some direct → (nodes : List NodeNo) × (o ≡ Some nodes) × (Walk nodes ≡ direct)
walk_direct_was None direct e = absurd cc
walk_direct_was (Some nodes) direct e = (nodes, refl, same_value (Walk nodes) direct e)

wanted_direct : (head : Head) (direct : Direct) (count : ℕ) → wants_direct_with head direct count ≡ true → ((is_commit head && count == 4) ≡ true) × (direct ≡ Ahead)
wanted_direct (Offer asked o) Ahead count e = (e, refl)
wanted_direct (Nobody asked) Ahead count e = (e, refl)
wanted_direct head direct count e = absurd cc

direct_was : (d : Draft) (rest : List ℕ) (d' : Draft) → IsDraft d → direct_step d rest ≡ Some d' → WasStep d (101 ∷ rest) d'
direct_was d rest d' ok e =
    let t = was_if (wants_direct_with d.head d.direct (length d.potentials)) (with_direct d (direct_in rest)) d' e in
    let wanted = wanted_direct d.head d.direct (length d.potentials) t.0 in
    let w = with_direct_was d d' (direct_in rest) t.1 in
    subst (WasStep d (101 ∷ rest)) w.2 (by (bytes_eq rest (codes " -")) refl w.0 w.1 wanted.0 (ap direct_text wanted.1))
  where
    by : (t : Bool) → bytes_eq rest (codes " -") ≡ t → (direct : Direct) → cond t (Some Absent) (walk_direct (nodes_of_line rest)) ≡ Some direct → (is_commit d.head && length d.potentials == 4) ≡ true
        → direct_text d.direct ≡ [] → WasStep d (101 ∷ rest) (record d { direct = direct })
    by true t direct f commit none =
        let is = (bytes_eq-Decides rest (codes " -")).0 t in
        subst (λ (x : Direct). WasStep d (101 ∷ rest) (record d { direct = x })) (same_value Absent direct f)
        (other_direct d Absent (101 ∷ rest) ok (ap is_clean is) (ap is_field_end is) (omega (arith, ap length is)) (ap (λ l. (101 ∷ l) ++ 10 ∷ []) (sym is) ∙ ap (λ l. l ++ ((101 ∷ rest) ++ 10 ∷ [])) (sym none)) commit)
    by false t direct f commit none =
        let n = walk_direct_was (nodes_of_line rest) direct f in
        let w = nodes_were rest n.0 n.1 in
        subst (λ (x : Direct). WasStep d (101 ∷ rest) (record d { direct = x })) n.2
        (other_direct d (Walk n.0) (101 ∷ rest) ok w.were.spaced_.clean (spaced_field rest (numbers_of_items node_number n.0) w.were.spaced_.spelled) (omega (arith, w.were.spaced_.short, length-nodes n.0, w.were.few))
        (ap (λ l. 101 ∷ l) (direct_is 64 n.0 ∙ after_short node_number (102 ∷ []) 63 64 n.0 w.were.few ∙ ap (λ l. l ++ 10 ∷ []) (sym w.were.spaced_.spelled)) ∙ ap (λ l. l ++ ((101 ∷ rest) ++ 10 ∷ [])) (sym none))
        (both_hold _ _ commit (walk_texts n.0 w.some (omega (arith, w.were.few)) w.were.valid)))

longer_direct : (nodes run : List NodeNo) → 1 ≤ length nodes → length nodes % 64 ≡ 0 → 1 ≤ length run → length run ≤ 64
    → direct_lines (Some (nodes ++ run)) ≡ direct_lines (Some nodes) ++ ((102 ∷ spaced (numbers_of_items node_number run)) ++ 10 ∷ [])
longer_direct [] run some full any few = absurd (omega arith)
longer_direct (n ∷ nodes) [] some full any few = absurd (omega arith)
longer_direct (n ∷ nodes) (r ∷ run) some full any few =
    ap (λ l. 101 ∷ l) (direct_is 64 ((n ∷ nodes) ++ r ∷ run) ∙ after_more node_number (102 ∷ []) 63 64 (n ∷ nodes) r run (full_64 n nodes full) (omega arith)
    ∙ ap (λ l. l ++ (102 ∷ [] ++ spaced (numbers_of_items node_number (r ∷ run)) ++ 10 ∷ [])) (sym (direct_is 64 (n ∷ nodes))))

longer_direct_was : (d : Draft) (rest : List ℕ) (d' : Draft) → IsDraft d → longer_direct_step d rest ≡ Some d' → WasStep d (102 ∷ rest) d'
longer_direct_was d rest d' ok e =
    let w = with_direct_was d d' (longer_direct_in d.direct rest) e in
    subst (WasStep d (102 ∷ rest)) w.2 (by d.direct refl w.0 w.1)
  where
    by : (old : Direct) → d.direct ≡ old → (direct : Direct) → longer_direct_in old rest ≡ Some direct → WasStep d (102 ∷ rest) (record d { direct = direct })
    by Ahead h direct f = absurd cc
    by Absent h direct f = absurd cc
    by (Walk nodes) h direct f =
        let t = was_if (length nodes % 64 == 0) _ direct f in
        let full : length nodes % 64 ≡ 0 = grind (arith, nat_tests, t.0) in
        let a = was_then (nodes_of_line rest) _ direct t.1 in
        let w = nodes_were rest a.value a.was in
        let b = walk_direct_was (lengthened nodes a.value) direct a.gave in
        let c = was_if (nat_le (length nodes + length a.value) most_nodes) (Some (nodes ++ a.value)) b.0 b.1 in
        let room = le_from (length nodes + length a.value) most_nodes c.0 in
        let old : ((is_commit d.head && length d.potentials == 4) && is_walk_text nodes) ≡ true = sym (ap (is_direct_draft d.head d.potentials) h) ∙ ok.is_direct in
        let p = both (is_commit d.head && length d.potentials == 4) (is_walk_text nodes) old in
        let q = both (nat_le 1 (length nodes)) _ p.1 in
        let some = le_from 1 (length nodes) q.0 in
        let r = both (nat_le (length nodes) most_nodes) (list_all is_node_text nodes) q.1 in
        let longer : nodes ++ a.value ≡ b.0 = same_value (nodes ++ a.value) b.0 c.1 in
        subst (λ (x : Direct). WasStep d (102 ∷ rest) (record d { direct = x })) (ap (λ (ns : List NodeNo). Walk ns) longer ∙ b.2)
        (other_direct d (Walk (nodes ++ a.value)) (102 ∷ rest) ok w.were.spaced_.clean (spaced_field rest (numbers_of_items node_number a.value) w.were.spaced_.spelled) (omega (arith, w.were.spaced_.short, length-nodes a.value, w.were.few))
        (longer_direct nodes a.value some full w.some w.were.few ∙ ap (λ l. direct_lines (Some nodes) ++ ((102 ∷ l) ++ 10 ∷ [])) (sym w.were.spaced_.spelled)
        ∙ ap (λ (x : Direct). direct_text x ++ ((102 ∷ rest) ++ 10 ∷ [])) (sym h))
        (both_hold _ _ p.0 (walk_texts (nodes ++ a.value) (omega (arith, some, length-append nodes a.value)) (omega (arith, room, length-append nodes a.value))
        (list_all-append is_node_text nodes a.value ∙ both_hold _ _ r.1 w.were.valid))))

-- Any line.

by_letter : (d : Draft) (letter n : ℕ) (rest : List ℕ) (d' : Draft) (o other : Option Draft) → (o ≡ Some d' → WasStep d (n ∷ rest) d') → (other ≡ Some d' → WasStep d (letter ∷ rest) d')
    → cond (letter == n) o other ≡ Some d' → WasStep d (letter ∷ rest) d'
by_letter d letter n rest d' o other same_letter asked e = by (letter == n) refl e
  where
    by : (t : Bool) → (letter == n) ≡ t → cond t o other ≡ Some d' → WasStep d (letter ∷ rest) d'
    by true t e =
        let same : letter ≡ n = grind (arith, nat_tests) in
        subst (λ l. WasStep d (l ∷ rest) d') (sym same) (same_letter e)
    by false t e = asked e

pub step_was : (d : Draft) (line : List ℕ) (d' : Draft) → IsDraft d → draft_step d line ≡ Some d' → WasStep d line d'
step_was d [] d' ok e = absurd cc
step_was d (letter ∷ rest) d' ok e =
    by_letter d letter 120 rest d' _ _ (refuse_was d rest d' ok) (by_letter d letter 115 rest d' _ _ (served_was_step d rest d' ok) (by_letter d letter 111 rest d' _ _ (remove_was d rest d' ok)
    (by_letter d letter 103 rest d' _ _ (walk_was d rest d' ok) (by_letter d letter 104 rest d' _ _ (longer_was d rest d' ok) (by_letter d letter 117 rest d' _ _ (potential_was d rest d' ok)
    (by_letter d letter 119 rest d' _ _ (pairs_was d rest d' ok) (by_letter d letter 101 rest d' _ _ (direct_was d rest d' ok) (by_letter d letter 102 rest d' _ None (longer_direct_was d rest d' ok) (λ f. absurd cc))))))))) e

-- the first line of a group
pub record WasBegun (number : ℕ) (line : List ℕ) (d : Draft) : Type 0 where
  pub spelled : draft_text d ≡ line ++ 10 ∷ []
  pub clean : is_clean line ≡ true
  pub short : length line ≤ 65536
  pub draft : IsDraft d
  pub same : d.line ≡ number

pub begin_was : (number : ℕ) (line : List ℕ) (d : Draft) → draft_of_line number line ≡ Some d → WasBegun number line d
begin_was number line d e =
    let a = was_then (head_in line) (λ (head : Head). Some (new_draft number head)) d e in
    let w = first_was line a.value a.was in
    subst (WasBegun number line) (same_value (new_draft number a.value) d a.gave) (record {
      spelled = bare_text number a.value ∙ w.spelled;
      clean = w.clean;
      short = w.short;
      draft = bare_is_draft number a.value w.valid;
      same = refl;
    })
