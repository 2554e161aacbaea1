use Rattle.std.proofs.Common.{◌≡◌, ℕ, zero, suc, ◌+◌, ◌^◌, ◌≤◌, ◌<◌, ◌==◌, Bool, true, false, ◌&&◌, cond, List, [], ◌∷◌, ◌++◌, length, Option, Some, None, refl, sym, ap, ◌∙◌, subst, append_assoc, append-nil, length-append, arith, codes}
use Rattle.std.proofs.lemmas.Bool.Decides.{nat_tests}
use Rattle.std.proofs.lemmas.Slice.Eq.{bytes_eq-Decides}
use Rattle.std.specs.Prelude.{nat_le, nat_lt}
use Rattle.std.specs.List.{list_all}
use Rattle.std.specs.Str.{bytes_eq}
use Rattle.std.specs.Fmt.{decimal}
use Rattle.road_graph.specs.declared.road.NodeNo.{NodeNo}
use Rattle.road_graph.specs.Roads.{node}
use Rattle.ride_base.specs.declared.numbers.RequestNo.{RequestNo}
use Rattle.ride_base.specs.declared.numbers.VehicleNo.{VehicleNo}
use Rattle.stop_schedule.specs.declared.stop.StopKind.{StopKind}
use Rattle.stop_schedule.specs.declared.stop.StopKind.TheVariants.{Pickup, Dropoff}
use Rattle.stop_advance.specs.declared.served.Served.{Served}
use Rattle.board_core.specs.declared.entry.Reason.{Reason}
use Rattle.board_core.specs.declared.entry.CancelReason.{CancelReason}
use Rattle.board_core.specs.declared.entry.Reason.TheVariants.{Closed, Place, Riders, Moment, Repeated}
use Rattle.board_core.specs.declared.entry.CancelReason.TheVariants as why
use Rattle.journal_text.specs.declared.heads.RemovalHead.{RemovalHead}
use Rattle.journal_text.specs.Groups.{spaced, numbers_line, served_line, refusal_line, reason_text, cancel_reason_text, kind_text}
use Rattle.journal_text.specs.Certificates.{rest_text}
use Rattle.journal_text.specs.TextGroups.{is_field_end}
use Rattle.journal_text.specs.Forms.{largest_number, latest_clock, largest_32, largest_position, largest_value, is_number, is_32, is_served_text, is_rest_text}
use Rattle.journal_text.specs.LineParts.{and_then, number_ahead, behind_space_of}
use Rattle.journal_text.specs.LineRuns.{in_front, if_any, nodes_ahead, nodes_of_line, is_above, pairs_ahead, pairs_of_line}
use Rattle.journal_text.specs.LineHeads.{at_end, behind_word, behind_in, reason_in, cancel_reason_in, behind_request, word_for, refusal_in, cancel_refusal_in, positions_at_end, removal_in, kind_in, kind_in_front, kind_ahead, stay_at_end, served_in}
use Rattle.journal_text.specs.Drafts.{behind_the, rest_at_end}
use Rattle.journal_text.proofs.Spelling.{both, both_hold, le_holds, same_value, is_clean, clean_append, clean_decimal, short_decimal, IsSpaced, spaced_end, spaced_more, was_then, was_number, was_end, was_if, was_space}
use Rattle.journal_text.proofs.LongLines.{numbers_of_items, node_number, pair_numbers}
use Rattle.journal_text.specs.DraftTexts.{is_removal_head}

-- The further lines of groups that were read.

pub request_number_was : (rest behind : List ℕ) (asked : RequestNo) → behind_request rest asked ≡ Some behind → (rest ≡ 32 ∷ decimal asked.0 ++ behind) × (asked.0 ≤ largest_number)
request_number_was rest behind asked e =
    let a = was_number rest largest_number _ behind (omega arith) e in
    let t = was_if (a.number == asked.0) (Some a.behind) behind a.gave in
    let n : a.number ≡ asked.0 = grind (arith, nat_tests, t.0) in
    let r : a.behind ≡ behind = same_value a.behind behind t.1 in
    (a.spelled ∙ ap (λ m. 32 ∷ decimal m ++ a.behind) n ∙ ap (λ l. 32 ∷ decimal asked.0 ++ l) r, omega (arith, n, a.within))

-- a word behind the number of a request
pub record WasWord (rest : List ℕ) (asked : RequestNo) (word : List ℕ) : Type 0 where
  pub spelled : rest ≡ spaced (asked.0 ∷ []) ++ 32 ∷ word
  pub clean : is_clean word ≡ true → is_clean rest ≡ true
  pub short : length rest ≤ 22 + length word

word_was : (rest word : List ℕ) (asked : RequestNo) → word_for rest asked ≡ Some word → WasWord rest asked word
word_was rest word asked e =
    let a = was_then (behind_request rest asked) behind_space_of word e in
    let n = request_number_was rest a.value asked a.was in
    let s = was_space a.value word a.gave in
    let spelled : rest ≡ 32 ∷ decimal asked.0 ++ 32 ∷ word = n.0 ∙ ap (λ l. 32 ∷ decimal asked.0 ++ l) s in
    record {
      spelled = spelled ∙ ap (λ l. 32 ∷ l ++ 32 ∷ word) (sym (append-nil (decimal asked.0)));
      clean = λ h. ap is_clean spelled ∙ clean_append (decimal asked.0) (32 ∷ word) (clean_decimal asked.0 (omega (arith, n.1))) h;
      short = omega (arith, ap length spelled, length-append (32 ∷ decimal asked.0) (32 ∷ word), short_decimal asked.0 (omega (arith, n.1)));
    }

one_word : {X : Type 0} (word text : List ℕ) (x y : X) (o : Option X) (P : X → Type 0) → (word ≡ text → P x) → (o ≡ Some y → P y) → cond (bytes_eq word text) (Some x) o ≡ Some y → P y
one_word word text x y o P same_word asked e = by (bytes_eq word text) refl e
  where
    by : (t : Bool) → bytes_eq word text ≡ t → cond t (Some x) o ≡ Some y → P y
    by true t e = subst P (same_value x y e) (same_word ((bytes_eq-Decides word text).0 t))
    by false t e = asked e

pub reason_was : (word : List ℕ) (reason : Reason) → reason_in word ≡ Some reason → (word ≡ reason_text reason) × (is_clean word ≡ true) × (length word ≤ 9)
reason_was word reason e =
    let P : Reason → Type 0 = λ r. (word ≡ reason_text r) × (is_clean word ≡ true) × (length word ≤ 9) in
    one_word word (codes "closed") Closed reason _ P (λ w. (w, ap is_clean w, omega (arith, ap length w))) (one_word word (codes "place") Place reason _ P (λ w. (w, ap is_clean w, omega (arith, ap length w)))
    (one_word word (codes "riders") Riders reason _ P (λ w. (w, ap is_clean w, omega (arith, ap length w))) (one_word word (codes "moment") Moment reason _ P (λ w. (w, ap is_clean w, omega (arith, ap length w)))
    (one_word word (codes "repeated") Repeated reason None P (λ w. (w, ap is_clean w, omega (arith, ap length w))) (λ f. absurd cc))))) e

pub cancel_reason_was : (word : List ℕ) (reason : CancelReason) → cancel_reason_in word ≡ Some reason → (word ≡ cancel_reason_text reason) × (is_clean word ≡ true) × (length word ≤ 9)
cancel_reason_was word reason e =
    let P : CancelReason → Type 0 = λ r. (word ≡ cancel_reason_text r) × (is_clean word ≡ true) × (length word ≤ 9) in
    one_word word (codes "unknown") why.Unknown reason _ P (λ w. (w, ap is_clean w, omega (arith, ap length w))) (one_word word (codes "waiting") why.Waiting reason _ P (λ w. (w, ap is_clean w, omega (arith, ap length w)))
    (one_word word (codes "nobody") why.Nobody reason _ P (λ w. (w, ap is_clean w, omega (arith, ap length w))) (one_word word (codes "cancelled") why.Cancelled reason _ P (λ w. (w, ap is_clean w, omega (arith, ap length w)))
    (one_word word (codes "served") why.Served reason None P (λ w. (w, ap is_clean w, omega (arith, ap length w))) (λ f. absurd cc))))) e

-- a line that was read, without its letter
pub record WasLine (letter : ℕ) (rest text : List ℕ) : Type 0 where
  pub spelled : text ≡ (letter ∷ rest) ++ 10 ∷ []
  pub clean : is_clean rest ≡ true
  pub field : is_field_end rest ≡ true
  pub short : length rest ≤ 65535

pub refusal_was : (rest : List ℕ) (asked : RequestNo) (reason : Reason) → refusal_in rest asked ≡ Some reason → WasLine 120 rest (refusal_line asked.0 (reason_text reason))
refusal_was rest asked reason e =
    let a = was_then (word_for rest asked) reason_in reason e in
    let w = word_was rest a.value asked a.was in
    let r = reason_was a.value reason a.gave in
    record { spelled = ap (λ l. 120 ∷ l ++ 10 ∷ []) (sym (w.spelled ∙ ap (λ l. spaced (asked.0 ∷ []) ++ 32 ∷ l) r.0)); clean = w.clean r.1; field = ap is_field_end w.spelled; short = omega (arith, w.short, r.2) }

pub cancel_refusal_was : (rest : List ℕ) (asked : RequestNo) (reason : CancelReason) → cancel_refusal_in rest asked ≡ Some reason → WasLine 120 rest (refusal_line asked.0 (cancel_reason_text reason))
cancel_refusal_was rest asked reason e =
    let a = was_then (word_for rest asked) cancel_reason_in reason e in
    let w = word_was rest a.value asked a.was in
    let r = cancel_reason_was a.value reason a.gave in
    record { spelled = ap (λ l. 120 ∷ l ++ 10 ∷ []) (sym (w.spelled ∙ ap (λ l. spaced (asked.0 ∷ []) ++ 32 ∷ l) r.0)); clean = w.clean r.1; field = ap is_field_end w.spelled; short = omega (arith, w.short, r.2) }

word_ahead_was : (word bytes rest : List ℕ) → behind_word word bytes ≡ Some rest → bytes ≡ word ++ rest
word_ahead_was [] bytes rest e = same_value bytes rest e
word_ahead_was (w ∷ word) [] rest e = absurd cc
word_ahead_was (w ∷ word) (b ∷ bytes) rest e =
    let t = was_if (w == b) (behind_word word bytes) rest e in
    let same : b ≡ w = grind (arith, nat_tests, t.0) in
    ap (λ x. x ∷ bytes) same ∙ ap (λ l. w ∷ l) (word_ahead_was word bytes rest t.1)

pub behind_was : (rest : List ℕ) (clock : ℕ) → behind_in rest ≡ Some clock → (WasLine 120 rest (codes "x back" ++ spaced (clock ∷ []) ++ 10 ∷ [])) × (nat_le clock latest_clock ≡ true)
behind_was rest clock e =
    let a = was_then (behind_word (codes " back") rest) _ clock e in
    let w = word_ahead_was (codes " back") rest a.value a.was in
    let b = was_number a.value latest_clock _ clock (omega arith) a.gave in
    let z = was_end b.number b.behind clock b.gave in
    let s = spaced_more a.value b.behind b.number latest_clock [] b.spelled b.within (omega arith) (spaced_end b.behind z.0) in
    subst (λ n. (WasLine 120 rest (codes "x back" ++ spaced (n ∷ []) ++ 10 ∷ [])) × (nat_le n latest_clock ≡ true)) z.1
    (record { spelled = ap (λ l. 120 ∷ l ++ 10 ∷ []) (sym (w ∙ ap (λ l. codes " back" ++ l) s.spelled)); clean = ap is_clean w ∙ s.clean; field = ap is_field_end w; short = omega (arith, ap length w, s.short) }, le_holds b.number latest_clock b.within)

positions_were : (bytes : List ℕ) (p : ℕ × ℕ) → positions_at_end bytes ≡ Some p
    → (IsSpaced bytes (p.0 ∷ p.1 ∷ [])) × ((nat_le 1 p.0 && (nat_lt p.0 p.1 && nat_le p.1 largest_position)) ≡ true)
positions_were bytes p e =
    let a = was_number bytes largest_position _ p (omega arith) e in
    let b = was_number a.behind largest_position _ p (omega arith) a.gave in
    let t = was_if (nat_lt 0 a.number && nat_lt a.number b.number) (at_end (a.number, b.number) b.behind) p b.gave in
    let u = both (nat_lt 0 a.number) (nat_lt a.number b.number) t.0 in
    let z = was_end (a.number, b.number) b.behind p t.1 in
    let s = spaced_more bytes a.behind a.number largest_position (b.number ∷ []) a.spelled a.within (omega arith)
    (spaced_more a.behind b.behind b.number largest_position [] b.spelled b.within (omega arith) (spaced_end b.behind z.0)) in
    let first : nat_le 1 a.number ≡ true = grind (arith, nat_tests, u.0) in
    subst (λ (q : ℕ × ℕ). (IsSpaced bytes (q.0 ∷ q.1 ∷ [])) × ((nat_le 1 q.0 && (nat_lt q.0 q.1 && nat_le q.1 largest_position)) ≡ true)) z.1
    (s, both_hold _ _ first (both_hold _ _ u.1 (le_holds b.number largest_position b.within)))

pub removal_was : (rest : List ℕ) (asked : RequestNo) (x : RemovalHead) → removal_in rest asked ≡ Some x
    → (WasLine 111 rest (numbers_line 111 (asked.0 ∷ x.no.0 ∷ x.pickup ∷ x.dropoff ∷ []))) × (is_removal_head x ≡ true)
removal_was rest asked x e =
    let a = was_then (behind_request rest asked) _ x e in
    let n = request_number_was rest a.value asked a.was in
    let b = was_number a.value largest_32 _ x (omega arith) a.gave in
    let c = was_then (positions_at_end b.behind) _ x b.gave in
    let p = positions_were b.behind c.value c.was in
    let s = spaced_more rest a.value asked.0 largest_number (b.number ∷ c.value.0 ∷ c.value.1 ∷ []) n.0 n.1 (omega arith)
    (spaced_more a.value b.behind b.number largest_32 (c.value.0 ∷ c.value.1 ∷ []) b.spelled b.within (omega arith) p.0) in
    subst (λ (y : RemovalHead). (WasLine 111 rest (numbers_line 111 (asked.0 ∷ y.no.0 ∷ y.pickup ∷ y.dropoff ∷ []))) × (is_removal_head y ≡ true)) (same_value _ x c.gave)
    (record { spelled = ap (λ l. 111 ∷ l ++ 10 ∷ []) (sym s.spelled); clean = s.clean; field = ap is_field_end s.spelled; short = omega (arith, s.short) }, both_hold _ _ (le_holds b.number largest_32 b.within) p.1)

kind_was : (bytes : List ℕ) (k : StopKind) (behind : List ℕ) → kind_ahead bytes ≡ Some (k, behind) → (bytes ≡ 32 ∷ kind_text k ++ behind) × (is_clean (kind_text k) ≡ true)
kind_was bytes k behind e =
    let a = was_then (behind_space_of bytes) kind_in_front (k, behind) e in
    let s = was_space bytes a.value a.was in
    let w = in_front_was a.value a.gave in
    (s ∙ ap (λ l. 32 ∷ l) w.0, w.1)
  where
    letter_was : (b : ℕ) (bs : List ℕ) (k : StopKind) → kind_in b ≡ Some k → (b ∷ bs ≡ kind_text k ++ bs) × (is_clean (kind_text k) ≡ true)
    letter_was b bs k e = by (b == 112) (b == 100) refl refl e
      where
        by : (p d : Bool) → (b == 112) ≡ p → (b == 100) ≡ d → cond p (Some Pickup) (cond d (Some Dropoff) None) ≡ Some k → (b ∷ bs ≡ kind_text k ++ bs) × (is_clean (kind_text k) ≡ true)
        by true d p q e =
            let same : b ≡ 112 = grind (arith, nat_tests) in
            subst (λ (x : StopKind). (b ∷ bs ≡ kind_text x ++ bs) × (is_clean (kind_text x) ≡ true)) (same_value Pickup k e) (ap (λ x. x ∷ bs) same, refl)
        by false true p q e =
            let same : b ≡ 100 = grind (arith, nat_tests) in
            subst (λ (x : StopKind). (b ∷ bs ≡ kind_text x ++ bs) × (is_clean (kind_text x) ≡ true)) (same_value Dropoff k e) (ap (λ x. x ∷ bs) same, refl)
        by false false p q e = absurd cc

    in_front_was : (bs : List ℕ) → kind_in_front bs ≡ Some (k, behind) → (bs ≡ kind_text k ++ behind) × (is_clean (kind_text k) ≡ true)
    in_front_was [] e = absurd cc
    in_front_was (b ∷ bs) e =
        let a = was_then (kind_in b) _ (k, behind) e in
        let same = same_value _ (k, behind) a.gave in
        let kind : a.value ≡ k = ap (λ (p : StopKind × List ℕ). p.0) same in
        let rest : bs ≡ behind = ap (λ (p : StopKind × List ℕ). p.1) same in
        let w = letter_was b bs k (a.was ∙ ap (λ (x : StopKind). Some x) kind) in
        (w.0 ∙ ap (λ l. kind_text k ++ l) rest, w.1)

stay_was : (bytes : List ℕ) (p : NodeNo × ℕ × ℕ) → stay_at_end bytes ≡ Some p
    → (IsSpaced bytes (p.0.0 ∷ p.1 ∷ p.2 ∷ [])) × ((is_32 p.0.0 && (is_number p.1 && is_number p.2)) ≡ true)
stay_was bytes p e =
    let a = was_number bytes largest_32 _ p (omega arith) e in
    let b = was_number a.behind largest_number _ p (omega arith) a.gave in
    let c = was_number b.behind largest_number _ p (omega arith) b.gave in
    let z = was_end _ c.behind p c.gave in
    let s = spaced_more bytes a.behind a.number largest_32 (b.number ∷ c.number ∷ []) a.spelled a.within (omega arith)
    (spaced_more a.behind b.behind b.number largest_number (c.number ∷ []) b.spelled b.within (omega arith)
    (spaced_more b.behind c.behind c.number largest_number [] c.spelled c.within (omega arith) (spaced_end c.behind z.0))) in
    subst (λ (q : NodeNo × ℕ × ℕ). (IsSpaced bytes (q.0.0 ∷ q.1 ∷ q.2 ∷ [])) × ((is_32 q.0.0 && (is_number q.1 && is_number q.2)) ≡ true)) z.1
    (s, both_hold _ _ (le_holds a.number largest_32 a.within) (both_hold _ _ (le_holds b.number largest_number b.within) (le_holds c.number largest_number c.within)))

short_kind : (k : StopKind) → length (kind_text k) ≤ 1
short_kind Pickup = omega arith
short_kind Dropoff = omega arith

pub served_was : (rest : List ℕ) (stop : VehicleNo × Served) → served_in rest ≡ Some stop → (WasLine 115 rest (served_line stop)) × (is_served_text stop ≡ true)
served_was rest stop e =
    let a = was_number rest largest_32 _ stop (omega arith) e in
    let b = was_number a.behind largest_number _ stop (omega arith) a.gave in
    let c = was_then (kind_ahead b.behind) _ stop b.gave in
    let k = kind_was b.behind c.value.0 c.value.1 c.was in
    let d = was_then (stay_at_end c.value.1) _ stop c.gave in
    let q = stay_was c.value.1 d.value d.was in
    let stays : List ℕ = spaced (d.value.0.0 ∷ d.value.1 ∷ d.value.2 ∷ []) in
    let kinds : List ℕ = kind_text c.value.0 in
    let spelled : rest ≡ 32 ∷ decimal a.number ++ (32 ∷ decimal b.number ++ (32 ∷ kinds ++ stays)) =
    a.spelled ∙ ap (λ l. 32 ∷ decimal a.number ++ l) (b.spelled ∙ ap (λ l. 32 ∷ decimal b.number ++ l) (k.0 ∙ ap (λ l. 32 ∷ kinds ++ l) q.0.spelled)) in
    let numbers : spaced (a.number ∷ b.number ∷ []) ++ 32 ∷ kinds ++ stays ≡ 32 ∷ decimal a.number ++ (32 ∷ decimal b.number ++ (32 ∷ kinds ++ stays)) =
    regroup (decimal a.number) (decimal b.number) kinds stays in
    let kinds_clean : is_clean (32 ∷ kinds ++ c.value.1) ≡ true = clean_append kinds c.value.1 k.1 q.0.clean in
    let clean_b : is_clean b.behind ≡ true = ap is_clean k.0 ∙ kinds_clean in
    let clean_a : is_clean a.behind ≡ true = ap is_clean b.spelled ∙ clean_append (decimal b.number) b.behind (clean_decimal b.number (omega (arith, b.within))) clean_b in
    subst (λ (s : VehicleNo × Served). (WasLine 115 rest (served_line s)) × (is_served_text s ≡ true)) (same_value _ stop d.gave) (
      record {
        spelled = ap (λ l. 115 ∷ l ++ 10 ∷ []) (numbers ∙ sym spelled);
        clean = ap is_clean a.spelled ∙ clean_append (decimal a.number) a.behind (clean_decimal a.number (omega (arith, a.within))) clean_a;
        field = ap is_field_end a.spelled;
        short = omega (
          arith,
          ap length a.spelled,
          length-append (32 ∷ decimal a.number) a.behind,
          short_decimal a.number (omega (arith, a.within)),
          ap length b.spelled,
          length-append (32 ∷ decimal b.number) b.behind,
          short_decimal b.number (omega (arith, b.within)),
          ap length k.0,
          length-append (32 ∷ kinds) c.value.1,
          short_kind c.value.0,
          q.0.short,
        );
      },
      both_hold _ _ (le_holds a.number largest_32 a.within) (both_hold _ _ (le_holds b.number largest_number b.within) q.1),
    )
  where
    regroup : (m n k s : List ℕ) → (32 ∷ (m ++ (32 ∷ (n ++ [])))) ++ 32 ∷ k ++ s ≡ 32 ∷ m ++ (32 ∷ n ++ (32 ∷ k ++ s))
    regroup m n k s =
        ap (λ l. ((32 ∷ (m ++ (32 ∷ l))) ++ 32 ∷ k) ++ s) (append-nil n)
        ∙ ap (λ l. (32 ∷ l) ++ s) (append_assoc m (32 ∷ n) (32 ∷ k)) ∙ ap (λ l. 32 ∷ l) (append_assoc m (32 ∷ n ++ 32 ∷ k) s)
        ∙ ap (λ l. 32 ∷ m ++ (32 ∷ l)) (append_assoc n (32 ∷ k) s)

-- what stands behind a number that was told
pub the_number_was : (rest behind : List ℕ) (number : ℕ) → number < 2 ^ 64 → behind_the rest number ≡ Some behind → rest ≡ 32 ∷ decimal number ++ behind
the_number_was rest behind number small e =
    let a = was_number rest number _ behind small e in
    let t = was_if (a.number == number) (Some a.behind) behind a.gave in
    let n : a.number ≡ number = grind (arith, nat_tests, t.0) in
    a.spelled ∙ ap (λ m. 32 ∷ decimal m ++ a.behind) n ∙ ap (λ l. 32 ∷ decimal number ++ l) (same_value a.behind behind t.1)

pub rest_was : (bytes : List ℕ) (value : Option ℕ) → rest_at_end bytes ≡ Some value → (bytes ≡ 32 ∷ rest_text value) × (is_clean bytes ≡ true) × (is_rest_text value ≡ true) × (length bytes ≤ 21)
rest_was bytes value e = by (bytes_eq bytes (codes " -")) refl e
  where
    by : (t : Bool) → bytes_eq bytes (codes " -") ≡ t → cond t (Some None) (and_then (number_ahead bytes largest_value) (λ (v : ℕ × List ℕ). at_end (Some v.0) v.1)) ≡ Some value
        → (bytes ≡ 32 ∷ rest_text value) × (is_clean bytes ≡ true) × (is_rest_text value ≡ true) × (length bytes ≤ 21)
    by true t e =
        let is = (bytes_eq-Decides bytes (codes " -")).0 t in
        subst (λ (v : Option ℕ). (bytes ≡ 32 ∷ rest_text v) × (is_clean bytes ≡ true) × (is_rest_text v ≡ true) × (length bytes ≤ 21)) (same_value None value e) (is, ap is_clean is, refl, omega (arith, ap length is))
    by false t e =
        let a = was_number bytes largest_value _ value (omega arith) e in
        let z = was_end _ a.behind value a.gave in
        let s = spaced_more bytes a.behind a.number largest_value [] a.spelled a.within (omega arith) (spaced_end a.behind z.0) in
        subst (λ (v : Option ℕ). (bytes ≡ 32 ∷ rest_text v) × (is_clean bytes ≡ true) × (is_rest_text v ≡ true) × (length bytes ≤ 21)) z.1
        (s.spelled ∙ ap (λ l. 32 ∷ l) (append-nil (decimal a.number)), s.clean, le_holds a.number largest_value a.within, omega (arith, s.short))

-- Nodes and pairs.

abbrev pub is_node_text : NodeNo → Bool
is_node_text n = is_32 n.0

abbrev pub is_pair_text : NodeNo × ℕ → Bool
is_pair_text pair = is_32 pair.0.0 && nat_le pair.1 largest_value

pub record WereNodes (most : ℕ) (bytes : List ℕ) (nodes : List NodeNo) : Type 0 where
  pub spaced_ : IsSpaced bytes (numbers_of_items node_number nodes)
  pub few : length nodes ≤ most
  pub valid : list_all is_node_text nodes ≡ true

record WasInFront {X : Type 0} (x : X) (o : Option (List X)) (xs : List X) : Type 0 where
  more : List X
  was : o ≡ Some more
  whole : x ∷ more ≡ xs

was_in_front : {X : Type 0} (x : X) (o : Option (List X)) (xs : List X) → in_front (x ∷ []) o ≡ Some xs → WasInFront x o xs
was_in_front x None xs e = absurd cc
was_in_front x (Some more) xs e = record { more = more; was = refl; whole = same_value (x ∷ more) xs e }

nodes_were_ahead : (most : ℕ) (bytes : List ℕ) (nodes : List NodeNo) → nodes_ahead most bytes ≡ Some nodes → WereNodes most bytes nodes
nodes_were_ahead zero [] nodes e = subst (WereNodes zero []) (same_value [] nodes e) (record { spaced_ = spaced_end [] refl; few = omega arith; valid = refl })
nodes_were_ahead (suc most) [] nodes e = subst (WereNodes (suc most) []) (same_value [] nodes e) (record { spaced_ = spaced_end [] refl; few = omega arith; valid = refl })
nodes_were_ahead zero (b ∷ bs) nodes e = absurd cc
nodes_were_ahead (suc most) (b ∷ bs) nodes e =
    let a = was_number (b ∷ bs) largest_32 _ nodes (omega arith) e in
    let f = was_in_front (node a.number) (nodes_ahead most a.behind) nodes a.gave in
    let w = nodes_were_ahead most a.behind f.more f.was in
    subst (WereNodes (suc most) (b ∷ bs)) f.whole (record {
      spaced_ = spaced_more (b ∷ bs) a.behind a.number largest_32 (numbers_of_items node_number f.more) a.spelled a.within (omega arith) w.spaced_;
      few = omega (arith, w.few);
      valid = both_hold _ _ (le_holds a.number largest_32 a.within) w.valid;
    })

-- the nodes of a line that was read, one at least
pub record WereNodesOfLine (bytes : List ℕ) (nodes : List NodeNo) : Type 0 where
  pub were : WereNodes 64 bytes nodes
  pub some : 1 ≤ length nodes

pub nodes_were : (bytes : List ℕ) (nodes : List NodeNo) → nodes_of_line bytes ≡ Some nodes → WereNodesOfLine bytes nodes
nodes_were bytes nodes e = by (nodes_ahead 64 bytes) refl e
  where
    by : (o : Option (List NodeNo)) → nodes_ahead 64 bytes ≡ o → if_any o ≡ Some nodes → WereNodesOfLine bytes nodes
    by None o e = absurd cc
    by (Some []) o e = absurd cc
    by (Some (n ∷ ns)) o e =
        subst (WereNodesOfLine bytes) (same_value (n ∷ ns) nodes e) (record { were = nodes_were_ahead 64 bytes (n ∷ ns) o; some = omega arith })

-- the nodes of the pairs rise from above the last one before them, where there is one
abbrev pub rise_from : Option NodeNo → List (NodeNo × ℕ) → Bool
rise_from last [] = true
rise_from last (pair ∷ pairs) = is_above pair.0 last && rise_from (Some pair.0) pairs

pub record WerePairs (most : ℕ) (last : Option NodeNo) (bytes : List ℕ) (pairs : List (NodeNo × ℕ)) : Type 0 where
  pub spaced_ : IsSpaced bytes (numbers_of_items pair_numbers pairs)
  pub few : length pairs ≤ most
  pub valid : list_all is_pair_text pairs ≡ true
  pub rising : rise_from last pairs ≡ true

pairs_were_ahead : (most : ℕ) (last : Option NodeNo) (bytes : List ℕ) (pairs : List (NodeNo × ℕ)) → pairs_ahead most last bytes ≡ Some pairs → WerePairs most last bytes pairs
pairs_were_ahead zero last [] pairs e = subst (WerePairs zero last []) (same_value [] pairs e) (record { spaced_ = spaced_end [] refl; few = omega arith; valid = refl; rising = refl })
pairs_were_ahead (suc most) last [] pairs e = subst (WerePairs (suc most) last []) (same_value [] pairs e) (record { spaced_ = spaced_end [] refl; few = omega arith; valid = refl; rising = refl })
pairs_were_ahead zero last (b ∷ bs) pairs e = absurd cc
pairs_were_ahead (suc most) last (b ∷ bs) pairs e =
    let a = was_number (b ∷ bs) largest_32 _ pairs (omega arith) e in
    let v = was_number a.behind largest_value _ pairs (omega arith) a.gave in
    let t = was_if (is_above (node a.number) last) (in_front ((node a.number, v.number) ∷ []) (pairs_ahead most (Some (node a.number)) v.behind)) pairs v.gave in
    let f = was_in_front (node a.number, v.number) (pairs_ahead most (Some (node a.number)) v.behind) pairs t.1 in
    let w = pairs_were_ahead most (Some (node a.number)) v.behind f.more f.was in
    subst (WerePairs (suc most) last (b ∷ bs)) f.whole (record {
      spaced_ = spaced_more (b ∷ bs) a.behind a.number largest_32 (v.number ∷ numbers_of_items pair_numbers f.more) a.spelled a.within (omega arith)
          (spaced_more a.behind v.behind v.number largest_value (numbers_of_items pair_numbers f.more) v.spelled v.within (omega arith) w.spaced_);
      few = omega (arith, w.few);
      valid = both_hold _ _ (both_hold _ _ (le_holds a.number largest_32 a.within) (le_holds v.number largest_value v.within)) w.valid;
      rising = both_hold _ _ t.0 w.rising;
    })

pub record WerePairsOfLine (last : Option NodeNo) (bytes : List ℕ) (pairs : List (NodeNo × ℕ)) : Type 0 where
  pub were : WerePairs 32 last bytes pairs
  pub some : 1 ≤ length pairs

pub pairs_were : (last : Option NodeNo) (bytes : List ℕ) (pairs : List (NodeNo × ℕ)) → pairs_of_line bytes last ≡ Some pairs → WerePairsOfLine last bytes pairs
pairs_were last bytes pairs e = by (pairs_ahead 32 last bytes) refl e
  where
    by : (o : Option (List (NodeNo × ℕ))) → pairs_ahead 32 last bytes ≡ o → if_any o ≡ Some pairs → WerePairsOfLine last bytes pairs
    by None o e = absurd cc
    by (Some []) o e = absurd cc
    by (Some (p ∷ ps)) o e =
        subst (WerePairsOfLine last bytes) (same_value (p ∷ ps) pairs e) (record { were = pairs_were_ahead 32 last bytes (p ∷ ps) o; some = omega arith })
