use Rattle.std.proofs.Common.{◌≡◌, ℕ, zero, suc, ◌^◌, ◌≤◌, ◌<◌, ◌==◌, Bool, true, false, ◌&&◌, cond, List, [], ◌∷◌, ◌++◌, length, get_or, drop, Option, Some, None, refl, sym, ap, ◌∙◌, append-nil, append_assoc, arith, codes, eq-eqb, eqb-true}
use Rattle.std.proofs.lemmas.Slice.Eq.{bytes_eq-Decides}
use Rattle.std.proofs.lemmas.Fmt.{decimal_nonempty, digits_decimal}
use Rattle.std.specs.List.{list_all}
use Rattle.std.specs.Str.{bytes_eq}
use Rattle.road_graph.specs.declared.road.NodeNo.{NodeNo}
use Rattle.stop_schedule.specs.declared.stop.StopKind.{StopKind}
use Rattle.stop_schedule.specs.declared.stop.StopKind.TheVariants.{Pickup, Dropoff}
use Rattle.stop_advance.specs.declared.served.Served.{Served}
use Rattle.board_core.specs.declared.entry.Reason.{Reason}
use Rattle.board_core.specs.declared.entry.Reason.TheVariants.{Closed, Place, Riders, Moment, Repeated}
use Rattle.board_core.specs.declared.entry.CancelReason.{CancelReason}
use Rattle.board_core.specs.declared.entry.CancelReason.TheVariants as why
use Rattle.ride_base.specs.Digits.{are_digits}
use Rattle.journal_text.specs.declared.heads.RemovalHead.{RemovalHead}
use Rattle.journal_text.specs.Groups.{reason_text, cancel_reason_text, kind_text}
use Rattle.journal_text.specs.Certificates.{rest_text}
use Rattle.journal_text.specs.Forms.{largest_value, is_number, is_32, is_ride_text, is_served_text, is_rest_text}
use Rattle.journal_text.specs.LineParts.{behind_space_of}
use Rattle.journal_text.specs.LineRuns.{in_front, if_any, nodes_ahead, nodes_of_line, is_above, pairs_ahead, pairs_of_line}
use Rattle.journal_text.specs.LineHeads.{behind_request, word_for, refusal_in, reason_in, cancel_refusal_in, cancel_reason_in, behind_in, positions_at_end, removal_in, kind_ahead, stay_at_end, served_in}
use Rattle.journal_text.specs.Drafts.{behind_the, rest_at_end}
use Rattle.journal_text.specs.DraftTexts.{is_removal_head}
use Rattle.journal_text.proofs.Spelling.{both, both_hold, le_from}
use Rattle.journal_text.proofs.LongLines.{numbers_of_items, node_number, pair_numbers}
use Rattle.journal_text.proofs.PartsRead.{is_node_text, is_pair_text, rise_from}
use Rattle.std.proofs.lemmas.Bool.Decides.{nat_tests}
use Rattle.std.specs.Prelude.{nat_lt, nat_le}
use Rattle.std.specs.Fmt.{decimal}
use Rattle.ride_base.specs.declared.numbers.RequestNo.{RequestNo}
use Rattle.ride_base.specs.declared.numbers.VehicleNo.{VehicleNo}
use Rattle.stop_schedule.specs.declared.request.Request.{Request}
use Rattle.stop_schedule.specs.declared.stop.Insertion.{Insertion}
use Rattle.board_core.specs.declared.entry.Submitted.TheVariants.{Accepted}
use Rattle.journal_text.specs.declared.heads.Head.TheVariants.{Ride, Claim, Back, Offer, Nobody, Clock, Asked}
use Rattle.journal_text.specs.Groups.{spaced}
use Rattle.journal_text.specs.Forms.{largest_number, latest_clock, largest_32, largest_position}
use Rattle.journal_text.specs.LineParts.{and_then, number_ahead}
use Rattle.journal_text.specs.LineHeads.{at_end, request_at_end, head_in, with_request, spaces_at_end, place_ahead, prices_at_end}
use Rattle.journal_text.proofs.Numbers.{numerals, begins_no_digit, printed_number}

-- Lines of numbers that are printed are read again.

no_digit_next : (ns : List ℕ) → begins_no_digit (spaced ns) ≡ true
no_digit_next [] = refl
no_digit_next (n ∷ ns) = refl

-- the next of some numbers
pub next_spaced : (n limit : ℕ) (ns : List ℕ) → n ≤ limit → limit < 2 ^ 64 → number_ahead (spaced (n ∷ ns)) limit ≡ Some (n, spaced ns)
next_spaced n limit ns le small = printed_number n limit (spaced ns) le small (no_digit_next ns)

-- one number and nothing behind it
pub last_spaced : {X : Type 0} (n limit : ℕ) (next : (ℕ × List ℕ) → Option X) → n ≤ limit → limit < 2 ^ 64 → and_then (number_ahead (spaced (n ∷ [])) limit) next ≡ next (n, [])
last_spaced n limit next le small = ap (λ o. and_then o next) (next_spaced n limit [] le small)

pub then_spaced : {X : Type 0} (n limit : ℕ) (ns : List ℕ) (next : (ℕ × List ℕ) → Option X) → n ≤ limit → limit < 2 ^ 64 → and_then (number_ahead (spaced (n ∷ ns)) limit) next ≡ next (n, spaced ns)
then_spaced n limit ns next le small = ap (λ o. and_then o next) (next_spaced n limit ns le small)

pub claim_read : (n d : ℕ) → n ≤ largest_number → d ≤ largest_number → head_in (107 ∷ spaced (n ∷ d ∷ [])) ≡ Some (Claim (record { 0 = n }) d)
claim_read n d p q = then_spaced n largest_number (d ∷ []) _ p (omega arith) ∙ then_spaced d largest_number [] _ q (omega arith)

pub request_read : (n : ℕ) → n ≤ largest_number → request_at_end (spaced (n ∷ [])) ≡ Some (record { 0 = n })
request_read n p = then_spaced n largest_number [] _ p (omega arith)

pub back_read : (n : ℕ) → n ≤ largest_number → head_in (98 ∷ spaced (n ∷ [])) ≡ Some (Back (record { 0 = n }))
back_read n p = ap (with_request Back) (request_read n p)

pub nobody_read : (n : ℕ) → n ≤ largest_number → head_in (110 ∷ spaced (n ∷ [])) ≡ Some (Nobody (record { 0 = n }))
nobody_read n p = ap (with_request Nobody) (request_read n p)

pub asked_read : (n : ℕ) → n ≤ largest_number → head_in (121 ∷ spaced (n ∷ [])) ≡ Some (Asked (record { 0 = n }))
asked_read n p = ap (with_request Asked) (request_read n p)

pub clock_read : (t : ℕ) → t ≤ latest_clock → head_in (116 ∷ spaced (t ∷ [])) ≡ Some (Clock t)
clock_read t p = then_spaced t latest_clock [] _ p (omega arith)

-- Lines of more numbers.

abbrev ride_of : (asked pickup dropoff moment riders spaces : ℕ) → Request
ride_of n p d t q s = record { no = record { 0 = n }; pickup = record { 0 = p }; dropoff = record { 0 = d }; moment = t; riders = q; spaces = s }

pub ride_read : (n p d t q : ℕ) → n ≤ largest_number → p ≤ largest_32 → d ≤ largest_32 → t ≤ largest_number → q ≤ largest_32
    → head_in (114 ∷ spaced (n ∷ p ∷ d ∷ t ∷ q ∷ [])) ≡ Some (Ride (ride_of n p d t q 0) Accepted)
ride_read n p d t q hn hp hd ht hq =
    then_spaced n largest_number (p ∷ d ∷ t ∷ q ∷ []) _ hn (omega arith) ∙ then_spaced p largest_32 (d ∷ t ∷ q ∷ []) _ hp (omega arith) ∙ then_spaced d largest_32 (t ∷ q ∷ []) _ hd (omega arith)
    ∙ then_spaced t largest_number (q ∷ []) _ ht (omega arith) ∙ then_spaced q largest_32 [] _ hq (omega arith)

spaces_read : (s : ℕ) → 0 < s → s ≤ largest_32 → spaces_at_end (spaced (s ∷ [])) ≡ Some s
spaces_read s some hs =
    let e : (s == 0) ≡ false = grind (arith, nat_tests) in
    then_spaced s largest_32 [] _ hs (omega arith) ∙ ap (λ t. cond t None (Some s)) e

pub spaced_ride_read : (n p d t q s : ℕ) → n ≤ largest_number → p ≤ largest_32 → d ≤ largest_32 → t ≤ largest_number → q ≤ largest_32 → 0 < s → s ≤ largest_32
    → head_in (114 ∷ spaced (n ∷ p ∷ d ∷ t ∷ q ∷ s ∷ [])) ≡ Some (Ride (ride_of n p d t q s) Accepted)
spaced_ride_read n p d t q s hn hp hd ht hq some hs =
    then_spaced n largest_number (p ∷ d ∷ t ∷ q ∷ s ∷ []) _ hn (omega arith) ∙ then_spaced p largest_32 (d ∷ t ∷ q ∷ s ∷ []) _ hp (omega arith) ∙ then_spaced d largest_32 (t ∷ q ∷ s ∷ []) _ hd (omega arith)
    ∙ then_spaced t largest_number (q ∷ s ∷ []) _ ht (omega arith) ∙ then_spaced q largest_32 (s ∷ []) _ hq (omega arith)
    ∙ ap (λ o. and_then o (λ (spaces : ℕ). Some (Ride (ride_of n p d t q spaces) Accepted))) (spaces_read s some hs)

place_read : (i j : ℕ) (ns : List ℕ) → i ≤ j → j ≤ largest_position → place_ahead (spaced (i ∷ j ∷ ns)) ≡ Some (record { i = i; j = j }, spaced ns)
place_read i j ns order hj =
    let e : nat_lt j i ≡ false = grind (arith, nat_tests) in
    then_spaced i largest_position (j ∷ ns) _ (omega arith) (omega arith) ∙ then_spaced j largest_position ns _ hj (omega arith)
    ∙ ap (λ t. cond t None (Some (record { i = i; j = j }, spaced ns))) e

prices_read : (c l a : ℕ) → c ≤ largest_number → l ≤ largest_number → a ≤ largest_number → prices_at_end (spaced (c ∷ l ∷ a ∷ [])) ≡ Some (c, l, a)
prices_read c l a hc hl ha =
    then_spaced c largest_number (l ∷ a ∷ []) _ hc (omega arith) ∙ then_spaced l largest_number (a ∷ []) _ hl (omega arith) ∙ then_spaced a largest_number [] _ ha (omega arith)

pub offer_read : (n v i j c l a : ℕ) → n ≤ largest_number → v ≤ largest_32 → i ≤ j → j ≤ largest_position → c ≤ largest_number → l ≤ largest_number → a ≤ largest_number
    → head_in (97 ∷ spaced (n ∷ v ∷ i ∷ j ∷ c ∷ l ∷ a ∷ [])) ≡ Some (Offer (record { 0 = n }) (record { no = record { 0 = v }; at = record { i = i; j = j }; cost = c; leave = l; arrive = a }))
offer_read n v i j c l a hn hv order hj hc hl ha =
    then_spaced n largest_number (v ∷ i ∷ j ∷ c ∷ l ∷ a ∷ []) _ hn (omega arith) ∙ then_spaced v largest_32 (i ∷ j ∷ c ∷ l ∷ a ∷ []) _ hv (omega arith)
    ∙ ap (λ o. and_then o (λ (place : Insertion × List ℕ). and_then (prices_at_end place.1) (λ (prices : ℕ × ℕ × ℕ).
    Some (Offer (record { 0 = n }) (record { no = record { 0 = v }; at = place.0; cost = prices.0; leave = prices.1; arrive = prices.2 }))))) (place_read i j (c ∷ l ∷ a ∷ []) order hj)
    ∙ ap (λ o. and_then o (λ (prices : ℕ × ℕ × ℕ). Some (Offer (record { 0 = n }) (record { no = record { 0 = v }; at = record { i = i; j = j }; cost = prices.0; leave = prices.1; arrive = prices.2 }))))
    (prices_read c l a hc hl ha)

pub request_line_read : (r : Request) → is_ride_text r ≡ true → head_in (114 ∷ spaced (r.no.0 ∷ r.pickup.0 ∷ r.dropoff.0 ∷ r.moment ∷ r.riders ∷ cond (r.spaces == 0) [] (r.spaces ∷ []))) ≡ Some (Ride r Accepted)
request_line_read r e =
    let a = both (is_number r.no.0) _ e in
    let b = both (is_32 r.pickup.0) _ a.1 in
    let c = both (is_32 r.dropoff.0) _ b.1 in
    let d = both (is_number r.moment) _ c.1 in
    let f = both (is_32 r.riders) (is_32 r.spaces) d.1 in
    by (r.spaces == 0) refl (le_from r.no.0 largest_number a.0) (le_from r.pickup.0 largest_32 b.0) (le_from r.dropoff.0 largest_32 c.0) (le_from r.moment largest_number d.0)
    (le_from r.riders largest_32 f.0) (le_from r.spaces largest_32 f.1)
  where
    by : (t : Bool) → (r.spaces == 0) ≡ t → r.no.0 ≤ largest_number → r.pickup.0 ≤ largest_32 → r.dropoff.0 ≤ largest_32 → r.moment ≤ largest_number → r.riders ≤ largest_32 → r.spaces ≤ largest_32
        → head_in (114 ∷ spaced (r.no.0 ∷ r.pickup.0 ∷ r.dropoff.0 ∷ r.moment ∷ r.riders ∷ cond t [] (r.spaces ∷ []))) ≡ Some (Ride r Accepted)
    by true t hn hp hd ht hq hs =
        let none : 0 ≡ r.spaces = sym (eqb-true r.spaces 0 t) in
        ride_read r.no.0 r.pickup.0 r.dropoff.0 r.moment r.riders hn hp hd ht hq ∙ ap (λ s. Some (Ride (ride_of r.no.0 r.pickup.0 r.dropoff.0 r.moment r.riders s) Accepted)) none
    by false t hn hp hd ht hq hs = spaced_ride_read r.no.0 r.pickup.0 r.dropoff.0 r.moment r.riders r.spaces hn hp hd ht hq (grind (arith, nat_tests, t)) hs

-- The further lines.

same_number : (n : ℕ) → (n == n) ≡ true
same_number n = eq-eqb n n refl

-- a number behind which a word, or the end, stands
pub the_number_read : (n : ℕ) (rest : List ℕ) → n < 2 ^ 64 → begins_no_digit rest ≡ true → behind_the (32 ∷ decimal n ++ rest) n ≡ Some rest
the_number_read n rest small ends =
    ap (λ o. and_then o (λ (found : ℕ × List ℕ). cond (found.0 == n) (Some found.1) None)) (printed_number n n rest (omega arith) small ends) ∙ ap (λ t. cond t (Some rest) None) (same_number n)

request_number_read : (asked : RequestNo) (rest : List ℕ) → asked.0 ≤ largest_number → begins_no_digit rest ≡ true → behind_request (32 ∷ decimal asked.0 ++ rest) asked ≡ Some rest
request_number_read asked rest le ends =
    ap (λ o. and_then o (λ (found : ℕ × List ℕ). cond (found.0 == asked.0) (Some found.1) None)) (printed_number asked.0 largest_number rest le (omega arith) ends) ∙ ap (λ t. cond t (Some rest) None) (same_number asked.0)

word_read : (asked : RequestNo) (word : List ℕ) → asked.0 ≤ largest_number → word_for (spaced (asked.0 ∷ []) ++ 32 ∷ word) asked ≡ Some word
word_read asked word le =
    ap (λ l. word_for (32 ∷ l ++ 32 ∷ word) asked) (append-nil (decimal asked.0)) ∙ ap (λ o. and_then o behind_space_of) (request_number_read asked (32 ∷ word) le refl)

reason_read : (reason : Reason) → reason_in (reason_text reason) ≡ Some reason
reason_read Closed = refl
reason_read Place = refl
reason_read Riders = refl
reason_read Moment = refl
reason_read Repeated = refl

cancel_reason_read : (reason : CancelReason) → cancel_reason_in (cancel_reason_text reason) ≡ Some reason
cancel_reason_read why.Unknown = refl
cancel_reason_read why.Waiting = refl
cancel_reason_read why.Nobody = refl
cancel_reason_read why.Cancelled = refl
cancel_reason_read why.Served = refl

pub refusal_read : (asked : RequestNo) (reason : Reason) → asked.0 ≤ largest_number → refusal_in (spaced (asked.0 ∷ []) ++ 32 ∷ reason_text reason) asked ≡ Some reason
refusal_read asked reason le = ap (λ o. and_then o reason_in) (word_read asked (reason_text reason) le) ∙ reason_read reason

pub cancel_refusal_read : (asked : RequestNo) (reason : CancelReason) → asked.0 ≤ largest_number → cancel_refusal_in (spaced (asked.0 ∷ []) ++ 32 ∷ cancel_reason_text reason) asked ≡ Some reason
cancel_refusal_read asked reason le = ap (λ o. and_then o cancel_reason_in) (word_read asked (cancel_reason_text reason) le) ∙ cancel_reason_read reason

pub behind_read : (clock : ℕ) → clock ≤ latest_clock → behind_in (codes " back" ++ spaced (clock ∷ [])) ≡ Some clock
behind_read clock le = then_spaced clock latest_clock [] (λ (c : ℕ × List ℕ). at_end c.0 c.1) le (omega arith)

positions_read : (a b : ℕ) → 1 ≤ a → a < b → b ≤ largest_position → positions_at_end (spaced (a ∷ b ∷ [])) ≡ Some (a, b)
positions_read a b some order le =
    let e : (nat_lt 0 a && nat_lt a b) ≡ true = both_hold (nat_lt 0 a) (nat_lt a b) (grind (arith, nat_tests)) (grind (arith, nat_tests)) in
    then_spaced a largest_position (b ∷ []) _ (omega arith) (omega arith) ∙ then_spaced b largest_position [] _ le (omega arith)
    ∙ ap (λ t. cond t (Some (a, b)) None) e

abbrev removal_of : ℕ → ℕ → ℕ → RemovalHead
removal_of v p d = record { no = record { 0 = v }; pickup = p; dropoff = d }

pub removal_read : (asked : RequestNo) (x : RemovalHead) → asked.0 ≤ largest_number → is_removal_head x ≡ true → removal_in (spaced (asked.0 ∷ x.no.0 ∷ x.pickup ∷ x.dropoff ∷ [])) asked ≡ Some x
removal_read asked x le e =
    let a = both (is_32 x.no.0) _ e in
    let b = both (nat_le 1 x.pickup) _ a.1 in
    let c = both (nat_lt x.pickup x.dropoff) (nat_le x.dropoff largest_position) b.1 in
    let order : x.pickup < x.dropoff = grind (arith, nat_tests, c.0) in
    ap (λ o. and_then o (λ (rest : List ℕ). and_then (number_ahead rest largest_32) (λ (vehicle : ℕ × List ℕ).
    and_then (positions_at_end vehicle.1) (λ (p : ℕ × ℕ). Some (removal_of vehicle.0 p.0 p.1))))) (request_number_read asked (spaced (x.no.0 ∷ x.pickup ∷ x.dropoff ∷ [])) le refl)
    ∙ then_spaced x.no.0 largest_32 (x.pickup ∷ x.dropoff ∷ []) _ (le_from x.no.0 largest_32 a.0) (omega arith)
    ∙ ap (λ o. and_then o (λ (p : ℕ × ℕ). Some (removal_of x.no.0 p.0 p.1))) (positions_read x.pickup x.dropoff (le_from 1 x.pickup b.0) order (le_from x.dropoff largest_position c.1))

kind_read : (k : StopKind) (rest : List ℕ) → kind_ahead (32 ∷ kind_text k ++ rest) ≡ Some (k, rest)
kind_read Pickup rest = refl
kind_read Dropoff rest = refl

stay_read : (n : NodeNo) (a d : ℕ) → n.0 ≤ largest_32 → a ≤ largest_number → d ≤ largest_number → stay_at_end (spaced (n.0 ∷ a ∷ d ∷ [])) ≡ Some (n, a, d)
stay_read n a d hn ha hd =
    then_spaced n.0 largest_32 (a ∷ d ∷ []) _ hn (omega arith) ∙ then_spaced a largest_number (d ∷ []) _ ha (omega arith) ∙ then_spaced d largest_number [] _ hd (omega arith)

abbrev behind_stay : ℕ → ℕ → StopKind → (NodeNo × ℕ × ℕ) → Option (VehicleNo × Served)
behind_stay v n k stay = Some (record { 0 = v }, record { kind = k; no = record { 0 = n }; node = stay.0; arr = stay.1; dep = stay.2 })

abbrev behind_kind : ℕ → ℕ → (StopKind × List ℕ) → Option (VehicleNo × Served)
behind_kind v n kind = and_then (stay_at_end kind.1) (behind_stay v n kind.0)

abbrev behind_number : ℕ → (ℕ × List ℕ) → Option (VehicleNo × Served)
behind_number v asked = and_then (kind_ahead asked.1) (behind_kind v asked.0)

abbrev behind_vehicle : (ℕ × List ℕ) → Option (VehicleNo × Served)
behind_vehicle vehicle = and_then (number_ahead vehicle.1 largest_number) (behind_number vehicle.0)

pub served_read : (s : VehicleNo × Served) → is_served_text s ≡ true
    → served_in (spaced (s.0.0 ∷ s.1.no.0 ∷ []) ++ 32 ∷ kind_text s.1.kind ++ spaced (s.1.node.0 ∷ s.1.arr ∷ s.1.dep ∷ [])) ≡ Some s
served_read s e =
    let a = both (is_32 s.0.0) _ e in
    let b = both (is_number s.1.no.0) _ a.1 in
    let c = both (is_32 s.1.node.0) _ b.1 in
    let d = both (is_number s.1.arr) (is_number s.1.dep) c.1 in
    let stays : List ℕ = spaced (s.1.node.0 ∷ s.1.arr ∷ s.1.dep ∷ []) in
    ap served_in (regroup (decimal s.0.0) (decimal s.1.no.0) (kind_text s.1.kind) stays)
    ∙ ap (λ o. and_then o behind_vehicle) (printed_number s.0.0 largest_32 (32 ∷ decimal s.1.no.0 ++ (32 ∷ kind_text s.1.kind ++ stays)) (le_from s.0.0 largest_32 a.0) (omega arith) refl)
    ∙ ap (λ o. and_then o (behind_number s.0.0)) (printed_number s.1.no.0 largest_number (32 ∷ kind_text s.1.kind ++ stays) (le_from s.1.no.0 largest_number b.0) (omega arith) refl)
    ∙ ap (λ o. and_then o (behind_kind s.0.0 s.1.no.0)) (kind_read s.1.kind stays)
    ∙ ap (λ o. and_then o (behind_stay s.0.0 s.1.no.0 s.1.kind)) (stay_read s.1.node s.1.arr s.1.dep (le_from s.1.node.0 largest_32 c.0) (le_from s.1.arr largest_number d.0) (le_from s.1.dep largest_number d.1))
  where
    regroup : (m n k s : List ℕ) → (32 ∷ (m ++ (32 ∷ (n ++ [])))) ++ 32 ∷ k ++ s ≡ 32 ∷ m ++ (32 ∷ n ++ (32 ∷ k ++ s))
    regroup m n k s =
        ap (λ l. ((32 ∷ (m ++ (32 ∷ l))) ++ 32 ∷ k) ++ s) (append-nil n)
        ∙ ap (λ l. (32 ∷ l) ++ s) (append_assoc m (32 ∷ n) (32 ∷ k)) ∙ ap (λ l. 32 ∷ l) (append_assoc m (32 ∷ n ++ 32 ∷ k) s)
        ∙ ap (λ l. 32 ∷ m ++ (32 ∷ l)) (append_assoc n (32 ∷ k) s)

-- a minus sign begins no number
no_minus : (n : ℕ) (more : List ℕ) → n < 2 ^ 64 → decimal n ++ more ≡ 45 ∷ [] → ⊥
no_minus n more small e = by (decimal n) (digits_decimal numerals n small) (decimal_nonempty n small) e
  where
    by : (ds : List ℕ) → are_digits ds ≡ true → 0 < length ds → ds ++ more ≡ 45 ∷ [] → ⊥
    by [] a some e = absurd (omega arith)
    by (d ∷ ds) a some e =
        let first : d ≡ 45 = ap (λ l. get_or l 0 0) e in
        let digit = both (nat_le 48 d) (nat_le d 57) (both (nat_le 48 d && nat_le d 57) (are_digits ds) a).0 in
        let low = le_from 48 d digit.0 in
        absurd (omega (arith, first, low))

pub not_absent : (n : ℕ) (more : List ℕ) → n < 2 ^ 64 → bytes_eq (32 ∷ decimal n ++ more) (codes " -") ≡ false
not_absent n more small = by (bytes_eq (32 ∷ decimal n ++ more) (codes " -")) refl
  where
    by : (t : Bool) → bytes_eq (32 ∷ decimal n ++ more) (codes " -") ≡ t → t ≡ false
    by true t = absurd (no_minus n more small (ap (drop 1) ((bytes_eq-Decides (32 ∷ decimal n ++ more) (codes " -")).0 t)))
    by false t = refl

pub rest_read : (value : Option ℕ) → is_rest_text value ≡ true → rest_at_end (32 ∷ rest_text value) ≡ Some value
rest_read None e = refl
rest_read (Some v) e =
    let le = le_from v largest_value e in
    ap (λ l. rest_at_end (32 ∷ l)) (sym (append-nil (decimal v)))
    ∙ ap (λ t. cond t (Some None) (and_then (number_ahead (32 ∷ decimal v ++ []) largest_value) (λ (r : ℕ × List ℕ). at_end (Some r.0) r.1))) (not_absent v [] (omega (arith, le)))
    ∙ then_spaced v largest_value [] (λ (r : ℕ × List ℕ). at_end (Some r.0) r.1) le (omega arith)

-- nodes and pairs
nodes_read_ahead : (most : ℕ) (nodes : List NodeNo) → length nodes ≤ most → list_all is_node_text nodes ≡ true → nodes_ahead most (spaced (numbers_of_items node_number nodes)) ≡ Some nodes
nodes_read_ahead zero [] few e = refl
nodes_read_ahead (suc most) [] few e = refl
nodes_read_ahead zero (n ∷ nodes) few e = absurd (omega arith)
nodes_read_ahead (suc most) (n ∷ nodes) few e =
    let a = both (is_node_text n) (list_all is_node_text nodes) e in
    then_spaced n.0 largest_32 (numbers_of_items node_number nodes) _ (le_from n.0 largest_32 a.0) (omega arith)
    ∙ ap (in_front (n ∷ [])) (nodes_read_ahead most nodes (omega arith) a.1)

pub nodes_read : (nodes : List NodeNo) → 1 ≤ length nodes → length nodes ≤ 64 → list_all is_node_text nodes ≡ true → nodes_of_line (spaced (numbers_of_items node_number nodes)) ≡ Some nodes
nodes_read [] some few e = absurd (omega arith)
nodes_read (n ∷ nodes) some few e = ap if_any (nodes_read_ahead 64 (n ∷ nodes) few e)

pairs_read_ahead : (most : ℕ) (last : Option NodeNo) (pairs : List (NodeNo × ℕ)) → length pairs ≤ most → list_all is_pair_text pairs ≡ true → rise_from last pairs ≡ true
    → pairs_ahead most last (spaced (numbers_of_items pair_numbers pairs)) ≡ Some pairs
pairs_read_ahead zero last [] few e f = refl
pairs_read_ahead (suc most) last [] few e f = refl
pairs_read_ahead zero last (p ∷ pairs) few e f = absurd (omega arith)
pairs_read_ahead (suc most) last (p ∷ pairs) few e f =
    let a = both (is_pair_text p) (list_all is_pair_text pairs) e in
    let b = both (is_32 p.0.0) (nat_le p.1 largest_value) a.0 in
    let r = both (is_above p.0 last) (rise_from (Some p.0) pairs) f in
    then_spaced p.0.0 largest_32 (p.1 ∷ numbers_of_items pair_numbers pairs) _ (le_from p.0.0 largest_32 b.0) (omega arith)
    ∙ then_spaced p.1 largest_value (numbers_of_items pair_numbers pairs) _ (le_from p.1 largest_value b.1) (omega arith)
    ∙ ap (λ t. cond t (in_front (p ∷ []) (pairs_ahead most (Some p.0) (spaced (numbers_of_items pair_numbers pairs)))) None) r.0
    ∙ ap (in_front (p ∷ [])) (pairs_read_ahead most (Some p.0) pairs (omega arith) a.1 r.1)

pub pairs_read : (last : Option NodeNo) (pairs : List (NodeNo × ℕ)) → 1 ≤ length pairs → length pairs ≤ 32 → list_all is_pair_text pairs ≡ true → rise_from last pairs ≡ true
    → pairs_of_line (spaced (numbers_of_items pair_numbers pairs)) last ≡ Some pairs
pairs_read last [] some few e f = absurd (omega arith)
pairs_read last (p ∷ pairs) some few e f = ap if_any (pairs_read_ahead 32 last (p ∷ pairs) few e f)
