use Rattle.std.proofs.Common.{◌≡◌, ℕ, zero, suc, ◌+◌, ◌-◌, ◌<◌, ◌≤◌, ◌==◌, ◌⊎◌, inl, inr, Bool, true, false, cond, List, [], ◌∷◌, ◌++◌, take, drop, map, length, Option, Some, None, sym, refl, ap, ◌∙◌, subst, arith, max}
use Rattle.std.specs.Prelude.{slice_get, slice_index, sum_by, option_map}
use Rattle.std.proofs.lemmas.Bool.{cases_eq, cases_lt, cond-true, cond-false, eq-eqb, ne_eqb, eqb-true}
use Rattle.std.proofs.lemmas.List.{append-nil, length-take-le}
use Rattle.std.proofs.lemmas.List.Sums.{sum_by-cons}
use Rattle.std.proofs.lemmas.Option.{slice_get_within}
use Rattle.ride_base.specs.declared.numbers.RequestNo.{RequestNo}
use Rattle.road_graph.specs.declared.road.NodeNo.{NodeNo}
use Rattle.road_graph.specs.Paths.{Path, length_of}
use Rattle.stop_schedule.specs.declared.stop.Front.{Front}
use Rattle.stop_schedule.specs.declared.stop.SeatKind.{SeatKind}
use Rattle.stop_schedule.specs.declared.stop.SeatKind.TheVariants.{Seat, Space}
use Rattle.stop_schedule.specs.declared.stop.Stop.{Stop}
use Rattle.stop_schedule.specs.declared.stop.StopKind.{StopKind}
use Rattle.stop_schedule.specs.declared.stop.StopKind.TheVariants.{Pickup, Dropoff}
use Rattle.stop_schedule.specs.Keeping.{IsProper, keeps}
use Rattle.stop_schedule.specs.Lists.{node_at, start_of}
use Rattle.stop_schedule.specs.Plans.{Plan, course_of, halt_at, still_halts}
use Rattle.stop_schedule.specs.Rates.{Rates}
use Rattle.stop_schedule.specs.Times.{departs, stop_time, halt_time_or, ready_or, promised_time, aboard, getting_off, getting_on, taking}
use Rattle.stop_removal.specs.Removals.{AreStopsOf, back_at, joint_ends, joint_over, leg_to, removed_in, with_joined, without_both}
use Rattle.board_core.proofs.FrontTimes.{departs_rise}
use Rattle.board_core.proofs.Inserts.{within}
use Rattle.board_core.proofs.Joints.{kind_of}
use Rattle.board_core.proofs.Kept.{IsKept, kept_from, keeps_from}
use Rattle.board_core.proofs.LessStops.{take_get}
use Rattle.std.proofs.lemmas.Bool.{and_parts}

-- A schedule without its last two stops, which are those of one number, keeps: nothing is driven in their place.

-- ---- the first stops of a schedule

abbrev first_stops : Plan → ℕ → Plan
first_stops p n = record p { stops = take n p.stops; legs = take n p.legs }

first_leg_length : (legs : List Path) (n k : ℕ) → k < n → slice_index (map length_of (take n legs)) k ≡ slice_index (map length_of legs) k
first_leg_length legs zero k h = absurd (omega arith)
first_leg_length [] (suc n) k h = refl
first_leg_length (leg ∷ legs) (suc n) zero h = refl
first_leg_length (leg ∷ legs) (suc n) (suc k) h = first_leg_length legs n k (omega arith)

first_halt : (p : Plan) (n k : ℕ) → k ≤ n → halt_at (course_of (first_stops p n)) k ≡ halt_at (course_of p) k
first_halt p n zero h = refl
first_halt p n (suc k) h = ap (option_map (λ (s : Stop). s.node)) (take_get p.stops n k (omega arith))

first_departs : (rates : Rates) (p : Plan) (n k : ℕ) → k ≤ n → departs rates.stop (course_of (first_stops p n)) k ≡ departs rates.stop (course_of p) k
first_departs rates p n zero h = refl
first_departs rates p n (suc k) h = one _ _ _ _ _ _ _ _ (first_departs rates p n k (omega arith)) (first_leg_length p.legs n k (omega arith)) takes (ap ready_or stands)
  where
    stands : slice_get (take n p.stops) k ≡ slice_get p.stops k
    stands = take_get p.stops n k (omega arith)

    takes : stop_time rates.stop (course_of (first_stops p n)) (suc k) ≡ stop_time rates.stop (course_of p) (suc k)
    takes = ap (λ (o : Option NodeNo). halt_time_or rates.stop o (slice_get (take n p.stops) k)) (first_halt p n k (omega arith)) ∙ ap (halt_time_or rates.stop (halt_at (course_of p) k)) stands

    one : (a a' b b' c c' d d' : ℕ) → a ≡ a' → b ≡ b' → c ≡ c' → d ≡ d' → max (a + b + c) d ≡ max (a' + b' + c') d'
    one a a' b b' c c' d d' p q r s = cc

first_promised : (rates : Rates) (p : Plan) (n k : ℕ) (kind : StopKind) → k < n → promised_time rates.stop (course_of (first_stops p n)) (suc k) kind ≡ promised_time rates.stop (course_of p) (suc k) kind
first_promised rates p n k Pickup h = first_departs rates p n (suc k) (omega arith)
first_promised rates p n k Dropoff h = let a = first_departs rates p n k (omega arith) in let b = first_leg_length p.legs n k h in cc

-- ---- who is aboard

two_last : (stops : List Stop) (n : ℕ) (s d : Stop) → slice_get stops n ≡ Some s → slice_get stops (suc n) ≡ Some d → length stops ≡ n + 2 → stops ≡ take n stops ++ s ∷ d ∷ []
two_last [] n s d e f h = cc
two_last (x ∷ []) n s d e f h = absurd (omega arith)
two_last (x ∷ y ∷ []) zero s d e f h = cc
two_last (x ∷ y ∷ z ∷ stops) zero s d e f h = absurd (omega arith)
two_last (x ∷ y ∷ stops) (suc n) s d e f h = ap (λ (l : List Stop). x ∷ l) (two_last (y ∷ stops) n s d e f (omega arith))

sum_two : (f : Stop → ℕ) (xs : List Stop) (s d : Stop) → sum_by f (xs ++ s ∷ d ∷ []) ≡ sum_by f xs + (f s + f d)
sum_two f [] s d = let a = sum_by-cons f s (d ∷ []) in let b = sum_by-cons f d [] in omega arith
sum_two f (x ∷ xs) s d = let a = sum_by-cons f x (xs ++ s ∷ d ∷ []) in let b = sum_by-cons f x xs in let rest = sum_two f xs s d in omega arith

sum_drop : (f : Stop → ℕ) (xs : List Stop) (s d : Stop) (i : ℕ) → i ≤ length xs → sum_by f (drop i (xs ++ s ∷ d ∷ [])) ≡ sum_by f (drop i xs) + (f s + f d)
sum_drop f xs s d zero h = sum_two f xs s d
sum_drop f [] s d (suc i) h = absurd (omega arith)
sum_drop f (x ∷ xs) s d (suc i) h = sum_drop f xs s d i (omega arith)

-- the riders of both stops are aboard between them alone
first_aboard : (seat : SeatKind) (xs : List Stop) (s d : Stop) (i : ℕ) → i ≤ length xs → s.kind ≡ Pickup → d.kind ≡ Dropoff → taking seat s ≡ taking seat d → aboard seat xs i ≡ aboard seat (xs ++ s ∷ d ∷ []) i
first_aboard seat xs s d i h up down same =
    let off = sum_drop (λ (t : Stop). getting_off seat t t.kind) xs s d i h in
    let on = sum_drop (λ (t : Stop). getting_on seat t t.kind) xs s d i h in
    let a : getting_off seat s s.kind ≡ 0 = ap (getting_off seat s) up in
    let b : getting_off seat d d.kind ≡ taking seat d = ap (getting_off seat d) down in
    let c : getting_on seat s s.kind ≡ taking seat s = ap (getting_on seat s) up in
    let e : getting_on seat d d.kind ≡ 0 = ap (getting_on seat d) down in omega arith

-- the first stops keep
first_kept : (rates : Rates) (p : Plan) (n : ℕ) (s d : Stop) → slice_get p.stops n ≡ Some s → slice_get p.stops (suc n) ≡ Some d → length p.stops ≡ n + 2 → s.kind ≡ Pickup → d.kind ≡ Dropoff → s.riders ≡ d.riders → s.spaces ≡ d.spaces
    → IsKept rates p → IsKept rates (first_stops p n)
first_kept rates p n s d e f long up down riders spaces h = record {
  few = (let a = h.few in let m = many in omega arith);
  seated = λ i l. (let m = many in let x = h.seated i (omega arith) in
      let a = first_aboard Seat (take n p.stops) s d i (omega arith) up down riders in let b = first_aboard Space (take n p.stops) s d i (omega arith) up down spaces in
      let q : aboard Seat p.stops i ≡ aboard Seat (take n p.stops ++ s ∷ d ∷ []) i = ap (λ (l : List Stop). aboard Seat l i) all in
      let r : aboard Space p.stops i ≡ aboard Space (take n p.stops ++ s ∷ d ∷ []) i = ap (λ (l : List Stop). aboard Space l i) all in
      let y = x.0 in let z = x.1 in (omega arith, omega arith));
  in_time = λ k t q. (let m = many in let b = slice_get_within (take n p.stops) k t q in let x = h.in_time k t (sym (take_get p.stops n k (omega arith)) ∙ q) in let y = first_promised rates p n k t.kind (omega arith) in omega arith);
  over = λ l. (let m = many in let o = h.over (omega arith) in let r = departs_rise rates.stop (course_of p) n 2 in
      let a : departs rates.stop (course_of (first_stops p n)) (length (take n p.stops)) ≡ departs rates.stop (course_of (first_stops p n)) n = ap (departs rates.stop (course_of (first_stops p n))) m in
      let b = first_departs rates p n n (omega arith) in let c : departs rates.stop (course_of p) (n + 2) ≡ departs rates.stop (course_of p) (length p.stops) = ap (departs rates.stop (course_of p)) (sym long) in omega arith);
}
  where
    many : length (take n p.stops) ≡ n
    many = length-take-le n p.stops (omega arith)

    all : p.stops ≡ take n p.stops ++ s ∷ d ∷ []
    all = two_last p.stops n s d e f long

none_kept : (rates : Rates) (p : Plan) → p.stops ≡ [] → IsKept rates p
none_kept rates p e = let m : length p.stops ≡ 0 = ap length e in record { few = omega arith; seated = λ i l. absurd (omega arith); in_time = λ k s q. absurd (let l = slice_get_within p.stops k s q in omega arith); over = λ l. absurd (omega arith) }

-- ---- a removal that joins nothing

drop_past : {X : Type 0} (n : ℕ) (xs : List X) → length xs ≤ n → drop n xs ≡ []
drop_past zero [] h = refl
drop_past zero (x ∷ xs) h = absurd (omega arith)
drop_past (suc n) [] h = refl
drop_past (suc n) (x ∷ xs) h = drop_past n xs (omega arith)

left_stops : (stops : List Stop) (i j : ℕ) → j ≡ i + 1 → length stops ≡ j → without_both stops i j ≡ take (i - 1) stops
left_stops stops i j next long = let none : j - i - 1 ≡ 0 = omega arith in
    ap (λ (k : ℕ). take (i - 1) stops ++ take k (drop i stops) ++ drop j stops) none ∙ ap (λ (l : List Stop). take (i - 1) stops ++ [] ++ l) (drop_past j stops (omega arith)) ∙ append-nil (take (i - 1) stops ++ []) ∙ append-nil (take (i - 1) stops)

left_legs : (legs walks : List Path) (i j : ℕ) → j ≡ i + 1 → length legs ≡ j → walks ≡ [] → with_joined legs i j walks ≡ take (i - 1) legs
left_legs legs walks i j next long empty = cond-true _ _ _ (eq-eqb j (i + 1) next) ∙ ap (λ (w : List Path). take (i - 1) legs ++ w ++ drop (j + 1) legs) empty
    ∙ ap (λ (l : List Path). take (i - 1) legs ++ [] ++ l) (drop_past (j + 1) legs (omega arith)) ∙ append-nil (take (i - 1) legs ++ []) ∙ append-nil (take (i - 1) legs)

-- nothing is joined only where both stops are the last ones
ends_there : (stops : List Stop) (front : Front) (i j : ℕ) → i < j → j ≤ length stops → joint_ends stops front i j ≡ [] → (j ≡ i + 1) × (length stops ≡ j)
ends_there stops front i j order last none = on (j == i + 1) refl none
  where
    no_stop : (from at : ℕ) → joint_over front stops from at ≡ [] → length stops ≤ at
    no_stop from at h = by (slice_get stops at) refl h
      where
        by : (o : Option Stop) → slice_get stops at ≡ o → leg_to (node_at front stops from) o ≡ [] → length stops ≤ at
        by None e q = past (cases_lt at (length stops))
          where
            past : (at < length stops) ⊎ (length stops ≤ at) → length stops ≤ at
            past (inl l) = let x = within stops at l in absurd (let bad : Some x.0 ≡ None = sym x.1 ∙ e in cc)
            past (inr l) = l
        by (Some t) e q = absurd (let bad : (node_at front stops from, t.node) ∷ [] ≡ [] = q in cc)

    first_none : (xs ys : List (NodeNo × NodeNo)) → xs ++ ys ≡ [] → xs ≡ []
    first_none [] ys h = refl
    first_none (x ∷ xs) ys h = absurd (let bad : x ∷ (xs ++ ys) ≡ [] = h in cc)

    on : (c : Bool) → (j == i + 1) ≡ c → cond c (joint_over front stops (i - 1) j) (joint_over front stops (i - 1) i ++ joint_over front stops (j - 1) j) ≡ [] → (j ≡ i + 1) × (length stops ≡ j)
    on true e h = let l = no_stop (i - 1) j h in (eqb-true j (i + 1) e, omega arith)
    on false e h = absurd (let l = no_stop (i - 1) i (first_none _ _ h) in omega arith)

pub last_keeps : (rates : Rates) (p : Plan) (front : Front) (number : RequestNo) (i j : ℕ) (walks : List Path) → IsProper p → keeps rates p ≡ true → AreStopsOf number p.stops i j
    → joint_ends p.stops front i j ≡ [] → walks ≡ [] → keeps rates (removed_in p front i j walks) ≡ true
last_keeps rates p front number i j walks proper kept at none empty = keeps_from rates (removed_in p front i j walks) (on (cases_eq (i - 1) 0))
  where
    last : j ≤ length p.stops
    last = let l = slice_get_within p.stops (j - 1) at.dropoff at.dropoff_stands in let o = at.order in omega arith

    there : (j ≡ i + 1) × (length p.stops ≡ j)
    there = ends_there p.stops front i j at.order last none

    stops : without_both p.stops i j ≡ take (i - 1) p.stops
    stops = left_stops p.stops i j there.0 there.1

    legs : with_joined p.legs i j walks ≡ take (i - 1) p.legs
    legs = left_legs p.legs walks i j there.0 (proper.as_many_legs ∙ there.1) empty

    up : at.pickup.kind ≡ Pickup
    up = kind_of at.pickup.kind (and_parts _ _ at.picked_up).0

    behind : (l : ℕ) × (d : Stop) × (i - 1 < l) × (slice_get p.stops l ≡ Some d) × (d.kind ≡ Dropoff) × (d.no ≡ at.pickup.no) × (d.riders ≡ at.pickup.riders) × (d.spaces ≡ at.pickup.spaces)
    behind = proper.dropped_off_later (i - 1) at.pickup at.pickup_stands up

    next : behind.0 ≡ suc (i - 1)
    next = let l = behind.2 in let m = slice_get_within p.stops behind.0 behind.1 behind.3 in let a = there.0 in let b = there.1 in let f = at.from_first in omega arith

    on : (i - 1 ≡ 0) ⊎ (i - 1 ≡ 0 → ⊥) → IsKept rates (removed_in p front i j walks)
    on (inl e) = none_kept rates (removed_in p front i j walks) (stops ∙ ap (λ (k : ℕ). take k p.stops) e)
    on (inr e) = subst (IsKept rates) (sym same)
        (first_kept rates p (i - 1) at.pickup behind.1 at.pickup_stands (ap (slice_get p.stops) (sym next) ∙ behind.3) (let a = there.0 in let b = there.1 in let f = at.from_first in omega arith) up behind.4 (sym behind.6) (sym behind.7) (kept_from rates p kept))
      where
        start : {X : Type 0} (x y : X) → start_of (back_at i j) x y ≡ y
        start x y = cond-false _ _ _ (ne_eqb (i - 1) 0 e)

        same : removed_in p front i j walks ≡ first_stops p (i - 1)
        same = ap (λ (n : NodeNo). record p { place = n; departure = start_of (back_at i j) front.time p.departure; halt = start_of (back_at i j) (still_halts front p) p.halt; stops = without_both p.stops i j; legs = with_joined p.legs i j walks }) (start front.node p.place)
            ∙ ap (λ (t : ℕ). record p { departure = t; halt = start_of (back_at i j) (still_halts front p) p.halt; stops = without_both p.stops i j; legs = with_joined p.legs i j walks }) (start front.time p.departure)
            ∙ ap (λ (h : Bool). record p { halt = h; stops = without_both p.stops i j; legs = with_joined p.legs i j walks }) (start (still_halts front p) p.halt)
            ∙ ap (λ (l : List Stop). record p { stops = l; legs = with_joined p.legs i j walks }) stops
            ∙ ap (λ (l : List Path). record p { stops = take (i - 1) p.stops; legs = l }) legs
