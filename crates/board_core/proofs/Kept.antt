use Rattle.std.proofs.Common.{◌≡◌, ℕ, suc, ◌<◌, ◌≤◌, ◌==◌, ◌||◌, ◌&&◌, true, List, length, Option, Some, None, refl, subst, arith, inl, inr, ◌⊎◌}
use Rattle.std.specs.Prelude.{slice_get, nat_le}
use Rattle.std.proofs.lemmas.Bool.{leb-true, le-leb, eqb-true, eq-eqb, and_parts, and_from, or_cases, or_left, or_right, cases_lt}
use Rattle.std.proofs.lemmas.Option.{slice_get_within}
use Rattle.stop_schedule.specs.declared.stop.SeatKind.TheVariants.{Seat, Space}
use Rattle.stop_schedule.specs.declared.stop.Stop.{Stop}
use Rattle.stop_schedule.specs.Keeping.{most_stops, is_seated, is_in_time, are_in_time, is_over_by, keeps}
use Rattle.stop_schedule.specs.Plans.{Plan, Course, course_of}
use Rattle.stop_schedule.specs.Rates.{Rates}
use Rattle.stop_schedule.specs.Times.{departs, aboard, promised_time}
use Rattle.board_core.proofs.Alike.{each_below_at, each_below_from}

-- on leg i there is room for both kinds of riders
abbrev pub IsSeated : (seats spaces : ℕ) → List Stop → ℕ → Type 0
IsSeated seats spaces stops i = (aboard Seat stops i ≤ seats) × (aboard Space stops i ≤ spaces)

-- what a schedule that keeps its promises meets, fact by fact
pub record IsKept (rates : Rates) (p : Plan) : Type 0 where
  pub few : length p.stops ≤ most_stops
  pub seated : (i : ℕ) → i < length p.stops → IsSeated p.seats p.spaces p.stops i
  pub in_time : (k : ℕ) (s : Stop) → slice_get p.stops k ≡ Some s → promised_time rates.stop (course_of p) (suc k) s.kind ≤ s.limit
  pub over : 0 < length p.stops → departs rates.stop (course_of p) (length p.stops) ≤ p.until

-- the room on each leg
pub seated_at : (seats spaces : ℕ) (stops : List Stop) → is_seated seats spaces stops ≡ true → (i : ℕ) → i < length stops → IsSeated seats spaces stops i
seated_at seats spaces stops h i l =
    let a = and_parts _ _ (each_below_at (length stops) (λ i. nat_le (aboard Seat stops i) seats && nat_le (aboard Space stops i) spaces) h i l) in
    (leb-true _ _ a.0, leb-true _ _ a.1)

-- a stop is in time
pub in_time_at : (stop : ℕ) (c : Course) → are_in_time stop c ≡ true → (k : ℕ) (s : Stop) → slice_get c.stops k ≡ Some s → promised_time stop c (suc k) s.kind ≤ s.limit
in_time_at stop c h k s e = leb-true _ _ (subst (λ (o : Option Stop). is_in_time stop c (suc k) o ≡ true) e (each_below_at (length c.stops) (λ k. is_in_time stop c (suc k) (slice_get c.stops k)) h k (slice_get_within c.stops k s e)))

-- the last stop is left in time
pub over_at : (stop : ℕ) (c : Course) (until : ℕ) → is_over_by stop c until ≡ true → 0 < length c.stops → departs stop c (length c.stops) ≤ until
over_at stop c until h l = on (or_cases _ _ h)
  where
    on : ((length c.stops == 0) ≡ true) ⊎ (nat_le (departs stop c (length c.stops)) until ≡ true) → departs stop c (length c.stops) ≤ until
    on (inl x) = let e = eqb-true _ _ x in absurd (omega arith)
    on (inr x) = leb-true _ _ x

-- the test gives the facts
pub kept_from : (rates : Rates) (p : Plan) → keeps rates p ≡ true → IsKept rates p
kept_from rates p h = let a = and_parts _ _ h in let b = and_parts _ _ a.0 in let c = and_parts _ _ b.0 in record {
  few = leb-true _ _ c.0;
  seated = seated_at p.seats p.spaces p.stops c.1;
  in_time = λ k s e. in_time_at rates.stop (course_of p) b.1 k s e;
  over = over_at rates.stop (course_of p) p.until a.1;
}

-- and the facts the test
pub keeps_from : (rates : Rates) (p : Plan) → IsKept rates p → keeps rates p ≡ true
keeps_from rates p h = and_from _ _ (and_from _ _ (and_from _ _ (le-leb _ _ h.few) seated) in_time) over
  where
    seated : is_seated p.seats p.spaces p.stops ≡ true
    seated = each_below_from (length p.stops) (λ i. nat_le (aboard Seat p.stops i) p.seats && nat_le (aboard Space p.stops i) p.spaces)
        (λ i l. and_from _ _ (le-leb _ _ (h.seated i l).0) (le-leb _ _ (h.seated i l).1))

    one : (k : ℕ) (o : Option Stop) → slice_get p.stops k ≡ o → is_in_time rates.stop (course_of p) (suc k) o ≡ true
    one k None e = refl
    one k (Some s) e = le-leb _ _ (h.in_time k s e)

    in_time : are_in_time rates.stop (course_of p) ≡ true
    in_time = each_below_from (length p.stops) (λ k. is_in_time rates.stop (course_of p) (suc k) (slice_get p.stops k)) (λ k l. one k (slice_get p.stops k) refl)

    left : (0 < length p.stops) ⊎ (length p.stops ≤ 0) → ((length p.stops == 0) || nat_le (departs rates.stop (course_of p) (length p.stops)) p.until) ≡ true
    left (inl l) = or_right _ _ (le-leb _ _ (h.over l))
    left (inr l) = or_left _ _ (eq-eqb (length p.stops) 0 (omega arith))

    over : is_over_by rates.stop (course_of p) p.until ≡ true
    over = left (cases_lt 0 (length p.stops))
