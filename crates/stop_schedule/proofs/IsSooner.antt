use Rattle.std.proofs.Common.{◌≡◌, ℕ, zero, suc, ◌+◌, ◌<◌, ◌≤◌, ◌==◌, ◌&&◌, ◌||◌, nat_le, true, List, [], ◌∷◌, length, sum, max, Option, Some, None, refl, arith, ⊎_elim}
use Rattle.std.specs.Prelude.{slice_index, slice_get}
use Rattle.std.proofs.lemmas.Bool.{and_parts, and_from, or_cases, or_right, eqb-true, leb-true, le-leb}
use Rattle.std.proofs.lemmas.List.Sums.{sum_by-cons}
use Rattle.road_graph.specs.declared.road.NodeNo.{NodeNo}
use Rattle.stop_schedule.specs.declared.stop.Stop.{Stop}
use Rattle.stop_schedule.specs.declared.stop.StopKind.{StopKind}
use Rattle.stop_schedule.specs.declared.stop.StopKind.TheVariants.{Pickup, Dropoff}
use Rattle.stop_schedule.specs.Keeping.{most_stops, is_seated, is_in_time, are_in_time, is_over_by, keeps_along}
use Rattle.stop_schedule.specs.Plans.{Plan, Course}
use Rattle.stop_schedule.specs.Times.{departs, arrives, halt_time, halt_time_or, stop_time, stop_times, promised_time}
use Rattle.stop_schedule.proofs.Holds.{AreShorter, halt_time-detour}
use Rattle.stop_schedule.proofs.IsKept.{course, each_below_at, each_below_from, departs_shift, promised_shift}
use Rattle.stop_schedule.proofs.OneMore.{split}
use Rattle.std.specs.List.{insert}

-- Two courses over the same stops of which the former reaches the first stop no later, has stopped there no later, and has no longer
-- leg behind it.
pub record IsSooner (stop : ℕ) (halt halt' : Option NodeNo) (left left' x y : ℕ) (lengths lengths' : List ℕ) : Type 0 where
  pub first : left + x ≤ left' + y
  pub halts : (n : NodeNo) → left + x + halt_time stop halt n ≤ left' + y + halt_time stop halt' n
  pub legs : (k : ℕ) → slice_index lengths k ≤ slice_index lengths' k

pub shorter_each : (xs ys : List ℕ) → AreShorter xs ys → (k : ℕ) → slice_index xs k ≤ slice_index ys k
shorter_each [] ys h k = omega arith
shorter_each (x ∷ xs) [] h k = absurd h
shorter_each (x ∷ xs) (y ∷ ys) h zero = h.0
shorter_each (x ∷ xs) (y ∷ ys) h (suc k) = shorter_each xs ys h.1 k

module _ (stop : ℕ) (halt halt' : Option NodeNo) (left left' x y : ℕ) (stops : List Stop) (lengths lengths' : List ℕ) (sooner : IsSooner stop halt halt' left left' x y lengths lengths') where
  abbrev pub former : Course
  former = course halt left stops (x ∷ lengths)

  abbrev pub latter : Course
  latter = course halt' left' stops (y ∷ lengths')

  first_left : (o : Option Stop) → left + x + halt_time_or stop halt o ≤ left' + y + halt_time_or stop halt' o
  first_left None = let first = sooner.first in omega arith
  first_left (Some s) = sooner.halts s.node

  pub departs_sooner : (k : ℕ) → (arrives stop former (suc k) ≤ arrives stop latter (suc k)) × (departs stop former (suc k) ≤ departs stop latter (suc k))
  departs_sooner zero = let first = sooner.first in let halts = first_left (slice_get stops 0) in (omega arith, omega arith)
  departs_sooner (suc k) = let before = departs_sooner k in let leg = sooner.legs k in (omega arith, omega arith)

  pub promised_sooner : (k : ℕ) (kind : StopKind) → promised_time stop former (suc k) kind ≤ promised_time stop latter (suc k) kind
  promised_sooner k Pickup = (departs_sooner k).1
  promised_sooner k Dropoff = (departs_sooner k).0

  -- what the latter keeps, the former keeps
  pub keeps_sooner : (p : Plan) → keeps_along stop p latter ≡ true → keeps_along stop p former ≡ true
  keeps_sooner p h =
      let over = and_parts (nat_le (length stops) most_stops && is_seated p.seats p.spaces stops && are_in_time stop latter) (is_over_by stop latter p.until) h in
      let in_time = and_parts (nat_le (length stops) most_stops && is_seated p.seats p.spaces stops) (are_in_time stop latter) over.0 in
      and_from (nat_le (length stops) most_stops && is_seated p.seats p.spaces stops && are_in_time stop former) (is_over_by stop former p.until)
      (and_from (nat_le (length stops) most_stops && is_seated p.seats p.spaces stops) (are_in_time stop former) in_time.0
      (each_below_from (length stops) (λ k. is_in_time stop former (suc k) (slice_get stops k)) (λ k l. at k (slice_get stops k) (each_below_at (length stops) (λ k. is_in_time stop latter (suc k) (slice_get stops k)) in_time.1 k l))))
      (ends (length stops) over.1)
    where
      at : (k : ℕ) (o : Option Stop) → is_in_time stop latter (suc k) o ≡ true → is_in_time stop former (suc k) o ≡ true
      at k None e = refl
      at k (Some s) e = let l = leb-true (promised_time stop latter (suc k) s.kind) s.limit e in let m = promised_sooner k s.kind in le-leb (promised_time stop former (suc k) s.kind) s.limit (omega arith)

      ends : (n : ℕ) → (n == 0) || nat_le (departs stop latter n) p.until ≡ true → (n == 0) || nat_le (departs stop former n) p.until ≡ true
      ends zero e = refl
      ends (suc n) e =
          or_right (suc n == 0) (nat_le (departs stop former (suc n)) p.until)
          (⊎_elim (λ none. let z = eqb-true (suc n) 0 none in absurd (omega arith)) (λ k. let l = leb-true (departs stop latter (suc n)) p.until k in let m = (departs_sooner n).1 in le-leb (departs stop former (suc n)) p.until (omega arith))
          (or_cases (suc n == 0) (nat_le (departs stop latter (suc n)) p.until) e))

-- where the first stop is stopped at no longer, all are together
pub stop_times_shorter : (stop : ℕ) (c e : Course) → c.stops ≡ e.stops → ((s : Stop) → slice_get e.stops 0 ≡ Some s → halt_time stop c.halt s.node ≤ halt_time stop e.halt s.node) → (n : ℕ) → stop_times stop c n ≤ stop_times stop e n
stop_times_shorter stop c e same first zero = omega arith
stop_times_shorter stop c e same first (suc n) = let before = stop_times_shorter stop c e same first n in let here = one n in omega arith where
  at : (o : Option Stop) → ((s : Stop) → o ≡ Some s → halt_time stop c.halt s.node ≤ halt_time stop e.halt s.node) → halt_time_or stop c.halt o ≤ halt_time_or stop e.halt o
  at None h = omega arith
  at (Some s) h = h s refl

  one : (k : ℕ) → stop_time stop c (suc k) ≤ stop_time stop e (suc k)
  one zero = rw same (at (slice_get e.stops 0) first)
  one (suc k) = rw same (omega arith)

-- where a stop stands after one more was put in after the first n
abbrev pub past : ℕ → ℕ → ℕ
past zero k = suc k
past (suc n) zero = zero
past (suc n) (suc k) = suc (past n k)

-- A stop more makes no other stop sooner, and so a stop less makes none later.
pub no_sooner : (stop n : ℕ) (halt : Option NodeNo) (left x y : ℕ) (t : Stop) (stops : List Stop) (lengths : List ℕ) → length lengths ≡ length stops → (n < length stops → slice_index lengths n ≤ x + y) → (k : ℕ) → k < length stops
    → let c = course halt left stops lengths in let e = course halt left (insert stops n t) (split n x y lengths) in
    (arrives stop c (suc k) ≤ arrives stop e (suc (past n k))) × (departs stop c (suc k) ≤ departs stop e (suc (past n k)))
no_sooner stop n halt left x y t [] lengths many way k l = absurd (omega arith)
no_sooner stop n halt left x y t (s ∷ stops) [] many way k l = absurd (omega arith)
no_sooner stop zero halt left x y t (s ∷ stops) (z ∷ lengths) many way k l =
    let shorter : z ≤ x + y = way (omega arith) in
    let next = max (left + x + halt_time stop halt t.node) t.ready in
    let sooner = departs_sooner stop halt (Some t.node) left next z y (s ∷ stops) lengths lengths
    (record { first = omega arith; halts = λ m. let e = halt_time-detour stop halt t.node m in omega arith; legs = λ m. omega arith }) k in
    let shift = departs_shift stop halt left x t (s ∷ stops) (y ∷ lengths) in
    let arrive = promised_shift stop halt left x t (s ∷ stops) (y ∷ lengths) k Dropoff in
    (omega (arith, arrive, sooner), omega (arith, shift (suc k), sooner))
no_sooner stop (suc n) halt left x y t (s ∷ stops) (z ∷ lengths) many way zero l = (omega arith, omega arith)
no_sooner stop (suc n) halt left x y t (s ∷ stops) (z ∷ lengths) many way (suc k) l =
    let more = no_sooner stop n (Some s.node) (max (left + z + halt_time stop halt s.node) s.ready) x y t stops lengths (omega arith) (λ m. way (omega arith)) k (omega arith) in
    let old_left = departs_shift stop halt left z s stops lengths (suc k) in
    let new_left = departs_shift stop halt left z s (insert stops n t) (split n x y lengths) (suc (past n k)) in
    let old_reached = promised_shift stop halt left z s stops lengths k Dropoff in
    let new_reached = promised_shift stop halt left z s (insert stops n t) (split n x y lengths) (past n k) Dropoff in
    (omega (arith, old_reached, new_reached, more), omega (arith, old_left, new_left, more))

pub sum_shorter : (xs ys : List ℕ) → AreShorter xs ys → sum xs ≤ sum ys
sum_shorter [] ys h = omega arith
sum_shorter (x ∷ xs) [] h = absurd h
sum_shorter (x ∷ xs) (y ∷ ys) h =
    let rest = sum_shorter xs ys h.1 in
    let a = sum_by-cons (λ (n : ℕ). n) x xs in
    let b = sum_by-cons (λ (n : ℕ). n) y ys in
    omega arith
