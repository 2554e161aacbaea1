use Rattle.std.proofs.Common.{◌≡◌, ℕ, zero, suc, ◌+◌, ◌-◌, ◌≤◌, ◌==◌, ◌&&◌, Bool, true, false, cond, Option, Some, None, List, [], ◌∷◌, drop, map, length, max, sym, refl, ap, ◌∙◌, subst, arith}
use Rattle.std.specs.Prelude.{slice_get, slice_index, nat_le, option_map}
use Rattle.std.proofs.lemmas.Bool.{eqb-true, ne_eqb}
use Rattle.std.proofs.lemmas.Option.{slice_get_within}
use Rattle.std.proofs.lemmas.List.{get_or-drop, drop-map, drop-drop, length-drop}
use Rattle.road_graph.specs.declared.road.NodeNo.{NodeNo}
use Rattle.road_graph.specs.Paths.{length_of}
use Rattle.road_graph.specs.Roads.{Roads}
use Rattle.stop_schedule.specs.declared.stop.SeatKind.{SeatKind}
use Rattle.stop_schedule.specs.declared.stop.SeatKind.TheVariants.{Seat, Space}
use Rattle.stop_schedule.specs.declared.stop.Stop.{Stop}
use Rattle.stop_schedule.specs.declared.stop.StopKind.{StopKind}
use Rattle.stop_schedule.specs.declared.stop.StopKind.TheVariants.{Pickup, Dropoff}
use Rattle.stop_schedule.specs.Fleets.{Car}
use Rattle.stop_schedule.specs.Keeping.{picks_up, drops_off}
use Rattle.stop_schedule.specs.Plans.{Plan, Course, course_of, halt_at}
use Rattle.stop_schedule.specs.Rates.{Rates}
use Rattle.stop_schedule.specs.Times.{departs, arrives, halt_time_or, ready_or, aboard, aboard_before, promised_time}
use Rattle.stop_advance.specs.Advance.{reached_of, reached_by, from_stop, advanced_in}
use Rattle.board_core.specs.Steps.{moved_car}
use Rattle.board_core.proofs.Chains.{Chained, node_from_is, chained_drop}
use Rattle.board_core.proofs.StopCounts.{count_drop}
use Rattle.board_core.proofs.Inserts.{within}
use Rattle.board_core.proofs.Kept.{IsKept}
use Rattle.board_core.proofs.NewStops.{AreDroppedLater}
use Rattle.board_core.proofs.SoundPlans.{IsSound}

-- an element of the rest of a list
pub slice_get-drop : {X : Type 0} (k : ℕ) (xs : List X) (i : ℕ) → slice_get (drop k xs) i ≡ slice_get xs (k + i)
slice_get-drop zero xs i = let e : i ≡ 0 + i = omega arith in ap (slice_get xs) e
slice_get-drop (suc k) [] i = refl
slice_get-drop (suc k) (x ∷ xs) i = let e : suc (k + i) ≡ suc k + i = omega arith in slice_get-drop k xs i ∙ ap (slice_get (x ∷ xs)) e

-- the vehicle halts at the same nodes along the rest of a schedule
halt_rest : (rates : Rates) (p : Plan) (k i : ℕ) → k ≤ length p.stops → halt_at (course_of (from_stop rates p k)) i ≡ halt_at (course_of p) (k + i)
halt_rest rates p zero zero l = refl
halt_rest rates p (suc k) zero l =
    let e : (suc k == 0) ≡ false = ne_eqb _ _ (λ (h : suc k ≡ 0). omega arith) in
    let m : suc k - 1 ≡ k = omega arith in
    let n : suc k + 0 ≡ suc k = omega arith in
    let there = within p.stops k (omega arith) in
    rw (e, m, n, there.1) refl
halt_rest rates p k (suc i) l = let n : k + suc i ≡ suc (k + i) = omega arith in rw n (ap (option_map (λ (s : Stop). s.node)) (slice_get-drop k p.stops i))

-- and stops as long
stop_rest : (rates : Rates) (p : Plan) (k i : ℕ) (o : Option Stop) → slice_get p.stops (k + i) ≡ o
    → halt_time_or rates.stop (halt_at (course_of (from_stop rates p k)) i) o ≡ halt_time_or rates.stop (halt_at (course_of p) (k + i)) o
stop_rest rates p k i None e = refl
stop_rest rates p k i (Some s) e = let l = slice_get_within p.stops (k + i) s e in ap (λ (h : Option NodeNo). halt_time_or rates.stop h (Some s)) (halt_rest rates p k i (omega arith))

-- the times of the rest of a schedule are those of before
pub departs_rest : (rates : Rates) (p : Plan) (k i : ℕ) → departs rates.stop (course_of (from_stop rates p k)) i ≡ departs rates.stop (course_of p) (k + i)
departs_rest rates p k zero = let e : k ≡ k + 0 = omega arith in ap (departs rates.stop (course_of p)) e
departs_rest rates p k (suc i) = let before = departs_rest rates p k i in
    let long : slice_index (map length_of (drop k p.legs)) i ≡ slice_index (map length_of p.legs) (k + i) = ap (λ (xs : List ℕ). slice_index xs i) (sym (drop-map length_of k p.legs)) ∙ get_or-drop k (map length_of p.legs) i 0 in
    let ready : ready_or (slice_get (drop k p.stops) i) ≡ ready_or (slice_get p.stops (k + i)) = ap ready_or (slice_get-drop k p.stops i) in
    let takes = ap (halt_time_or rates.stop (halt_at (course_of (from_stop rates p k)) i)) (slice_get-drop k p.stops i) ∙ stop_rest rates p k i (slice_get p.stops (k + i)) refl in
    let e : suc (k + i) ≡ k + suc i = omega arith in
    one _ _ _ _ _ _ _ _ before long takes ready ∙ ap (departs rates.stop (course_of p)) e
  where
    one : (a a' b b' c c' d d' : ℕ) → a ≡ a' → b ≡ b' → c ≡ c' → d ≡ d' → max (a + b + c) d ≡ max (a' + b' + c') d'
    one a a' b b' c c' d d' p q r s = cc

-- so are the promised times
pub promised_rest : (rates : Rates) (p : Plan) (k i : ℕ) (kind : StopKind)
    → promised_time rates.stop (course_of (from_stop rates p k)) (suc i) kind ≡ promised_time rates.stop (course_of p) (suc (k + i)) kind
promised_rest rates p k i Pickup = departs_rest rates p k (suc i) ∙ (let e : k + suc i ≡ suc (k + i) = omega arith in ap (departs rates.stop (course_of p)) e)
promised_rest rates p k i Dropoff = let before = departs_rest rates p k i in
    let long : slice_index (map length_of (drop k p.legs)) i ≡ slice_index (map length_of p.legs) (k + i) = ap (λ (xs : List ℕ). slice_index xs i) (sym (drop-map length_of k p.legs)) ∙ get_or-drop k (map length_of p.legs) i 0 in cc

-- the rest of a sound schedule is sound
rest_dropped : (stops : List Stop) (k : ℕ) → AreDroppedLater stops → AreDroppedLater (drop k stops)
rest_dropped stops k all i s e up = let x = all (k + i) s (sym (slice_get-drop k stops i) ∙ e) up in let b = x.2 in
    let q : k + (x.0 - k) ≡ x.0 = omega arith in (x.0 - k, x.1, omega arith, slice_get-drop k stops (x.0 - k) ∙ ap (slice_get stops) q ∙ x.3, x.4, x.5, x.6, x.7)

-- who is aboard along the rest
aboard_rest : (seat : SeatKind) (stops : List Stop) (k i : ℕ) → aboard seat (drop k stops) i ≡ aboard seat stops (k + i)
aboard_rest seat stops k i = ap (aboard_before seat) (drop-drop i k stops)

-- the rest keeps its promises
pub rest_kept : (rates : Rates) (p : Plan) (k : ℕ) → k ≤ length p.stops → IsKept rates p → IsKept rates (from_stop rates p k)
rest_kept rates p k l h = record {
  few = (let d = length-drop k p.stops in let f = h.few in omega arith);
  seated = λ i b. (let d = length-drop k p.stops in let s = h.seated (k + i) (omega arith) in (let b = s.0 in let e = aboard_rest Seat p.stops k i in omega arith, let b = s.1 in let e = aboard_rest Space p.stops k i in omega arith));
  in_time = λ i s e. (let t = h.in_time (k + i) s (sym (slice_get-drop k p.stops i) ∙ e) in let q = promised_rest rates p k i s.kind in omega arith);
  over = λ b. (let d = length-drop k p.stops in let o = h.over (omega arith) in let t = departs_rest rates p k (length (drop k p.stops)) in
      let e : departs rates.stop (course_of p) (k + length (drop k p.stops)) ≡ departs rates.stop (course_of p) (length p.stops) = ap (departs rates.stop (course_of p)) (omega arith) in omega arith);
}

-- the rest is sound as a whole
pub rest_sound : (g : Roads) (rates : Rates) (p : Plan) (k : ℕ) → k ≤ length p.stops → IsSound g rates p → IsSound g rates (from_stop rates p k)
rest_sound g rates p k l s = record {
  picked_up_once = λ number. (let a = s.picked_up_once number in let b = count_drop (picks_up number) p.stops k in omega arith);
  dropped_off_once = λ number. (let a = s.dropped_off_once number in let b = count_drop (drops_off number) p.stops k in omega arith);
  dropped_off_later = rest_dropped p.stops k s.dropped_off_later;
  chained = subst (λ (n : NodeNo). Chained g n (drop k p.stops) (drop k p.legs)) (sym (node_from_is p.place p.place p.stops k)) (chained_drop g p.place p.place p.stops p.legs k l s.chained);
  kept = rest_kept rates p k l s.kept;
}

-- no more stops are reached than there are
pub reached-le : (stop : ℕ) (c : Course) (now n : ℕ) → reached_of stop c now n ≤ n
reached-le stop c now zero = omega arith
reached-le stop c now (suc n) = let rest = reached-le stop c now n in on ((reached_of stop c now n == n) && nat_le (arrives stop c (suc n)) now) rest
  where
    on : (b : Bool) → reached_of stop c now n ≤ n → cond b (suc n) (reached_of stop c now n) ≤ suc n
    on true rest = omega arith
    on false rest = omega arith

-- a vehicle moves to the rest of its schedule, also where that is all of it
pub moved_plan : (rates : Rates) (version now : ℕ) (car : Car) → (moved_car rates version now car).plan ≡ advanced_in rates car.plan now
moved_plan rates version now car = on (reached_by rates car.plan now == 0) refl
  where
    on : (b : Bool) → (reached_by rates car.plan now == 0) ≡ b → (cond b car (record car { plan = advanced_in rates car.plan now; stamp = version })).plan ≡ advanced_in rates car.plan now
    on true h = ap (from_stop rates car.plan) (sym (eqb-true _ _ h))
    on false h = refl

-- it keeps its number
pub moved_no : (rates : Rates) (version now : ℕ) (car : Car) → (moved_car rates version now car).no ≡ car.no
moved_no rates version now car = on (reached_by rates car.plan now == 0)
  where
    on : (b : Bool) → (cond b car (record car { plan = advanced_in rates car.plan now; stamp = version })).no ≡ car.no
    on true = refl
    on false = refl

-- its stamp isn't past the new version
pub moved_stamp : (rates : Rates) (version now : ℕ) (car : Car) → car.stamp ≤ version → (moved_car rates (version + 1) now car).stamp ≤ version + 1
moved_stamp rates version now car h = on (reached_by rates car.plan now == 0)
  where
    on : (b : Bool) → (cond b car (record car { plan = advanced_in rates car.plan now; stamp = version + 1 })).stamp ≤ version + 1
    on true = omega arith
    on false = omega arith
