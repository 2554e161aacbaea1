use Rattle.std.proofs.Common.{◌≡◌, ℕ, suc, ◌+◌, ◌≤◌, inl, inr, true, List, map, length, Some, sym, refl, ap, ◌∙◌, subst, arith}
use Rattle.std.specs.Prelude.{slice_get}
use Rattle.std.proofs.lemmas.Bool.{leb-true, and_parts}
use Rattle.road_graph.specs.Paths.{Path, length_of}
use Rattle.road_graph.specs.Roads.{Roads}
use Rattle.stop_schedule.specs.declared.request.Request.{Request}
use Rattle.stop_schedule.specs.declared.stop.Front.{Front}
use Rattle.stop_schedule.specs.declared.stop.Insertion.{Insertion}
use Rattle.stop_schedule.specs.declared.stop.Promise.{Promise}
use Rattle.stop_schedule.specs.declared.stop.SeatKind.TheVariants.{Seat, Space}
use Rattle.stop_schedule.specs.declared.stop.Stop.{Stop}
use Rattle.stop_schedule.specs.declared.stop.StopKind.TheVariants.{Dropoff}
use Rattle.stop_schedule.specs.Keeping.{most_stops, is_seated, are_in_time, is_over_by, is_feasible}
use Rattle.stop_schedule.specs.Lists.{pickup_of, dropoff_of, with_both, with_legs, inserted_in, new_course, changed_ends}
use Rattle.stop_schedule.specs.Plans.{Plan, Course, course_of}
use Rattle.stop_schedule.specs.Rates.{Rates}
use Rattle.stop_schedule.specs.Times.{departs, arrives, promised_time}
use Rattle.stop_schedule.specs.Distances.{AreDistances, AreLeastWalks}
use Rattle.board_core.proofs.NewLegs.{chained_new, lengths_unique, with_legs-map}
use Rattle.board_core.proofs.StopCounts.{IsNew, once_up, once_down}
use Rattle.board_core.proofs.Kept.{IsKept, seated_at, in_time_at, over_at}
use Rattle.board_core.proofs.NewStops.{past_both, length_both, both_other, IsOneOf, both_cases, both_dropped}
use Rattle.board_core.proofs.SoundPlans.{IsSound}
use Rattle.board_core.proofs.Alike.{IsLike, departs_alike, promised_alike, aboard_alike, length_alike, with_both_alike}

-- the parts of a feasible insertion
pub record Fits (rates : Rates) (p : Plan) (at : Insertion) (c : Course) : Type 0 where
  pub ordered : at.i ≤ at.j
  pub within : at.j ≤ length p.stops
  pub few : length c.stops ≤ most_stops
  pub seated : is_seated p.seats p.spaces c.stops ≡ true
  pub in_time : are_in_time rates.stop c ≡ true
  pub over : is_over_by rates.stop c p.until ≡ true

-- a feasible insertion has them
pub fits : (rates : Rates) (p : Plan) (front : Front) (r : Request) (at : Insertion) (lengths : List ℕ) → is_feasible rates p front r at lengths ≡ true
    → Fits rates p at (new_course p front r at lengths)
fits rates p front r at lengths h = let a = and_parts _ _ h in let e = and_parts _ _ a.0 in let b = and_parts _ _ a.1 in let c = and_parts _ _ b.0 in let d = and_parts _ _ c.0 in
    record { ordered = leb-true _ _ e.0; within = leb-true _ _ e.1; few = leb-true _ _ d.0; seated = d.1; in_time = c.1; over = b.1 }

-- the new schedule keeps the promises
pub new_kept : (rates : Rates) (p q : Plan) (r : Request) (at : Insertion) (promise : Promise) (c : Course) → Fits rates p at c → IsLike (course_of q) c → q.seats ≡ p.seats → q.spaces ≡ p.spaces → q.until ≡ p.until
    → q.stops ≡ with_both p.stops at (pickup_of r promise) (dropoff_of r promise) → ((m : ℕ) (s : Stop) → slice_get p.stops m ≡ Some s → slice_get c.stops (past_both at m) ≡ Some s)
    → departs rates.stop c (at.i + 1) ≤ promise.pickup → arrives rates.stop c (at.j + 2) ≤ promise.arrival → IsKept rates q
new_kept rates p q r at promise c f like seats spaces until stops older leave arrive = record {
  few = (let m = many_of in let a = f.few in omega arith);
  seated = λ i l. (let m = many_of in let a = seated_at p.seats p.spaces c.stops f.seated i (omega arith) in
      (let e = aboard_alike Seat q.stops c.stops i like.stops in let b = a.0 in omega arith, let e = aboard_alike Space q.stops c.stops i like.stops in let b = a.1 in omega arith));
  in_time = λ k s e. on k s (both_cases p.stops at (pickup_of r promise) (dropoff_of r promise) f.ordered f.within k s (subst (λ (xs : List Stop). slice_get xs k ≡ Some s) stops e));
  over = λ l. (let m = many_of in let o = over_at rates.stop c p.until f.over (omega arith) in let d = departs_alike rates.stop (course_of q) c like (length q.stops) in
      let t : departs rates.stop c (length q.stops) ≡ departs rates.stop c (length c.stops) = ap (departs rates.stop c) m in omega arith);
}
  where
    many : length q.stops ≡ length p.stops + 2
    many = ap length stops ∙ length_both p.stops at (pickup_of r promise) (dropoff_of r promise) f.ordered f.within

    many_of : length q.stops ≡ length c.stops
    many_of = length_alike q.stops c.stops like.stops

    on : (k : ℕ) (s : Stop) → IsOneOf p.stops at (pickup_of r promise) (dropoff_of r promise) k s → promised_time rates.stop (course_of q) (suc k) s.kind ≤ s.limit
    on k s (inl x) = subst (λ (t : Stop). promised_time rates.stop (course_of q) (suc k) t.kind ≤ t.limit) (sym x.1)
        (let d = departs_alike rates.stop (course_of q) c like (suc k) in let e : suc k ≡ at.i + 1 = (let y = x.0 in omega arith) in
        let t : departs rates.stop c (suc k) ≡ departs rates.stop c (at.i + 1) = ap (departs rates.stop c) e in omega arith)
    on k s (inr (inl x)) = subst (λ (t : Stop). promised_time rates.stop (course_of q) (suc k) t.kind ≤ t.limit) (sym x.1)
        (let d : arrives rates.stop (course_of q) (suc k) ≡ arrives rates.stop c (suc k) = promised_alike rates.stop (course_of q) c like k Dropoff in
        let e : suc k ≡ at.j + 2 = (let y = x.0 in omega arith) in let t : arrives rates.stop c (suc k) ≡ arrives rates.stop c (at.j + 2) = ap (arrives rates.stop c) e in omega arith)
    on k s (inr (inr x)) = let t = promised_alike rates.stop (course_of q) c like k s.kind in
        let i = in_time_at rates.stop c f.in_time k s (subst (λ (n : ℕ). slice_get c.stops n ≡ Some s) (sym x.2) (older x.0 s x.1)) in omega arith

-- A feasible insertion of a new number, over least walks of the changed legs and with a promise that isn't before the planned times,
-- leaves a schedule sound.
pub new_sound : (g : Roads) (rates : Rates) (p : Plan) (front : Front) (r : Request) (at : Insertion) (promise : Promise) (lengths : List ℕ) (walks : List Path)
    → IsSound g rates p → IsNew p.stops r.no
    → is_feasible rates p front r at lengths ≡ true → AreDistances g (changed_ends p.stops front r at) lengths → AreLeastWalks g (changed_ends p.stops front r at) walks
    → departs rates.stop (new_course p front r at lengths) (at.i + 1) ≤ promise.pickup → arrives rates.stop (new_course p front r at lengths) (at.j + 2) ≤ promise.arrival
    → IsSound g rates (inserted_in p front r at promise walks)
new_sound g rates p front r at promise lengths walks s new feasible far near leave arrive = let f = fits rates p front r at lengths feasible in record {
  picked_up_once = λ number. once_up p.stops at (pickup_of r promise) (dropoff_of r promise) number f.ordered f.within refl new (s.picked_up_once number);
  dropped_off_once = λ number. once_down p.stops at (pickup_of r promise) (dropoff_of r promise) number f.ordered f.within refl new (s.dropped_off_once number);
  dropped_off_later = both_dropped p.stops at (pickup_of r promise) (dropoff_of r promise) f.ordered f.within refl refl refl refl s.dropped_off_later;
  chained = chained_new g p front r at promise walks s.chained f.ordered f.within near;
  kept = new_kept rates p (inserted_in p front r at promise walks) r at promise (new_course p front r at lengths) f like refl refl refl refl
      (λ m t e. both_other p.stops at _ _ f.ordered f.within m t e) leave arrive;
}
  where
    like : IsLike (course_of (inserted_in p front r at promise walks)) (new_course p front r at lengths)
    like = record {
      halt = refl;
      departure = refl;
      lengths = with_legs-map p.legs walks at ∙ ap (with_legs (map length_of p.legs) at) (sym (lengths_unique g (changed_ends p.stops front r at) lengths walks far near));
      stops = with_both_alike p.stops at (pickup_of r promise) (dropoff_of r promise) _ _ refl refl;
    }
