use Rattle.std.proofs.Common.{◌≡◌, ℕ, zero, suc, ◌+◌, ◌-◌, ◌<◌, ◌≤◌, ◌^◌, ◌==◌, List, [], ◌∷◌, ◌++◌, take, drop, length, Some, Bool, true, false, cond, sym, ap, ◌∙◌, arith, subst}
use Rattle.std.specs.Prelude.{slice_get}
use Rattle.std.proofs.lemmas.Option.{same_Some, none-some}
use Rattle.road_graph.specs.Paths.{Path, length_of}
use Rattle.stop_schedule.specs.declared.request.Request.{Request}
use Rattle.stop_schedule.specs.declared.stop.Front.{Front}
use Rattle.stop_schedule.specs.declared.stop.Insertion.{Insertion}
use Rattle.stop_schedule.specs.declared.stop.Promise.{Promise}
use Rattle.stop_schedule.specs.declared.stop.Stop.{Stop}
use Rattle.stop_schedule.specs.Bounds.{IsSmallStop, IsBounded, AreShortLegs}
use Rattle.stop_schedule.specs.Limits.{latest_moment, latest_front, end_of_time, most_stops, most_riders}
use Rattle.stop_schedule.specs.Lists.{with_both, with_legs, inserted_in, changed_ends, pickup_of, dropoff_of}
use Rattle.stop_schedule.specs.Plans.{Plan}
use Rattle.stop_schedule.proofs.Lists.{length-with_both, length-with_legs, length-changed_ends, changed_count}

module _ {X : Type 0} (P : X → Type 0) where
  -- each element of a list
  abbrev pub Each : List X → Type 0
  Each xs = (k : ℕ) (x : X) → slice_get xs k ≡ Some x → P x

  pub each_nil : Each []
  each_nil k x h = absurd (none-some x h)

  pub each_cons : (y : X) (xs : List X) → P y → Each xs → Each (y ∷ xs)
  each_cons y xs here all zero x h = subst P (same_Some y x h) here
  each_cons y xs here all (suc k) x h = all k x h

  pub each_append : (xs ys : List X) → Each xs → Each ys → Each (xs ++ ys)
  each_append [] ys all more k x h = more k x h
  each_append (y ∷ xs) ys all more zero x h = all zero x h
  each_append (y ∷ xs) ys all more (suc k) x h = each_append xs ys (λ l z e. all (suc l) z e) more k x h

  pub each_take : (n : ℕ) (xs : List X) → Each xs → Each (take n xs)
  each_take zero xs all k x h = absurd (none-some x h)
  each_take (suc n) [] all k x h = absurd (none-some x h)
  each_take (suc n) (y ∷ xs) all zero x h = all zero x h
  each_take (suc n) (y ∷ xs) all (suc k) x h = each_take n xs (λ l z e. all (suc l) z e) k x h

  pub each_drop : (n : ℕ) (xs : List X) → Each xs → Each (drop n xs)
  each_drop zero xs all k x h = all k x h
  each_drop (suc n) [] all k x h = absurd (none-some x h)
  each_drop (suc n) (y ∷ xs) all k x h = each_drop n xs (λ l z e. all (suc l) z e) k x h

  each_with_legs_if : (same : Bool) (xs changed : List X) (at : Insertion) → Each xs → Each changed
      → Each (cond same (take at.i xs ++ changed ++ drop (at.i + 1) xs) (take at.i xs ++ take 2 changed ++ take (at.j - at.i - 1) (drop (at.i + 1) xs) ++ drop 2 changed ++ drop (at.j + 1) xs))
  each_with_legs_if true xs changed at all new =
      each_append (take at.i xs ++ changed) (drop (at.i + 1) xs) (each_append (take at.i xs) changed (each_take at.i xs all) new) (each_drop (at.i + 1) xs all)
  each_with_legs_if false xs changed at all new =
      each_append _ (drop (at.j + 1) xs)
      (each_append _ (drop 2 changed)
      (each_append _ (take (at.j - at.i - 1) (drop (at.i + 1) xs))
      (each_append (take at.i xs) (take 2 changed) (each_take at.i xs all) (each_take 2 changed new))
      (each_take (at.j - at.i - 1) (drop (at.i + 1) xs) (each_drop (at.i + 1) xs all)))
      (each_drop 2 changed new))
      (each_drop (at.j + 1) xs all)

  -- what holds of each leg and each changed leg holds of each leg of the new list
  pub each_with_legs : (xs changed : List X) (at : Insertion) → Each xs → Each changed → Each (with_legs xs at changed)
  each_with_legs xs changed at all new = each_with_legs_if (at.i == at.j) xs changed at all new

-- what holds of each stop and both new ones holds of each stop of the new list
pub each_with_both : (P : Stop → Type 0) (stops : List Stop) (at : Insertion) (p d : Stop) → Each P stops → P p → P d → Each P (with_both stops at p d)
each_with_both P stops at p d all pickup dropoff =
    each_append P (take at.i stops ++ p ∷ take (at.j - at.i) (drop at.i stops)) (d ∷ drop at.j stops)
    (each_append P (take at.i stops) (p ∷ take (at.j - at.i) (drop at.i stops)) (each_take P at.i stops all) (each_cons P p _ pickup (each_take P (at.j - at.i) (drop at.i stops) (each_drop P at.i stops all))))
    (each_cons P d (drop at.j stops) dropoff (each_drop P at.j stops all))

-- the new schedule is bounded as the old one is
pub inserted_bounded : (p : Plan) (front : Front) (r : Request) (at : Insertion) (promise : Promise) (walks : List Path) → IsBounded p
    → length p.stops + 2 ≤ most_stops → at.i ≤ at.j → at.j ≤ length p.stops → length walks ≡ length (changed_ends p.stops front r at)
    → AreShortLegs walks → front.time ≤ latest_front → r.moment ≤ latest_moment → r.riders ≤ most_riders → r.spaces ≤ most_riders → promise.pickup < end_of_time → promise.arrival < end_of_time
    → IsBounded (inserted_in p front r at promise walks)
inserted_bounded p front r at promise walks old room order within many short time moment riders spaces pickup arrival = record {
  few = omega (arith, stops);
  as_many_legs = legs ∙ ap (λ (n : ℕ). n + 2) old.as_many_legs ∙ sym stops;
  departure = departed (at.i == 0);
  until = old.until;
  stops = each_with_both IsSmallStop p.stops at (pickup_of r promise) (dropoff_of r promise) old.stops (record { ready = moment; limit = pickup; riders = riders; spaces = spaces }) (record { ready = omega arith; limit = arrival; riders = riders; spaces = spaces });
  legs = each_with_legs (λ (w : Path). length_of w < 2 ^ 53) p.legs walks at old.legs short;
} where
  stops : length (with_both p.stops at (pickup_of r promise) (dropoff_of r promise)) ≡ length p.stops + 2
  stops = length-with_both p.stops at (pickup_of r promise) (dropoff_of r promise) order within

  legs : length (with_legs p.legs at walks) ≡ length p.legs + 2
  legs = length-with_legs p.legs walks at order (omega (arith, old.as_many_legs)) (many ∙ length-changed_ends p.stops front r at ∙ ap (λ (n : ℕ). changed_count n at) (sym old.as_many_legs))

  departed : (first : Bool) → cond first front.time p.departure ≤ latest_front
  departed true = time
  departed false = old.departure
