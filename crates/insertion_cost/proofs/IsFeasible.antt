use Rattle.std.proofs.Common.{◌<◌, ◌≡◌, ℕ, zero, suc, ◌+◌, ◌≤◌, true, ◌&&◌, nat_le, List, length, Some, arith, ap}
use Rattle.std.proofs.lemmas.Bool.{and_parts, leb-true}
use Rattle.std.proofs.lemmas.Option.{cond_some}
use Rattle.stop_schedule.specs.declared.request.Request.{Request}
use Rattle.stop_schedule.specs.declared.stop.Front.{Front}
use Rattle.stop_schedule.specs.declared.stop.Insertion.{Insertion}
use Rattle.stop_schedule.specs.Keeping.{is_feasible, is_seated, are_in_time, is_over_by, keeps_along, most_stops}
use Rattle.stop_schedule.specs.Lists.{new_course, pickup_of, dropoff_of, unpromised}
use Rattle.stop_schedule.specs.Plans.{Plan, Course}
use Rattle.stop_schedule.specs.Rates.{Rates}
use Rattle.stop_schedule.specs.Times.{departs, arrives, promised_time}
use Rattle.stop_schedule.specs.declared.stop.StopKind.{StopKind}
use Rattle.stop_schedule.specs.declared.stop.StopKind.TheVariants.{Pickup, Dropoff}
use Rattle.insertion_cost.specs.Prices.{Price, priced, price_of}
use Rattle.stop_schedule.proofs.ListLaws.{length-with_both}
use Rattle.insertion_cost.proofs.DriveAlong.{places, departs_rises}
use Rattle.stop_schedule.proofs.TimeLaws.{is_kept-IsKept}
use Rattle.stop_schedule.proofs.TimeLaws.{kept_of_keeps}

-- what is priced is feasible, and has this price
pub priced_parts : (rates : Rates) (p : Plan) (front : Front) (r : Request) (at : Insertion) (direct : ℕ) (lengths : List ℕ) (price : Price) → priced rates p front r at direct lengths ≡ Some price
    → (is_feasible rates p front r at lengths ≡ true) × (price_of rates p front r at direct (new_course p front r at lengths) ≡ price)
priced_parts rates p front r at direct lengths price h = cond_some (is_feasible rates p front r at lengths) _ price h

-- a feasible insertion has its places in the list, and leaves room for two stops
pub feasible_places : (rates : Rates) (p : Plan) (front : Front) (r : Request) (at : Insertion) (lengths : List ℕ) → is_feasible rates p front r at lengths ≡ true
    → (at.i ≤ at.j) × (at.j ≤ length p.stops) × (length p.stops + 2 ≤ most_stops)
feasible_places rates p front r at lengths h =
    let c = new_course p front r at lengths in
    let all = and_parts (places p at) (keeps_along rates.stop p c) h in
    let over = and_parts (nat_le (length c.stops) most_stops && is_seated p.seats p.spaces c.stops && are_in_time rates.stop c) (is_over_by rates.stop c p.until) all.1 in
    let in_time = and_parts (nat_le (length c.stops) most_stops && is_seated p.seats p.spaces c.stops) (are_in_time rates.stop c) over.0 in
    let room = and_parts (nat_le (length c.stops) most_stops) (is_seated p.seats p.spaces c.stops) in_time.0 in
    let few = leb-true (length c.stops) most_stops room.0 in
    let order = and_parts (nat_le at.i at.j) (nat_le at.j (length p.stops)) all.0 in
    let low = leb-true at.i at.j order.0 in
    let high = leb-true at.j (length p.stops) order.1 in
    let stops = length-with_both p.stops at (pickup_of r (unpromised p.until)) (dropoff_of r (unpromised p.until)) low high in
    (low, high, omega (arith, few, stops))

-- and its last stop is left in service
pub feasible_service : (rates : Rates) (p : Plan) (front : Front) (r : Request) (at : Insertion) (lengths : List ℕ) → let c = new_course p front r at lengths in
    is_feasible rates p front r at lengths ≡ true → (length c.stops ≡ length p.stops + 2) × (departs rates.stop c (length c.stops) ≤ p.until)
feasible_service rates p front r at lengths h =
    let c = new_course p front r at lengths in
    let fit = feasible_places rates p front r at lengths h in
    let stops = length-with_both p.stops at (pickup_of r (unpromised p.until)) (dropoff_of r (unpromised p.until)) fit.0 fit.1 in
    let all = and_parts (places p at) (keeps_along rates.stop p c) h in
    let kept = is_kept-IsKept rates.stop p.until c (kept_of_keeps rates.stop p c all.1 (omega (arith, stops))) in
    (stops, kept.over)

-- a stop is reached no later than it is left
arrives_first : (stop : ℕ) (c : Course) (i : ℕ) → arrives stop c i ≤ departs stop c i
arrives_first stop c zero = omega arith
arrives_first stop c (suc i) = omega arith

-- the pickup of a priced insertion is left, and its dropoff reached, in service
pub priced_times : (rates : Rates) (p : Plan) (front : Front) (r : Request) (at : Insertion) (direct : ℕ) (lengths : List ℕ) (price : Price) → priced rates p front r at direct lengths ≡ Some price
    → (price.leave ≤ p.until) × (price.arrive ≤ p.until)
priced_times rates p front r at direct lengths price h =
    let c = new_course p front r at lengths in
    let parts = priced_parts rates p front r at direct lengths price h in
    let places = feasible_places rates p front r at lengths parts.0 in
    let service = feasible_service rates p front r at lengths parts.0 in
    let leave = ap (λ (x : Price). x.leave) parts.1 in
    let arrive = ap (λ (x : Price). x.arrive) parts.1 in
    let left = departs_rises rates.stop c (at.i + 1) (length c.stops) (omega (arith, places, service.0)) in
    let reached = departs_rises rates.stop c (at.j + 2) (length c.stops) (omega (arith, places, service.0)) in
    let sooner = arrives_first rates.stop c (at.j + 2) in
    (omega (arith, leave, left, service.1), omega (arith, arrive, reached, sooner, service.1))

-- The end of service is no limit to a stop of a list that is over by then: a new stop's limit says nothing more.
pub unpromised_kept : (stop : ℕ) (c : Course) (until k : ℕ) (kind : StopKind) → k < length c.stops → departs stop c (length c.stops) ≤ until → promised_time stop c (suc k) kind ≤ until
unpromised_kept stop c until k Pickup l h = let rises = departs_rises stop c (suc k) (length c.stops) (omega arith) in omega arith
unpromised_kept stop c until k Dropoff l h = let rises = departs_rises stop c (suc k) (length c.stops) (omega arith) in let first = arrives_first stop c (suc k) in omega arith
