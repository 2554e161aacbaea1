use Rattle.std.proofs.Common.{◌≡◌, ℕ, suc, ◌+◌, ◌-◌, ◌*◌, ◌≤◌, ◌&&◌, nat_le, true, List, ◌∷◌, map, length, Some, refl, ap, arith, add-one}
use Rattle.std.proofs.lemmas.Bool.{and_parts, and_from}
use Rattle.std.proofs.lemmas.Option.{cond_some}
use Rattle.std.proofs.lemmas.List.Sums.{sum_by-cons}
use Rattle.std.proofs.Math.Nat.{mul-le-mul_left}
use Rattle.road_graph.specs.Paths.{length_of}
use Rattle.stop_schedule.specs.declared.request.Request.{Request}
use Rattle.stop_schedule.specs.declared.stop.Front.{Front}
use Rattle.stop_schedule.specs.declared.stop.Insertion.{Insertion}
use Rattle.stop_schedule.specs.declared.stop.Stop.{Stop}
use Rattle.stop_schedule.specs.Keeping.{keeps_along, is_feasible}
use Rattle.stop_schedule.specs.Lists.{with_both, with_legs, new_course, old_course, started, start_of, pickup_of, dropoff_of, unpromised}
use Rattle.stop_schedule.specs.Plans.{Plan, Course, halting}
use Rattle.stop_schedule.specs.Rates.{Rates, trip_limit}
use Rattle.stop_schedule.specs.Times.{departs, arrives, halt_time}
use Rattle.road_graph.specs.declared.road.NodeNo.{NodeNo}
use Rattle.stop_schedule.proofs.TimeLaws.{AreShorter}
use Rattle.stop_schedule.proofs.TimeLaws.{course}
use Rattle.stop_schedule.proofs.TimeLaws.{IsSooner, keeps_sooner, departs_sooner, stop_times_shorter, sum_shorter}
use Rattle.insertion_cost.specs.Prices.{Price, price_of, priced, busy_time, detour}

-- what is weighed grows with the time
pub weighs_more : (w a b m : ℕ) → a ≤ b → w * (a - m) ≤ w * (b - m)
weighs_more w a b m l = mul-le-mul_left w (omega arith)

-- The same insertion into the same stops, from two fronts and over two lists of lengths, of which the former is nowhere later.
module _ (rates : Rates) (p : Plan) (front front' : Front) (r : Request) (at : Insertion) (direct : ℕ) (lengths lengths' : List ℕ) (x y : ℕ) (zs zs' : List ℕ)
    (legs : with_legs (map length_of p.legs) at lengths ≡ x ∷ zs) (legs' : with_legs (map length_of p.legs) at lengths' ≡ y ∷ zs')
    (sooner : IsSooner rates.stop (halting (started at front p)) (halting (started at front' p)) (started at front p).departure (started at front' p).departure x y zs zs')
    (halts : (n : NodeNo) → halt_time rates.stop (halting (started at front p)) n ≤ halt_time rates.stop (halting (started at front' p)) n) (shorter : AreShorter zs zs') (driven : start_of at front.offset 0 + x ≤ start_of at front'.offset 0 + y)
    (old : busy_time rates.stop (old_course p front' at) ≤ busy_time rates.stop (old_course p front at))
  where
    abbrev stops : List Stop
    stops = with_both p.stops at (pickup_of r (unpromised p.until)) (dropoff_of r (unpromised p.until))

    abbrev former : Course
    former = course (halting (started at front p)) (started at front p).departure stops (x ∷ zs)

    abbrev latter : Course
    latter = course (halting (started at front' p)) (started at front' p).departure stops (y ∷ zs')

    is_former : new_course p front r at lengths ≡ former
    is_former = rw legs refl

    is_latter : new_course p front' r at lengths' ≡ latter
    is_latter = rw legs' refl

    feasible_too : is_feasible rates p front' r at lengths' ≡ true → is_feasible rates p front r at lengths ≡ true
    feasible_too h =
        let places = nat_le at.i at.j && nat_le at.j (length p.stops) in
        let both = and_parts places (keeps_along rates.stop p (new_course p front' r at lengths')) h in
        and_from places (keeps_along rates.stop p (new_course p front r at lengths)) both.0
        (rw is_former (keeps_sooner rates.stop (halting (started at front p)) (halting (started at front' p)) (started at front p).departure (started at front' p).departure x y stops zs zs' sooner p (rw is_latter at both.1)))

    cost_less : (price_of rates p front r at direct former).cost ≤ (price_of rates p front' r at direct latter).cost
    cost_less =
        let times = departs_sooner rates.stop (halting (started at front p)) (halting (started at front' p)) (started at front p).departure (started at front' p).departure x y stops zs zs' sooner in
        let stopping = stop_times_shorter rates.stop former latter refl (λ s e. halts s.node) (length stops) in
        let ways = sum_shorter zs zs' shorter in
        let a = sum_by-cons (λ (n : ℕ). n) x zs in
        let b = sum_by-cons (λ (n : ℕ). n) y zs' in
        let left : departs rates.stop former (at.i + 1) ≤ departs rates.stop latter (at.i + 1) = rw add-one (times at.i).1 in
        let e : at.j + 2 ≡ suc (suc at.j) = omega arith in
        let reached : arrives rates.stop former (at.j + 2) ≤ arrives rates.stop latter (at.j + 2) = rw e (times (suc at.j)).0 in
        let wait = weighs_more rates.wait_weight (departs rates.stop former (at.i + 1)) (departs rates.stop latter (at.i + 1)) (r.moment + rates.wait) left in
        let trip = weighs_more rates.trip_weight (arrives rates.stop former (at.j + 2)) (arrives rates.stop latter (at.j + 2)) (r.moment + trip_limit rates direct) reached in
        let more : detour rates p front at former ≤ detour rates p front' at latter = omega arith in
        omega (arith, more, wait, trip)

    -- then it is feasible too, and costs no more
    pub cheaper : (price' : Price) → priced rates p front' r at direct lengths' ≡ Some price' → (price : Price) × (priced rates p front r at direct lengths ≡ Some price) × (price.cost ≤ price'.cost)
    cheaper price' h =
        let parts = cond_some (is_feasible rates p front' r at lengths') _ price' h in
        let fits = feasible_too parts.0 in
        let ours = ap (λ (c : Course). (price_of rates p front r at direct c).cost) is_former in
        let theirs = ap (λ (c : Course). (price_of rates p front' r at direct c).cost) is_latter in
        let cost = ap (λ (q : Price). q.cost) parts.1 in
        (price_of rates p front r at direct (new_course p front r at lengths), rw fits refl, at_most _ _ _ _ _ ours cost_less theirs cost)
      where
        at_most : (a b c d e : ℕ) → a ≡ b → b ≤ c → d ≡ c → d ≡ e → a ≤ e
        at_most a b c d e f g h k = omega arith
