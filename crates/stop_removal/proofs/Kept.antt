use Rattle.std.proofs.Common.{◌≡◌, ℕ, ◌+◌, ◌<◌, ◌≤◌, ◌==◌, ◌&&◌, nat_le, Bool, true, cond, List, length, Some, None, sym, ap, ◌∙◌, arith, subst}
use Rattle.std.specs.Prelude.{slice_index}
use Rattle.std.specs.List.{insert}
use Rattle.std.proofs.lemmas.Bool.{and_parts, and_from, or_right, leb-true, le-leb}
use Rattle.std.proofs.lemmas.List.{length-map}
use Rattle.ride_base.specs.declared.numbers.RequestNo.{RequestNo}
use Rattle.road_graph.specs.declared.road.NodeNo.{NodeNo}
use Rattle.road_graph.specs.Paths.{Path, length_of}
use Rattle.stop_schedule.specs.declared.stop.Stop.{Stop}
use Rattle.stop_schedule.specs.Keeping.{most_stops, is_seated, are_in_time, is_over_by, keeps, IsProper, picks_up, drops_off}
use Rattle.stop_schedule.specs.Plans.{Plan, course_of, halting}
use Rattle.stop_schedule.specs.Rates.{Rates}
use Rattle.stop_schedule.specs.Times.{departs}
use Rattle.stop_schedule.proofs.TimeLaws.{Holds}
use Rattle.stop_schedule.proofs.ListLaws.{StartsAt, length-put}
use Rattle.stop_schedule.proofs.TimeLaws.{kept_of_keeps}
use Rattle.stop_schedule.proofs.TimeLaws.{course, is_kept-holds}
use Rattle.stop_schedule.proofs.TimeLaws.{past}
use Rattle.stop_schedule.proofs.ListLaws.{split}
use Rattle.stop_schedule.proofs.TimeLaws.{removal_holds, none_later, IsNoLater}
use Rattle.stop_removal.proofs.Proper.{as_many, pickup_is, dropoff_is}
use Rattle.stop_removal.proofs.Seats.{still_seated}
use Rattle.stop_removal.proofs.Ways.{ways}

-- A schedule with both stops of a number, and what is left of it without them: another start, and joined legs that are no longer than
-- the ways by those stops.
pub record IsLeft (rates : Rates) (p : Plan) (number : RequestNo) (place : NodeNo) (departure : ℕ) (halt : Bool) (left : List Stop) (legs : List Path) (i j : ℕ) (pickup dropoff : Stop) (x y u v : ℕ) : Type 0 where
  pub order : i ≤ j
  pub within : j ≤ length left
  pub stops_are : p.stops ≡ insert (insert left j dropoff) i pickup
  pub ways_are : ways p.legs ≡ split i x y (split j u v (ways legs))
  pub many : length legs ≡ length left
  pub up : picks_up number pickup ≡ true
  pub down : drops_off number dropoff ≡ true
  pub start : StartsAt rates.stop i pickup.node (cond halt (Some place) None) (halting p) departure p.departure
  pub near : departure + slice_index (split j u v (ways legs)) i ≤ p.departure + x + y
  pub far : j < length left → slice_index (ways legs) j ≤ u + v

module _ (rates : Rates) (p : Plan) (number : RequestNo) (place : NodeNo) (departure : ℕ) (halt : Bool) (left : List Stop) (legs : List Path) (i j : ℕ) (pickup dropoff : Stop) (x y u v : ℕ)
    (is : IsLeft rates p number place departure halt left legs i j pickup dropoff x y u v)
  where
    abbrev pub new : Plan
    new = record p { place = place; departure = departure; halt = halt; stops = left; legs = legs }

    abbrev old : List Stop
    old = insert (insert left j dropoff) i pickup

    abbrev old_ways : List ℕ
    old_ways = split i x y (split j u v (ways legs))

    inner : length (insert left j dropoff) ≡ length left + 1
    inner = length-put j dropoff left is.within

    long : length p.stops ≡ length left + 2
    long = ap length is.stops_are ∙ length-put i pickup (insert left j dropoff) (let o = is.order in let l = is.within in omega (arith, inner)) ∙ omega (arith, inner)

    many_ways : length (ways legs) ≡ length left
    many_ways = length-map legs length_of ∙ is.many

    near_inside : 0 < i → slice_index (split j u v (ways legs)) i ≤ x + y
    near_inside l = let n = is.near in let same : departure ≡ p.departure = is.start.leaves l in omega arith

    near_first : i ≡ 0 → departure + slice_index (split j u v (ways legs)) 0 ≤ p.departure + x + y
    near_first e = subst (λ (k : ℕ). departure + slice_index (split j u v (ways legs)) k ≤ p.departure + x + y) e is.near

    -- what the old schedule keeps the new one keeps
    pub still_keeps : IsProper p → length p.legs ≡ length p.stops → keeps rates p ≡ true → keeps rates new ≡ true
    still_keeps proper many h =
        and_from _ (is_over_by rates.stop (course_of new) p.until)
        (and_from _ (are_in_time rates.stop (course_of new))
        (and_from (nat_le (length left) most_stops) (is_seated p.seats p.spaces left) few seated)
        kept_parts.0)
        (or_right (length left == 0) (nat_le (departs rates.stop (course_of new) (length left)) p.until) kept_parts.1)
      where
        over : (nat_le (length p.stops) most_stops && is_seated p.seats p.spaces p.stops && are_in_time rates.stop (course_of p) ≡ true) × (is_over_by rates.stop (course_of p) p.until ≡ true)
        over = and_parts (nat_le (length p.stops) most_stops && is_seated p.seats p.spaces p.stops && are_in_time rates.stop (course_of p)) (is_over_by rates.stop (course_of p) p.until) h

        timely : (nat_le (length p.stops) most_stops && is_seated p.seats p.spaces p.stops ≡ true) × (are_in_time rates.stop (course_of p) ≡ true)
        timely = and_parts (nat_le (length p.stops) most_stops && is_seated p.seats p.spaces p.stops) (are_in_time rates.stop (course_of p)) over.0

        room : (nat_le (length p.stops) most_stops ≡ true) × (is_seated p.seats p.spaces p.stops ≡ true)
        room = and_parts (nat_le (length p.stops) most_stops) (is_seated p.seats p.spaces p.stops) timely.0

        few : nat_le (length left) most_stops ≡ true
        few = let l = leb-true (length p.stops) most_stops room.0 in le-leb (length left) most_stops (omega (arith, long))

        same : (dropoff.riders ≡ pickup.riders) × (dropoff.spaces ≡ pickup.spaces)
        same = as_many number i j pickup dropoff left is.order is.within is.up is.down (rw is.stops_are at proper.dropped_off_later) (rw is.stops_are at proper.dropped_off_once number)

        seated : is_seated p.seats p.spaces left ≡ true
        seated = still_seated i j pickup dropoff left is.order is.within (pickup_is number pickup is.up).0 (dropoff_is number dropoff is.down).0 same.0 same.1 p.seats p.spaces
            (subst (λ (stops : List Stop). is_seated p.seats p.spaces stops ≡ true) is.stops_are room.1)

        old_holds : Holds rates.stop p.until (halting p) p.departure p.stops (ways p.legs)
        old_holds = (is_kept-holds rates.stop p.until (course_of p) (length-map p.legs length_of ∙ many)).0 (kept_of_keeps rates.stop p (course_of p) h (omega (arith, long)))

        put_holds : Holds rates.stop p.until (halting p) p.departure old old_ways
        put_holds = subst (λ (stops : List Stop). Holds rates.stop p.until (halting p) p.departure stops old_ways) is.stops_are
            (subst (λ (lengths : List ℕ). Holds rates.stop p.until (halting p) p.departure p.stops lengths) is.ways_are old_holds)

        new_holds : Holds rates.stop p.until (halting new) departure left (ways legs)
        new_holds = removal_holds rates.stop p.until i j (halting new) (halting p) departure p.departure x y u v pickup dropoff left (ways legs) many_ways is.order is.within is.start near_inside near_first is.far put_holds

        kept_parts : (are_in_time rates.stop (course_of new) ≡ true) × (nat_le (departs rates.stop (course_of new) (length left)) p.until ≡ true)
        kept_parts = and_parts (are_in_time rates.stop (course_of new)) (nat_le (departs rates.stop (course_of new) (length left)) p.until) ((is_kept-holds rates.stop p.until (course_of new) many_ways).1 new_holds)

    -- and no stop that stays is reached or left later
    pub still_in_time : (k : ℕ) → k < length left → IsNoLater rates.stop (course_of new) (course_of p) k (past i (past j k))
    still_in_time k l =
        subst (λ (stops : List Stop). IsNoLater rates.stop (course_of new) (course (halting p) p.departure stops (ways p.legs)) k (past i (past j k))) (sym is.stops_are)
        (subst (λ (lengths : List ℕ). IsNoLater rates.stop (course_of new) (course (halting p) p.departure old lengths) k (past i (past j k))) (sym is.ways_are)
        (none_later rates.stop i j (halting new) (halting p) departure p.departure x y u v pickup dropoff left (ways legs) many_ways is.order is.within is.start near_inside near_first is.far k l))
