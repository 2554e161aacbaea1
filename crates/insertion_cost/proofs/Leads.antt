use Rattle.std.proofs.Common.{◌≡◌, ℕ, zero, suc, ◌+◌, ◌-◌, ◌<◌, ◌≤◌, ◌^◌, ◌==◌, ◌↔◌, ◌&&◌, nat_le, true, List, [], ◌∷◌, ◌++◌, take, drop, map, length, slice_get, Some, refl, sym, ap, ◌∙◌, subst, arith, add-one, length-append, length-take, length-drop}
use Rattle.std.specs.List.{insert}
use Rattle.std.proofs.lemmas.Bool.{and_parts, and_from, le-leb, or_right, ne_eqb}
use Rattle.std.proofs.lemmas.List.{length-map}
use Rattle.road_graph.specs.Paths.{length_of}
use Rattle.stop_schedule.specs.declared.request.Request.{Request}
use Rattle.stop_schedule.specs.declared.stop.Front.{Front}
use Rattle.stop_schedule.specs.declared.stop.Insertion.{Insertion}
use Rattle.stop_schedule.specs.declared.stop.Stop.{Stop}
use Rattle.stop_schedule.specs.declared.stop.StopKind.TheVariants.{Dropoff}
use Rattle.stop_schedule.specs.Bounds.{IsBounded}
use Rattle.stop_schedule.specs.Keeping.{is_feasible, is_seated, are_in_time, is_over_by, keeps, keeps_along, most_stops}
use Rattle.stop_schedule.specs.Lists.{new_course, old_course, pickup_of, dropoff_of, unpromised, with_legs, pair}
use Rattle.stop_schedule.specs.Plans.{Plan, Course, course_of, halt_at}
use Rattle.stop_schedule.specs.Rates.{Rates}
use Rattle.stop_schedule.specs.Times.{departs, arrives, kept_time}
use Rattle.stop_schedule.proofs.ListLaws.{length-with_both, drop_from}
use Rattle.stop_schedule.proofs.TimeLaws.{Holds, course, kept_of_keeps, is_kept-holds, holds_behind, promised_shift}
use Rattle.insertion_cost.specs.declared.on_the_way.OnTheWay.{OnTheWay}
use Rattle.insertion_cost.specs.Behind.{busy_along, busy_behind}
use Rattle.insertion_cost.specs.OnWays.{past_stop, out_of, by_way, changed, HasRoom, HasRoomTo, onward, Leads, starting}
use Rattle.insertion_cost.specs.Prices.{busy_time, detour}
use Rattle.insertion_cost.proofs.DriveAlong.{places}
use Rattle.insertion_cost.proofs.NewCourse.{stops_are, lengths_are, holds_past, busy_past, departs_past, arrives_past, busy_is, holds_left}
use Rattle.insertion_cost.proofs.Seats.{Seated, is_seated-Seated, seats_past}

-- An insertion is feasible exactly where its list has seats and spaces and holds from where it starts.
feasible_is : (rates : Rates) (p : Plan) (front : Front) (r : Request) (at : Insertion) (lengths : List ℕ) → at.i ≤ at.j → at.j ≤ length p.stops → length p.stops + 2 ≤ most_stops → let c = new_course p front r at lengths in
    length c.lengths ≡ length c.stops → is_feasible rates p front r at lengths ≡ true ↔ (Seated p.seats p.spaces c.stops × Holds rates.stop p.until c.halt c.departure c.stops c.lengths)
feasible_is rates p front r at lengths order within few many =
    let c = new_course p front r at lengths in
    let stops = length-with_both p.stops at (pickup_of r (unpromised p.until)) (dropoff_of r (unpromised p.until)) order within in
    let fits = nat_le (length c.stops) most_stops in
    let seated = is_seated p.seats p.spaces c.stops in
    let in_time = are_in_time rates.stop c in
    let over = is_over_by rates.stop c p.until in (
      λ h.
          let all = and_parts (places p at) (keeps_along rates.stop p c) h in
          let one = and_parts (fits && seated && in_time) over all.1 in
          let two = and_parts (fits && seated) in_time one.0 in
          let three = and_parts fits seated two.0 in
          ((is_seated-Seated p.seats p.spaces c.stops).0 three.1, (is_kept-holds rates.stop p.until c many).0 (kept_of_keeps rates.stop p c all.1 (omega (arith, stops)))),
      λ h.
          let kept = and_parts in_time (nat_le (departs rates.stop c (length c.stops)) p.until) ((is_kept-holds rates.stop p.until c many).1 h.1) in
          and_from (places p at) (keeps_along rates.stop p c) (and_from (nat_le at.i at.j) (nat_le at.j (length p.stops)) (le-leb at.i at.j order) (le-leb at.j (length p.stops) within))
          (and_from (fits && seated && in_time) over (and_from (fits && seated) in_time (and_from fits seated (le-leb (length c.stops) most_stops (omega (arith, stops))) ((is_seated-Seated p.seats p.spaces c.stops).1 h.0)) kept.0)
          (or_right (length c.stops == 0) (nat_le (departs rates.stop c (length c.stops)) p.until) kept.1)),
    )

-- behind its first stop a list goes on from the place
pub started_behind : (p : Plan) (front : Front) (i k : ℕ) → 0 < i → old_course p front (pair i k) ≡ course_of p
started_behind p front zero k l = absurd (omega arith)
started_behind p front (suc i) k l = rw (ne_eqb (suc i) 0 (λ e. omega arith)) refl

length-by_way : (n u v : ℕ) (zs : List ℕ) → n ≤ length zs → length (by_way n u v zs) ≡ length zs + 1
length-by_way zero u v [] l = refl
length-by_way zero u v (z ∷ zs) l = omega arith
length-by_way (suc n) u v [] l = absurd (omega arith)
length-by_way (suc n) u v (z ∷ zs) l = let more = length-by_way n u v zs (omega arith) in omega arith

length-out_of : (v : ℕ) (zs : List ℕ) → length (out_of v zs) ≡ length zs
length-out_of v [] = refl
length-out_of v (z ∷ zs) = omega arith

module _ (rates : Rates) (p : Plan) (front : Front) (r : Request) (i x y : ℕ) (kept : keeps rates p ≡ true) (many : length p.legs ≡ length p.stops) (few : length p.stops + 2 ≤ most_stops) (within : i ≤ length p.stops) where
  abbrev ways : List ℕ
  ways = map length_of p.legs

  abbrev dropoff : Stop
  dropoff = dropoff_of r (unpromised p.until)

  abbrev pickup : Stop
  pickup = pickup_of r (unpromised p.until)

  abbrev old : Course
  old = old_course p front (pair i i)

  abbrev taken : OnTheWay
  taken = past_stop rates.stop (starting rates p front i) x r.pickup r.moment

  ways_many : length ways ≡ length p.stops
  ways_many = length-map p.legs length_of ∙ many

  old_holds : 0 < i → Holds rates.stop p.until old.halt old.departure p.stops ways
  old_holds l = subst (λ (c : Course). Holds rates.stop p.until c.halt c.departure p.stops ways) (sym (started_behind p front i i l))
      ((is_kept-holds rates.stop p.until (course_of p) ways_many).0 (kept_of_keeps rates.stop p (course_of p) kept (omega arith)))

  old_seated : Seated p.seats p.spaces p.stops
  old_seated =
      let fits = nat_le (length p.stops) most_stops in
      let seated = is_seated p.seats p.spaces p.stops in
      let one = and_parts (fits && seated && are_in_time rates.stop (course_of p)) (is_over_by rates.stop (course_of p) p.until) kept in
      let two = and_parts (fits && seated) (are_in_time rates.stop (course_of p)) one.0 in
      (is_seated-Seated p.seats p.spaces p.stops).0 (and_parts fits seated two.0).1

  module _ (n k u v : ℕ) (far : k ≡ i + n) (inside : k ≤ length p.stops) where
    abbrev at : Insertion
    at = pair i k

    abbrev new : Course
    new = new_course p front r at (changed i k (length p.stops) x y u v)

    abbrev stops_on : List Stop
    stops_on = insert (drop i p.stops) n dropoff

    abbrev ways_on : List ℕ
    ways_on = by_way n u v (out_of y (drop i ways))

    new_stops : new.stops ≡ take i p.stops ++ pickup ∷ stops_on
    new_stops = stops_are p.stops at n pickup dropoff far

    new_ways : new.lengths ≡ take i ways ++ x ∷ ways_on
    new_ways = ap (λ (m : ℕ). with_legs ways at (changed i k m x y u v)) (sym ways_many) ∙ lengths_are ways at n x y u v far (omega (arith, ways_many))

    new_many : length new.lengths ≡ length new.stops
    new_many =
        let lengths = ap length new_ways in
        let parts = length-append (take i ways) (x ∷ ways_on) in
        let before = length-take i ways in
        let rest = length-drop i ways in
        let out = length-out_of y (drop i ways) in
        let behind = length-by_way n u v (out_of y (drop i ways)) (omega (arith, out, rest, ways_many)) in
        let stops = length-with_both p.stops at pickup dropoff (omega arith) inside in
        omega (arith, lengths, parts, before, rest, out, behind, stops, ways_many)

    -- the pair is feasible exactly where there is room, the pickup is left in service, and the way on holds
    pub first_is : is_feasible rates p front r at (changed i k (length p.stops) x y u v) ≡ true
        ↔ (HasRoomTo p r n (drop i p.stops) × (taken.departure ≤ p.until) × Holds rates.stop p.until taken.halt taken.departure stops_on ways_on)
    first_is =
        let is = feasible_is rates p front r at (changed i k (length p.stops) x y u v) (omega arith) inside few new_many in
        let seats = seats_past p r (unpromised p.until) i n p.stops within (omega (arith, length-drop i p.stops)) old_seated in
        let past = holds_past rates.stop p.until i old.halt old.departure p.stops ways (pickup ∷ stops_on) (x ∷ ways_on) within old_holds in (
          λ h.
              let both = is.0 h in
              let on = past.0 (subst (λ (l : List Stop). Holds rates.stop p.until old.halt old.departure l (take i ways ++ x ∷ ways_on)) new_stops (subst (λ (l : List ℕ). Holds rates.stop p.until old.halt old.departure new.stops l) new_ways both.1)) in
              (seats.0 (subst (λ (l : List Stop). Seated p.seats p.spaces l) new_stops both.0), on.0, on.1),
          λ h. is.1 (
            subst (λ (l : List Stop). Seated p.seats p.spaces l) (sym new_stops) (seats.1 h.0),
            subst (λ (l : List ℕ). Holds rates.stop p.until old.halt old.departure new.stops l) (sym new_ways) (subst (λ (l : List Stop). Holds rates.stop p.until old.halt old.departure l (take i ways ++ x ∷ ways_on)) (sym new_stops) (past.1 (h.1, h.2))),
          ),
        )

    first_detour : detour rates p front at new ≡ taken.busy_time + busy_along rates.stop taken.halt stops_on ways_on - busy_behind rates.stop old i
    first_detour =
        let whole : busy_time rates.stop new ≡ busy_along rates.stop old.halt (take i p.stops ++ pickup ∷ stops_on) (take i ways ++ x ∷ ways_on) =
        busy_is rates.stop new.halt new.departure new.stops new.lengths new_many
        ∙ ap (λ (l : List Stop). busy_along rates.stop old.halt l new.lengths) new_stops
        ∙ ap (λ (l : List ℕ). busy_along rates.stop old.halt (take i p.stops ++ pickup ∷ stops_on) l) new_ways in
        let older : busy_time rates.stop (old_course p front at) ≡ busy_along rates.stop old.halt p.stops ways = busy_is rates.stop old.halt old.departure p.stops ways ways_many in
        let past = busy_past rates.stop i old.halt old.departure p.stops ways (pickup ∷ stops_on) (x ∷ ways_on) within ways_many in
        omega (arith, whole, older, past)

    first_leaves : departs rates.stop new (i + 1) ≡ taken.departure
    first_leaves =
        ap (λ (l : List Stop). departs rates.stop (course old.halt old.departure l new.lengths) (i + 1)) new_stops
        ∙ ap (λ (l : List ℕ). departs rates.stop (course old.halt old.departure (take i p.stops ++ pickup ∷ stops_on) l) (i + 1)) new_ways
        ∙ departs_past rates.stop i (i + 1) 1 old.halt old.departure p.stops ways (pickup ∷ stops_on) (x ∷ ways_on) refl within ways_many

    first_reaches : arrives rates.stop new (k + 2) ≡ arrives rates.stop (onward taken stops_on ways_on) (suc n)
    first_reaches =
        let next : k + 2 ≡ suc (k + 1) = omega arith in
        ap (arrives rates.stop new) next
        ∙ ap (λ (l : List Stop). arrives rates.stop (course old.halt old.departure l new.lengths) (suc (k + 1))) new_stops
        ∙ ap (λ (l : List ℕ). arrives rates.stop (course old.halt old.departure (take i p.stops ++ pickup ∷ stops_on) l) (suc (k + 1))) new_ways
        ∙ arrives_past rates.stop i (k + 1) (suc n) old.halt old.departure p.stops ways (pickup ∷ stops_on) (x ∷ ways_on) (omega arith) within ways_many
        ∙ promised_shift rates.stop (halt_at old i) (departs rates.stop old i) x pickup stops_on ways_on n Dropoff

  -- behind the pickup
  pub leads_first : taken.departure ≤ p.until → Leads rates p front r i x y taken.departure (busy_behind rates.stop old i) i taken
  leads_first l = record {
    lengths = out_of y (drop i ways);
    first_of_them = λ e. refl;
    later_ones = λ m. absurd (omega arith);
    order = omega arith;
    feasible = λ n k u v far inside. let is = first_is n k u v far inside in (λ h. let q = is.0 h in (q.0, q.2), λ h. is.1 (h.0, l, h.1));
    detour_is = λ n k u v far inside. first_detour n k u v far inside;
    leaves = λ n k u v far inside. first_leaves n k u v far inside;
    reaches = λ n k u v far inside. first_reaches n k u v far inside;
  }

  pub left_late : p.until < taken.departure → (k u v : ℕ) → i ≤ k → k ≤ length p.stops → is_feasible rates p front r (pair i k) (changed i k (length p.stops) x y u v) ≡ true → ⊥
  left_late l k u v o inside h = let q = (first_is (k - i) k u v (omega arith) inside).0 h in let m = q.1 in omega arith

room_first : (p : Plan) (r : Request) (n : ℕ) (stops : List Stop) → HasRoomTo p r n stops → HasRoom p r stops
room_first p r zero stops h = h
room_first p r (suc n) stops h = h.0

module _ (rates : Rates) (p : Plan) (front : Front) (r : Request) (i x y leave before j : ℕ) (w : OnTheWay) (led : Leads rates p front r i x y leave before j w) where
  -- where there is no room, no pair from here on is feasible
  pub full : (HasRoom p r (drop j p.stops) → ⊥) → (k u v : ℕ) → j ≤ k → k ≤ length p.stops → is_feasible rates p front r (pair i k) (changed i k (length p.stops) x y u v) ≡ true → ⊥
  full none k u v o inside h = none (room_first p r (k - j) (drop j p.stops) ((led.feasible (k - j) k u v (omega arith) inside).0 h).0)

  module _ (z : ℕ) (s : Stop) (there : slice_get p.stops j ≡ Some s) (long : led.lengths ≡ z ∷ drop (suc j) (map length_of p.legs)) where
    abbrev onto : OnTheWay
    onto = past_stop rates.stop w z s.node s.ready

    abbrev last : Stop
    last = dropoff_of r (unpromised p.until)

    abbrev on : List Stop
    on = drop (suc j) p.stops

    abbrev ways_behind : List ℕ
    ways_behind = drop (suc j) (map length_of p.legs)

    stops_here : drop j p.stops ≡ s ∷ on
    stops_here = drop_from p.stops j s there

    next_is : (n k u v : ℕ) → k ≡ suc j + n → k ≤ length p.stops → is_feasible rates p front r (pair i k) (changed i k (length p.stops) x y u v) ≡ true
        ↔ (HasRoom p r (drop j p.stops) × HasRoomTo p r n on × (kept_time s.kind (w.departure + z) onto.departure ≤ s.limit) × Holds rates.stop p.until onto.halt onto.departure (insert on n last) (by_way n u v ways_behind))
    next_is n k u v far inside =
        let is = led.feasible (suc n) k u v (omega arith) inside in (
          λ h.
              let both = is.0 h in
              let room = subst (λ (l : List Stop). HasRoomTo p r (suc n) l) stops_here both.0 in
              let holds = subst (λ (l : List ℕ). Holds rates.stop p.until w.halt w.departure (insert (s ∷ on) (suc n) last) (by_way (suc n) u v l)) long (subst (λ (l : List Stop). Holds rates.stop p.until w.halt w.departure (insert l (suc n) last) (by_way (suc n) u v led.lengths)) stops_here both.1) in
              (both.0.0, room.1, holds.0, holds.1),
          λ h. is.1 (
            subst (λ (l : List Stop). HasRoomTo p r (suc n) l) (sym stops_here) (subst (λ (l : List Stop). HasRoom p r l) stops_here h.0, h.1),
            subst (λ (l : List Stop). Holds rates.stop p.until w.halt w.departure (insert l (suc n) last) (by_way (suc n) u v led.lengths)) (sym stops_here)
                (subst (λ (l : List ℕ). Holds rates.stop p.until w.halt w.departure (insert (s ∷ on) (suc n) last) (by_way (suc n) u v l)) (sym long) (h.2, h.3)),
          ),
        )

    -- where the next stop is kept, the way leads on
    pub leads_more : HasRoom p r (drop j p.stops) → kept_time s.kind (w.departure + z) onto.departure ≤ s.limit → Leads rates p front r i x y leave before (j + 1) onto
    leads_more room keeps_it = let o = led.order in subst (λ (m : ℕ). Leads rates p front r i x y leave before m onto) (sym (add-one j)) (record {
      lengths = ways_behind;
      first_of_them = λ e. absurd (omega arith);
      later_ones = λ m. refl;
      order = omega arith;
      feasible = λ n k u v far inside. let is = next_is n k u v far inside in (λ h. let q = is.0 h in (q.1, q.3), λ h. is.1 (room, h.0, keeps_it, h.1));
      detour_is = λ n k u v far inside. led.detour_is (suc n) k u v (omega arith) inside
          ∙ ap (λ (l : List Stop). w.busy_time + busy_along rates.stop w.halt (insert l (suc n) last) (by_way (suc n) u v led.lengths) - before) stops_here
          ∙ ap (λ (l : List ℕ). w.busy_time + busy_along rates.stop w.halt (insert (s ∷ on) (suc n) last) (by_way (suc n) u v l) - before) long
          ∙ omega arith;
      leaves = λ n k u v far inside. led.leaves (suc n) k u v (omega arith) inside;
      reaches = λ n k u v far inside. led.reaches (suc n) k u v (omega arith) inside
          ∙ ap (λ (l : List Stop). arrives rates.stop (onward w (insert l (suc n) last) (by_way (suc n) u v led.lengths)) (suc (suc n))) stops_here
          ∙ ap (λ (l : List ℕ). arrives rates.stop (onward w (insert (s ∷ on) (suc n) last) (by_way (suc n) u v l)) (suc (suc n))) long
          ∙ promised_shift rates.stop w.halt w.departure z s (insert on n last) (by_way n u v ways_behind) n Dropoff;
    })

    -- where it isn't, no pair behind it is feasible
    pub broken : (kept_time s.kind (w.departure + z) onto.departure ≤ s.limit → ⊥) → (k u v : ℕ) → suc j ≤ k → k ≤ length p.stops → is_feasible rates p front r (pair i k) (changed i k (length p.stops) x y u v) ≡ true → ⊥
    broken not k u v o inside h = not ((next_is (k - suc j) k u v (omega arith) inside).0 h).2

    pub overdue_there : p.until < onto.departure → (k u v : ℕ) → suc j ≤ k → k ≤ length p.stops → is_feasible rates p front r (pair i k) (changed i k (length p.stops) x y u v) ≡ true → ⊥
    overdue_there late k u v o inside h =
        let l = holds_left rates.stop p.until onto.halt onto.departure (insert on (k - suc j) last) (by_way (k - suc j) u v ways_behind) ((next_is (k - suc j) k u v (omega arith) inside).0 h).3 in
        omega arith

-- a schedule that keeps leaves each stop in service
pub kept_departs : (rates : Rates) (p : Plan) → keeps rates p ≡ true → length p.legs ≡ length p.stops → (i : ℕ) → 0 < i → i ≤ length p.stops → departs rates.stop (course_of p) i ≤ p.until
kept_departs rates p kept many i some within =
    let c = course_of p in
    let holds = (is_kept-holds rates.stop p.until c (length-map p.legs length_of ∙ many)).0 (kept_of_keeps rates.stop p c kept (omega arith)) in
    holds_left rates.stop p.until (halt_at c i) (departs rates.stop c i) (drop i p.stops) (drop i (map length_of p.legs)) (holds_behind rates.stop p.until c.halt c.departure c.stops c.lengths i holds within)

-- and soon
pub left_soon : (rates : Rates) (p : Plan) → keeps rates p ≡ true → IsBounded p → (i : ℕ) → i ≤ length p.stops → departs rates.stop (course_of p) i ≤ 2 ^ 41
left_soon rates p kept b zero within = let d = b.departure in omega arith
left_soon rates p kept b (suc i) within = let left = kept_departs rates p kept b.as_many_legs (suc i) (omega arith) within in let until = b.until in omega arith
