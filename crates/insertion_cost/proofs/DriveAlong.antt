use Rattle.std.proofs.Common.{◌≡◌, ℕ, zero, suc, ◌+◌, ◌-◌, ◌<◌, ◌≤◌, ◌^◌, max, Bool, true, false, cond, ◌==◌, ◌&&◌, nat_le, List, length, map, take, get_or, sum, slice_get, Option, Some, arith, refl, sym, ap, ◌∙◌, ⊎_elim, add-one}
use Rattle.std.proofs.lemmas.Bool.{and_left, and_right, and_from, or_from, or_right, le-leb, lt-leb, eq-eqb, ne_eqb, cases_lt, cases_eq, cond-true, cond-false, cond_both}
use Rattle.std.proofs.lemmas.List.{take_all, length-map}
use Rattle.std.proofs.lemmas.List.Sums.{sum_by_more}
use Rattle.std.proofs.lemmas.Option.{slice_get_within}
use Rattle.stop_schedule.specs.declared.request.Request.{Request}
use Rattle.stop_schedule.specs.declared.stop.Front.{Front}
use Rattle.stop_schedule.specs.declared.stop.Insertion.{Insertion}
use Rattle.stop_schedule.specs.declared.stop.SeatKind.TheVariants.{Seat, Space}
use Rattle.stop_schedule.specs.declared.stop.Stop.{Stop}
use Rattle.stop_schedule.specs.declared.stop.StopKind.{StopKind}
use Rattle.stop_schedule.specs.declared.stop.StopKind.TheVariants.{Pickup, Dropoff}
use Rattle.stop_schedule.specs.Keeping.{each_below, is_in_time, is_over_by, is_seated, are_in_time, is_feasible, keeps_along, most_stops}
use Rattle.stop_schedule.specs.Lists.{new_course, pickup_of, dropoff_of, unpromised}
use Rattle.stop_schedule.specs.Plans.{Plan, Course, halt_at}
use Rattle.stop_schedule.specs.Rates.{Rates}
use Rattle.stop_schedule.specs.Times.{departs, arrives, halt_time, stop_times, aboard, kept_time, promised_time}
use Rattle.stop_schedule.proofs.TimeLaws.{departs_more, halts_more, stop_times_more}
use Rattle.road_graph.specs.declared.road.NodeNo.{NodeNo}
use Rattle.insertion_cost.specs.declared.driving.Drive.{Drive}
use Rattle.insertion_cost.specs.declared.driving.Riders.{Riders}
use Rattle.road_graph.specs.Paths.{length_of}
use Rattle.insertion_cost.specs.declared.spans.Spans.{Spans}
use Rattle.insertion_cost.specs.Spans.{AreSpans, lengths_of}
use Rattle.insertion_cost.specs.Drives.{IsDriven}
use Rattle.insertion_cost.proofs.Aboard.{AreAhead}
use Rattle.insertion_cost.proofs.NewLengths.{length-changed}
use Rattle.stop_schedule.proofs.ListLaws.{length-with_both, length-with_legs}

-- who is aboard on one leg has seats and spaces
abbrev pub is_seated_on : Plan → List Stop → ℕ → Bool
is_seated_on p stops i = nat_le (aboard Seat stops i) p.seats && nat_le (aboard Space stops i) p.spaces

-- so far on the new list no test fails, and these are the times, the riders and the driving
pub record IsAlong (rates : Rates) (p : Plan) (at : Insertion) (c : Course) (k departure : ℕ) (halt : Option NodeNo) (on_seats in_spaces : Riders) (d : Drive) : Type 0 where
  pub left : departure ≡ departs rates.stop c k
  pub halts : halt ≡ halt_at c k
  pub seat_takers : AreAhead Seat c.stops k on_seats
  pub space_takers : AreAhead Space c.stops k in_spaces
  pub seated : each_below k (is_seated_on p c.stops) ≡ true
  pub in_time : each_below k (λ i. is_in_time rates.stop c (suc i) (slice_get c.stops i)) ≡ true
  pub busy_time : d.busy_time ≡ sum (take k c.lengths) + stop_times rates.stop c k
  pub driven : d.busy_time ≤ departure
  pub leave : at.i < k → d.leave ≡ departs rates.stop c (at.i + 1)
  pub arrive : at.j + 1 < k → d.arrive ≡ arrives rates.stop c (at.j + 2)
  pub soon : departure ≤ 2 ^ 41
  pub soon_left : d.leave ≤ 2 ^ 40
  pub soon_reached : d.arrive ≤ 2 ^ 40
  pub in_service : 0 < k → departure ≤ p.until

-- a test that fails at one number fails for all above
pub each_not : (n k : ℕ) (test : ℕ → Bool) → k < n → test k ≡ false → each_below n test ≡ false
each_not zero k test l h = absurd (omega arith)
each_not (suc n) k test l h =
    ⊎_elim (λ (below : k < n). and_left (each_below n test) (test n) (each_not n k test below h))
    (λ (last : n ≤ k). let here : k ≡ n = omega arith in and_right (each_below n test) (test n) (rw here at h)) (cases_lt k n)

-- a test that passes at one number more
pub each_more : (n : ℕ) (test : ℕ → Bool) → each_below n test ≡ true → test n ≡ true → each_below (n + 1) test ≡ true
each_more n test h t = rw (add-one n) (and_from (each_below n test) (test n) h t)

-- a stop is left no sooner than the one before
pub departs_next : (stop : ℕ) (c : Course) (i : ℕ) → departs stop c i ≤ departs stop c (suc i)
departs_next stop c i = omega arith

-- nor than any before
pub departs_rises : (stop : ℕ) (c : Course) (i n : ℕ) → i ≤ n → departs stop c i ≤ departs stop c n
departs_rises stop c i zero l = let first : i ≡ 0 = omega arith in rw first (omega arith)
departs_rises stop c i (suc n) l =
    ⊎_elim (λ (below : i < suc n). let so_far = departs_rises stop c i n (omega arith) in let step = departs_next stop c n in omega arith)
    (λ (last : suc n ≤ i). let here : i ≡ suc n = omega arith in rw here (omega arith)) (cases_lt i (suc n))

-- the next arrival
reached_at : (stop : ℕ) (c : Course) (k departure x : ℕ) → departure ≡ departs stop c k → x ≡ get_or c.lengths k 0 → departure + x ≡ arrives stop c (suc k)
reached_at stop c k departure x d e = rw (d, e) refl

-- the promised time of a stop is its departure or its arrival
promised_as : (stop : ℕ) (c : Course) (i arrival departure : ℕ) (kind : StopKind) → arrival ≡ arrives stop c i → departure ≡ departs stop c i → promised_time stop c i kind ≡ kept_time kind arrival departure
promised_as stop c i arrival departure Pickup a d = sym d
promised_as stop c i arrival departure Dropoff a d = sym a

-- the test of a stop's limit is that at the times that were reckoned
in_time_as : (stop : ℕ) (c : Course) (k arrival departure : ℕ) (s : Stop) → slice_get c.stops k ≡ Some s → arrival ≡ arrives stop c (suc k) → departure ≡ departs stop c (suc k)
    → is_in_time stop c (suc k) (slice_get c.stops k) ≡ nat_le (kept_time s.kind arrival departure) s.limit
in_time_as stop c k arrival departure s h a d =
    rw h (ap (λ n. nat_le n s.limit) (promised_as stop c (suc k) arrival departure s.kind a d))

-- what is feasible where the places are right
abbrev pub places : Plan → Insertion → Bool
places p at = nat_le at.i at.j && nat_le at.j (length p.stops)

-- a new list whose riders have no seats isn't feasible
unseated : (rates : Rates) (p : Plan) (front : Front) (r : Request) (at : Insertion) (lengths : List ℕ) → is_seated p.seats p.spaces (new_course p front r at lengths).stops ≡ false → is_feasible rates p front r at lengths ≡ false
unseated rates p front r at lengths h =
    let c = new_course p front r at lengths in
    and_right (places p at) (keeps_along rates.stop p c)
    (and_left (nat_le (length c.stops) most_stops && is_seated p.seats p.spaces c.stops && are_in_time rates.stop c) (is_over_by rates.stop c p.until)
    (and_left (nat_le (length c.stops) most_stops && is_seated p.seats p.spaces c.stops) (are_in_time rates.stop c)
    (and_right (nat_le (length c.stops) most_stops) (is_seated p.seats p.spaces c.stops) h)))

-- nor one that breaks a promise
unkept : (rates : Rates) (p : Plan) (front : Front) (r : Request) (at : Insertion) (lengths : List ℕ) → are_in_time rates.stop (new_course p front r at lengths) ≡ false → is_feasible rates p front r at lengths ≡ false
unkept rates p front r at lengths h =
    let c = new_course p front r at lengths in
    and_right (places p at) (keeps_along rates.stop p c)
    (and_left (nat_le (length c.stops) most_stops && is_seated p.seats p.spaces c.stops && are_in_time rates.stop c) (is_over_by rates.stop c p.until)
    (and_right (nat_le (length c.stops) most_stops && is_seated p.seats p.spaces c.stops) (are_in_time rates.stop c) h))

-- nor one that ends too late
overdue : (rates : Rates) (p : Plan) (front : Front) (r : Request) (at : Insertion) (lengths : List ℕ) → is_over_by rates.stop (new_course p front r at lengths) p.until ≡ false → is_feasible rates p front r at lengths ≡ false
overdue rates p front r at lengths h =
    let c = new_course p front r at lengths in
    and_right (places p at) (keeps_along rates.stop p c)
    (and_right (nat_le (length c.stops) most_stops && is_seated p.seats p.spaces c.stops && are_in_time rates.stop c) (is_over_by rates.stop c p.until) h)

-- too many aboard on one leg, on seats ..
pub full_at : (rates : Rates) (p : Plan) (front : Front) (r : Request) (at : Insertion) (lengths : List ℕ) (k : ℕ) (riders : Riders) → let stops = (new_course p front r at lengths).stops in
    k < length stops → AreAhead Seat stops k riders → p.seats < riders.off - riders.on → is_feasible rates p front r at lengths ≡ false
full_at rates p front r at lengths k riders l e h =
    let stops = (new_course p front r at lengths).stops in
    let on = e.on in
    let off = e.off in
    let full : nat_le (aboard Seat stops k) p.seats ≡ false = lt-leb (aboard Seat stops k) p.seats (omega arith) in
    unseated rates p front r at lengths (each_not (length stops) k (is_seated_on p stops) l (and_left (nat_le (aboard Seat stops k) p.seats) (nat_le (aboard Space stops k) p.spaces) full))

-- .. or in spaces
pub spaces_full_at : (rates : Rates) (p : Plan) (front : Front) (r : Request) (at : Insertion) (lengths : List ℕ) (k : ℕ) (riders : Riders) → let stops = (new_course p front r at lengths).stops in
    k < length stops → AreAhead Space stops k riders → p.spaces < riders.off - riders.on → is_feasible rates p front r at lengths ≡ false
spaces_full_at rates p front r at lengths k riders l e h =
    let stops = (new_course p front r at lengths).stops in
    let on = e.on in
    let off = e.off in
    let full : nat_le (aboard Space stops k) p.spaces ≡ false = lt-leb (aboard Space stops k) p.spaces (omega arith) in
    unseated rates p front r at lengths (each_not (length stops) k (is_seated_on p stops) l (and_right (nat_le (aboard Seat stops k) p.seats) (nat_le (aboard Space stops k) p.spaces) full))

-- a stop that is reached too late
pub broken_at : (rates : Rates) (p : Plan) (front : Front) (r : Request) (at : Insertion) (lengths : List ℕ) (k departure x next : ℕ) (s : Stop) → let c = new_course p front r at lengths in
    slice_get c.stops k ≡ Some s → departure ≡ departs rates.stop c k → x ≡ get_or c.lengths k 0 → next ≡ departs rates.stop c (k + 1) → nat_le (kept_time s.kind (departure + x) next) s.limit ≡ false
    → is_feasible rates p front r at lengths ≡ false
broken_at rates p front r at lengths k departure x next s h d e n b =
    let c = new_course p front r at lengths in
    let same = in_time_as rates.stop c k (departure + x) next s h (reached_at rates.stop c k departure x d e) (n ∙ ap (λ m. departs rates.stop c m) (add-one k)) in
    unkept rates p front r at lengths (each_not (length c.stops) k (λ i. is_in_time rates.stop c (suc i) (slice_get c.stops i)) (slice_get_within c.stops k s h) (rw same b))

-- a stop that is left after the end of service
pub late_at : (rates : Rates) (p : Plan) (front : Front) (r : Request) (at : Insertion) (lengths : List ℕ) (k departure : ℕ) → let c = new_course p front r at lengths in
    k < length c.stops → departure ≡ departs rates.stop c (k + 1) → p.until < departure → is_feasible rates p front r at lengths ≡ false
late_at rates p front r at lengths k departure l d h =
    let c = new_course p front r at lengths in
    let rises = departs_rises rates.stop c (k + 1) (length c.stops) (omega arith) in
    overdue rates p front r at lengths (or_from (length c.stops == 0) (nat_le (departs rates.stop c (length c.stops)) p.until) (ne_eqb (length c.stops) 0 (λ e. omega arith)) (lt-leb (departs rates.stop c (length c.stops)) p.until (omega arith)))

-- on the place where the new list starts
pub along_start : (rates : Rates) (p : Plan) (at : Insertion) (c : Course) (departure : ℕ) (halt : Option NodeNo) (on_seats in_spaces : Riders) → departure ≡ c.departure → halt ≡ c.halt → departure ≤ 2 ^ 41
    → AreAhead Seat c.stops 0 on_seats → AreAhead Space c.stops 0 in_spaces → IsAlong rates p at c 0 departure halt on_seats in_spaces (record { busy_time = 0; leave = 0; arrive = 0 })
along_start rates p at c departure halt on_seats in_spaces d e small seats spaces = record {
  left = d;
  halts = e;
  seat_takers = seats;
  space_takers = spaces;
  seated = refl;
  in_time = refl;
  busy_time = refl;
  driven = omega arith;
  leave = λ (l : at.i < 0). absurd (omega arith);
  arrive = λ (l : at.j + 1 < 0). absurd (omega arith);
  soon = small;
  soon_left = omega arith;
  soon_reached = omega arith;
  in_service = λ (l : 0 < 0). absurd (omega arith);
}

-- the pickup's departure, once it is past
left_more : (stop : ℕ) (c : Course) (i k next old new : ℕ) → (i < k → old ≡ departs stop c (i + 1)) → next ≡ departs stop c (k + 1) → new ≡ cond (k == i) next old → i < k + 1 → new ≡ departs stop c (i + 1)
left_more stop c i k next old new before n e l =
    ⊎_elim (λ (here : k ≡ i). e ∙ cond-true (k == i) next old (eq-eqb k i here) ∙ n ∙ ap (λ m. departs stop c (m + 1)) here)
    (λ (apart : k ≡ i → ⊥). e ∙ cond-false (k == i) next old (ne_eqb k i apart) ∙ before (omega arith)) (cases_eq k i)

-- the dropoff's arrival, once it is past
reached_more : (stop : ℕ) (c : Course) (j k arrival old new : ℕ) → (j + 1 < k → old ≡ arrives stop c (j + 2)) → arrival ≡ arrives stop c (suc k) → new ≡ cond (k == j + 1) arrival old → j + 1 < k + 1 → new ≡ arrives stop c (j + 2)
reached_more stop c j k arrival old new before a e l =
    ⊎_elim (λ (here : k ≡ j + 1). let same : suc k ≡ j + 2 = omega arith in e ∙ cond-true (k == j + 1) arrival old (eq-eqb k (j + 1) here) ∙ a ∙ ap (λ n. arrives stop c n) same)
    (λ (apart : k ≡ j + 1 → ⊥). e ∙ cond-false (k == j + 1) arrival old (ne_eqb k (j + 1) apart) ∙ before (omega arith)) (cases_eq k (j + 1))

-- of two numbers up to a limit either is
either_below : (b : Bool) (x y new most : ℕ) → new ≡ cond b x y → x ≤ most → y ≤ most → new ≤ most
either_below b x y new most e h w = rw e (cond_both b x y (λ n. n ≤ most) (λ _. h) (λ _. w))

-- what one stop more of the new list comes to
pub record IsNext (rates : Rates) (p : Plan) (at : Insertion) (c : Course) (k departure next : ℕ) (halt : Option NodeNo) (on_seats in_spaces seats spaces : Riders) (d e : Drive) (s : Stop) (x takes : ℕ) : Type 0 where
  pub stands : slice_get c.stops k ≡ Some s
  pub length_is : x ≡ get_or c.lengths k 0
  pub takes_is : takes ≡ halt_time rates.stop halt s.node
  pub left : next ≡ max (departure + x + takes) s.ready
  pub seated : on_seats.off - on_seats.on ≤ p.seats
  pub spaced : in_spaces.off - in_spaces.on ≤ p.spaces
  pub in_service : next ≤ p.until
  pub kept : nat_le (kept_time s.kind (departure + x) next) s.limit ≡ true
  pub seat_takers : AreAhead Seat c.stops (k + 1) seats
  pub space_takers : AreAhead Space c.stops (k + 1) spaces
  pub busy_time : e.busy_time ≡ d.busy_time + (x + takes)
  pub leave : e.leave ≡ cond (k == at.i) next d.leave
  pub arrive : e.arrive ≡ cond (k == at.j + 1) (departure + x) d.arrive

-- along the new list by one stop more
pub along_more : (rates : Rates) (p : Plan) (at : Insertion) (c : Course) (k departure next : ℕ) (halt : Option NodeNo) (on_seats in_spaces seats spaces : Riders) (d e : Drive) (s : Stop) (x takes : ℕ) → p.until ≤ 2 ^ 40 → length c.lengths ≡ length c.stops
    → IsAlong rates p at c k departure halt on_seats in_spaces d → IsNext rates p at c k departure next halt on_seats in_spaces seats spaces d e s x takes → IsAlong rates p at c (k + 1) next (Some s.node) seats spaces e
along_more rates p at c k departure next halt on_seats in_spaces seats spaces d e s x takes until long h n =
    let within = slice_get_within c.stops k s n.stands in
    let step = sum_by_more (λ (y : ℕ). y) c.lengths k 0 (omega arith) in
    let left = departs_more rates.stop c k departure x next halt s h.left h.halts n.stands n.length_is (rw n.takes_is at n.left) in
    let stops = stop_times_more rates.stop c k halt s takes h.halts n.stands n.takes_is in
    let reached = reached_at rates.stop c k departure x h.left n.length_is in
    let in_time = in_time_as rates.stop c k (departure + x) next s n.stands reached (left ∙ ap (λ m. departs rates.stop c m) (add-one k)) in
    record {
      left = left;
      halts = halts_more c k s n.stands;
      seat_takers = n.seat_takers;
      space_takers = n.space_takers;
      seated = each_more k (is_seated_on p c.stops) h.seated (and_from (nat_le (aboard Seat c.stops k) p.seats) (nat_le (aboard Space c.stops k) p.spaces)
          (le-leb (aboard Seat c.stops k) p.seats (omega (arith, h.seat_takers.on, h.seat_takers.off, n.seated)))
          (le-leb (aboard Space c.stops k) p.spaces (omega (arith, h.space_takers.on, h.space_takers.off, n.spaced))));
      in_time = each_more k (λ i. is_in_time rates.stop c (suc i) (slice_get c.stops i)) h.in_time (rw in_time n.kept);
      busy_time = omega (arith, h.busy_time, n.busy_time);
      driven = omega (arith, h.driven, n.busy_time, n.left);
      leave = left_more rates.stop c at.i k next d.leave e.leave h.leave left n.leave;
      arrive = reached_more rates.stop c at.j k (departure + x) d.arrive e.arrive h.arrive reached n.arrive;
      soon = omega (arith, n.in_service);
      soon_left = either_below (k == at.i) next d.leave e.leave (2 ^ 40) n.leave (omega (arith, n.in_service)) h.soon_left;
      soon_reached = either_below (k == at.j + 1) (departure + x) d.arrive e.arrive (2 ^ 40) n.arrive (omega (arith, n.in_service, n.left)) h.soon_reached;
      in_service = λ _. n.in_service;
    }

-- a list whose stops all pass is feasible
pub along_end : (rates : Rates) (p : Plan) (front : Front) (r : Request) (at : Insertion) (lengths : List ℕ) (k departure : ℕ) (halt : Option NodeNo) (on_seats in_spaces : Riders) (d : Drive) → let c = new_course p front r at lengths in
    at.i ≤ at.j → at.j ≤ length p.stops → length p.stops ≤ 62 → p.until ≤ 2 ^ 40 → length c.stops ≡ length p.stops + 2 → length c.lengths ≡ length c.stops
    → k ≡ length c.stops → IsAlong rates p at c k departure halt on_seats in_spaces d → IsDriven rates p front r at lengths d
along_end rates p front r at lengths k departure halt on_seats in_spaces d order within few until more long whole along =
    let c = new_course p front r at lengths in
    let h = rw whole at along in
    let fit = and_from (nat_le at.i at.j) (nat_le at.j (length p.stops)) (le-leb at.i at.j order) (le-leb at.j (length p.stops) within) in
    let seated = and_from (nat_le (length c.stops) most_stops) (is_seated p.seats p.spaces c.stops) (le-leb (length c.stops) most_stops (omega arith)) h.seated in
    let in_time = and_from (nat_le (length c.stops) most_stops && is_seated p.seats p.spaces c.stops) (are_in_time rates.stop c) seated h.in_time in
    let service : departure ≤ p.until = h.in_service (omega arith) in
    let over = or_right (length c.stops == 0) (nat_le (departs rates.stop c (length c.stops)) p.until) (le-leb (departs rates.stop c (length c.stops)) p.until (omega (arith, h.left))) in
    record {
      few = few;
      feasible = and_from (places p at) (keeps_along rates.stop p c) fit (and_from (nat_le (length c.stops) most_stops && is_seated p.seats p.spaces c.stops && are_in_time rates.stop c) (is_over_by rates.stop c p.until) in_time over);
      busy_time = h.busy_time ∙ ap (λ (l : List ℕ). sum l + stop_times rates.stop c (length c.stops)) (take_all (length c.stops) c.lengths (omega arith));
      leave = h.leave (omega arith);
      arrive = h.arrive (omega arith);
      short = omega (arith, h.driven);
      soon_left = h.soon_left;
      soon_reached = h.soon_reached;
    }

-- the new list has two stops more, and a leg to each stop
pub lists_match : (p : Plan) (front : Front) (r : Request) (at : Insertion) (s : Spans) → at.i ≤ at.j → at.j ≤ length p.stops → length p.legs ≡ length p.stops → AreSpans (length p.stops) at s → let c = new_course p front r at (lengths_of s) in
    (length c.stops ≡ length p.stops + 2) × (length c.lengths ≡ length c.stops)
lists_match p front r at s order within legs spans =
    let older : length (map length_of p.legs) ≡ length p.stops = length-map p.legs length_of ∙ legs in
    let stops = length-with_both p.stops at (pickup_of r (unpromised p.until)) (dropoff_of r (unpromised p.until)) order within in
    let count = length-changed (length (map length_of p.legs)) at s.before_pickup s.after_pickup s.before_dropoff s.after_dropoff order (rw older within) spans.between (rw older spans.behind) in
    let lengths = length-with_legs (map length_of p.legs) (lengths_of s) at order (rw older within) count in
    (stops, omega (arith, older, stops, lengths))
