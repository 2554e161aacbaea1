use Rattle.std.proofs.Common.{◌≡◌, ℕ, zero, suc, ◌+◌, ◌-◌, ◌<◌, ◌≤◌, ◌^◌, ◌⊎◌, inl, inr, ◌==◌, Bool, true, false, cond, List, [], ◌∷◌, ◌++◌, take, drop, map, length, Option, Some, None, sym, refl, ap, ◌∙◌, subst, arith}
use Rattle.std.specs.Prelude.{slice_get, slice_index, nat_le, nat_lt}
use Rattle.std.proofs.lemmas.Bool.{cases_eq, cond-true, cond-false, eq-eqb, ne_eqb}
use Rattle.std.proofs.lemmas.Option.{cond_some}
use Rattle.road_graph.specs.declared.road.NodeNo.{NodeNo}
use Rattle.road_graph.specs.Paths.{Path, length_of}
use Rattle.stop_schedule.specs.declared.request.Request.{Request}
use Rattle.stop_schedule.specs.declared.stop.Front.{Front}
use Rattle.stop_schedule.specs.declared.stop.Insertion.{Insertion}
use Rattle.stop_schedule.specs.declared.stop.Promise.{Promise}
use Rattle.stop_schedule.specs.declared.stop.Stop.{Stop}
use Rattle.stop_schedule.specs.Bounds.{AreShortLegs}
use Rattle.stop_schedule.specs.Fronts.{first_reached, front_on, front_of}
use Rattle.stop_schedule.specs.Keeping.{is_feasible, keeps}
use Rattle.stop_schedule.specs.Lists.{pickup_of, dropoff_of, unpromised, with_both, with_legs, start_of, inserted_in, new_course, changed_ends, node_or}
use Rattle.stop_schedule.specs.Plans.{Plan, Course, course_of}
use Rattle.stop_schedule.specs.Rates.{Rates}
use Rattle.stop_schedule.specs.Times.{departs, arrives}
use Rattle.stop_advance.specs.Advance.{reached_by, advanced_in}
use Rattle.stop_removal.specs.Removals.{back_at, with_joined, removed_in}
use Rattle.insertion_cost.specs.Prices.{Price, price_of, priced}
use Rattle.board_core.specs.BoardCalls.{AreWithin, AreWaysBetween}
use Rattle.board_core.specs.BoardKept.{IsAmong, IsKeptPlan}
use Rattle.board_core.proofs.Advances.{reached-le, rest_kept}
use Rattle.board_core.proofs.Ahead.{new_ahead_from, rest_ahead}
use Rattle.board_core.proofs.Alike.{IsLike, with_both_alike}
use Rattle.board_core.proofs.Chains.{node_from, node_from_is}
use Rattle.board_core.proofs.Each.{Each, each_append, each_cond, each_drop, each_more, each_take}
use Rattle.board_core.proofs.Kept.{in_time_at, kept_from, keeps_from}
use Rattle.board_core.proofs.LessStops.{from_both}
use Rattle.board_core.proofs.NewLegs.{with_legs-map}
use Rattle.board_core.proofs.NewPlans.{Fits, fits, new_kept}
use Rattle.board_core.proofs.NewStops.{both_dropoff, both_other, both_pickup}

-- What a board keeps of each of its schedules stays so as they change. No walk has to be least for that.

-- ---- walks that are handed in

-- there are as many as pairs of nodes
pub ways_many : (nodes : ℕ) (ends : List (NodeNo × NodeNo)) (walks : List Path) → AreWaysBetween nodes ends walks → length walks ≡ length ends
ways_many nodes [] walks w = ap length w
ways_many nodes (e ∷ ends) [] w = absurd w
ways_many nodes (e ∷ ends) (v ∷ walks) w = let rest = ways_many nodes ends walks w.1 in omega arith

-- each is short
pub ways_short : (nodes : ℕ) (ends : List (NodeNo × NodeNo)) (walks : List Path) → AreWaysBetween nodes ends walks → AreShortLegs walks
ways_short nodes [] walks w k leg e = let bad : slice_get [] k ≡ Some leg = sym (ap (λ (l : List Path). slice_get l k) w) ∙ e in cc
ways_short nodes (e ∷ ends) [] w k leg h = absurd w
ways_short nodes (e ∷ ends) (v ∷ walks) w zero leg h = let same : v ≡ leg = cc in subst (λ (l : Path). length_of l < 2 ^ 53) same w.0.short
ways_short nodes (e ∷ ends) (v ∷ walks) w (suc k) leg h = ways_short nodes ends walks w.1 k leg h

abbrev pub IsPathWithin : ℕ → Path → Type 0
IsPathWithin nodes leg = AreWithin nodes leg.nodes

-- and its nodes are nodes
pub ways_within : (nodes : ℕ) (ends : List (NodeNo × NodeNo)) (walks : List Path) → AreWaysBetween nodes ends walks → Each (IsPathWithin nodes) walks
ways_within nodes [] walks w k leg e = let bad : slice_get [] k ≡ Some leg = sym (ap (λ (l : List Path). slice_get l k) w) ∙ e in cc
ways_within nodes (e ∷ ends) [] w k leg h = absurd w
ways_within nodes (e ∷ ends) (v ∷ walks) w zero leg h = let same : v ≡ leg = cc in subst (IsPathWithin nodes) same w.0.within
ways_within nodes (e ∷ ends) (v ∷ walks) w (suc k) leg h = ways_within nodes ends walks w.1 k leg h

-- ---- the front

reached_among : (nodes : ℕ) (place : NodeNo) (departure now : ℕ) (along : List NodeNo) (offsets : List ℕ) → IsAmong nodes place → AreWithin nodes along → IsAmong nodes (first_reached place departure now along offsets).node
reached_among nodes place departure now [] offsets h all = h
reached_among nodes place departure now (n ∷ along) [] h all = h
reached_among nodes place departure now (n ∷ along) (o ∷ offsets) h all = on (nat_le now (departure + o)) (reached_among nodes place departure now along offsets h (λ k m e. all (suc k) m e))
  where
    on : (b : Bool) → IsAmong nodes (first_reached place departure now along offsets).node
        → IsAmong nodes (cond b (let f : Front = record { node = n; time = departure + o; offset = o } in f) (first_reached place departure now along offsets)).node
    on true rest = all 0 n refl
    on false rest = rest

-- a vehicle's front is a node
pub front_among : (nodes : ℕ) (p : Plan) (now : ℕ) → IsAmong nodes p.place → Each (IsPathWithin nodes) p.legs → IsAmong nodes (front_of p now).node
front_among nodes p now h all = on p.legs all
  where
    on : (legs : List Path) → Each (IsPathWithin nodes) legs → IsAmong nodes (front_on p.place p.departure now legs).node
    on [] all = h
    on (leg ∷ legs) all = turn (nat_lt now p.departure)
      where
        turn : (b : Bool) → IsAmong nodes (cond b (let f : Front = record { node = p.place; time = p.departure; offset = 0 } in f) (first_reached p.place p.departure now leg.nodes leg.offsets)).node
        turn true = h
        turn false = reached_among nodes p.place p.departure now leg.nodes leg.offsets h (all 0 leg refl)

-- where a list starts
start_among : (nodes : ℕ) (at : Insertion) (front place : NodeNo) → IsAmong nodes front → IsAmong nodes place → IsAmong nodes (start_of at front place)
start_among nodes at front place f p = on (at.i == 0)
  where
    on : (b : Bool) → IsAmong nodes (cond b front place)
    on true = f
    on false = p

-- ---- an insertion

abbrev pub IsStopAmong : ℕ → Stop → Type 0
IsStopAmong nodes s = IsAmong nodes s.node

both_among : (nodes : ℕ) (stops : List Stop) (at : Insertion) (p d : Stop) → Each (IsStopAmong nodes) stops → IsAmong nodes p.node → IsAmong nodes d.node → Each (IsStopAmong nodes) (with_both stops at p d)
both_among nodes stops at p d all hp hd =
    let P = IsStopAmong nodes in
    each_append P (take at.i stops ++ p ∷ take (at.j - at.i) (drop at.i stops)) (d ∷ drop at.j stops)
    (each_append P (take at.i stops) (p ∷ take (at.j - at.i) (drop at.i stops)) (each_take P at.i stops all) (each_more P p _ hp (each_take P (at.j - at.i) (drop at.i stops) (each_drop P at.i stops all))))
    (each_more P d _ hd (each_drop P at.j stops all))

legs_among : (nodes : ℕ) (legs walks : List Path) (at : Insertion) → Each (IsPathWithin nodes) legs → Each (IsPathWithin nodes) walks → Each (IsPathWithin nodes) (with_legs legs at walks)
legs_among nodes legs walks at h w =
    let P = IsPathWithin nodes in
    each_cond P (at.i == at.j) _ _
    (each_append P (take at.i legs ++ walks) (drop (at.i + 1) legs) (each_append P (take at.i legs) walks (each_take P at.i legs h) w) (each_drop P (at.i + 1) legs h))
    (each_append P (take at.i legs ++ take 2 walks ++ take (at.j - at.i - 1) (drop (at.i + 1) legs) ++ drop 2 walks) (drop (at.j + 1) legs)
    (each_append P (take at.i legs ++ take 2 walks ++ take (at.j - at.i - 1) (drop (at.i + 1) legs)) (drop 2 walks)
    (each_append P (take at.i legs ++ take 2 walks) (take (at.j - at.i - 1) (drop (at.i + 1) legs))
    (each_append P (take at.i legs) (take 2 walks) (each_take P at.i legs h) (each_take P 2 walks w))
    (each_take P (at.j - at.i - 1) (drop (at.i + 1) legs) (each_drop P (at.i + 1) legs h)))
    (each_drop P 2 walks w))
    (each_drop P (at.j + 1) legs h))

-- What a price says: the insertion is feasible with these walks, and both its times are early and those of the new list.
pub record IsPriced (rates : Rates) (p : Plan) (front : Front) (r : Request) (at : Insertion) (walks : List Path) (leave arrive : ℕ) : Type 0 where
  pub parts : Fits rates p at (new_course p front r at (map length_of walks))
  pub leave_is : departs rates.stop (new_course p front r at (map length_of walks)) (at.i + 1) ≡ leave
  pub arrive_is : arrives rates.stop (new_course p front r at (map length_of walks)) (at.j + 2) ≡ arrive
  pub leave_early : leave ≤ p.until
  pub arrive_early : arrive ≤ p.until

pub priced_so : (rates : Rates) (p : Plan) (front : Front) (r : Request) (at : Insertion) (direct cost leave arrive : ℕ) (walks : List Path)
    → priced rates p front r at direct (map length_of walks) ≡ Some (record { cost = cost; leave = leave; arrive = arrive }) → IsPriced rates p front r at walks leave arrive
priced_so rates p front r at direct cost leave arrive walks h = record {
  parts = parts;
  leave_is = ap (λ (x : Price). x.leave) q.1;
  arrive_is = ap (λ (x : Price). x.arrive) q.1;
  leave_early = (let a : departs rates.stop c (at.i + 1) ≡ leave = ap (λ (x : Price). x.leave) q.1 in
      let e : suc at.i ≡ at.i + 1 = omega arith in let b : departs rates.stop c (suc at.i) ≡ departs rates.stop c (at.i + 1) = ap (departs rates.stop c) e in
      let t : departs rates.stop c (suc at.i) ≤ p.until = in_time_at rates.stop c parts.in_time at.i (pickup_of r (unpromised p.until)) (both_pickup p.stops at _ _ parts.ordered parts.within) in omega arith);
  arrive_early = (let a : arrives rates.stop c (at.j + 2) ≡ arrive = ap (λ (x : Price). x.arrive) q.1 in
      let e : suc (suc at.j) ≡ at.j + 2 = omega arith in let b : arrives rates.stop c (suc (suc at.j)) ≡ arrives rates.stop c (at.j + 2) = ap (arrives rates.stop c) e in
      let t : arrives rates.stop c (suc (suc at.j)) ≤ p.until = in_time_at rates.stop c parts.in_time (suc at.j) (dropoff_of r (unpromised p.until)) (both_dropoff p.stops at _ _ parts.ordered parts.within) in omega arith);
}
  where
    c : Course
    c = new_course p front r at (map length_of walks)

    q : (is_feasible rates p front r at (map length_of walks) ≡ true) × (price_of rates p front r at direct c ≡ record { cost = cost; leave = leave; arrive = arrive })
    q = cond_some _ _ _ h

    parts : Fits rates p at c
    parts = fits rates p front r at (map length_of walks) q.0

-- the new schedule keeps what is promised at the planned times or later
pub inserted_keeps : (rates : Rates) (p : Plan) (front : Front) (r : Request) (at : Insertion) (promise : Promise) (walks : List Path) (leave arrive : ℕ)
    → IsPriced rates p front r at walks leave arrive → leave ≤ promise.pickup → arrive ≤ promise.arrival → keeps rates (inserted_in p front r at promise walks) ≡ true
inserted_keeps rates p front r at promise walks leave arrive h a b = keeps_from rates (inserted_in p front r at promise walks)
    (new_kept rates p (inserted_in p front r at promise walks) r at promise (new_course p front r at (map length_of walks)) h.parts like refl refl refl refl
    (λ m t e. both_other p.stops at _ _ h.parts.ordered h.parts.within m t e) (let l = h.leave_is in omega arith) (let l = h.arrive_is in omega arith))
  where
    like : IsLike (course_of (inserted_in p front r at promise walks)) (new_course p front r at (map length_of walks))
    like = record {
      halt = refl;
      departure = refl;
      lengths = with_legs-map p.legs walks at;
      stops = with_both_alike p.stops at (pickup_of r promise) (dropoff_of r promise) _ _ refl refl;
    }

-- a schedule that takes in a request whose nodes are nodes
pub inserted_kept : (nodes : ℕ) (rates : Rates) (clock : ℕ) (p : Plan) (r : Request) (at : Insertion) (promise : Promise) (walks : List Path) (leave arrive : ℕ)
    → IsKeptPlan nodes rates clock p → length p.legs ≡ length p.stops → clock ≤ (front_of p clock).time → IsAmong nodes r.pickup → IsAmong nodes r.dropoff
    → IsPriced rates p (front_of p clock) r at walks leave arrive → leave ≤ promise.pickup → arrive ≤ promise.arrival
    → AreWaysBetween nodes (changed_ends p.stops (front_of p clock) r at) walks → IsKeptPlan nodes rates clock (inserted_in p (front_of p clock) r at promise walks)
inserted_kept nodes rates clock p r at promise walks leave arrive h many late up down priced a b w = record {
  kept = inserted_keeps rates p (front_of p clock) r at promise walks leave arrive priced a b;
  place = start_among nodes at (front_of p clock).node p.place (front_among nodes p clock h.place h.legs) h.place;
  stops = both_among nodes p.stops at (pickup_of r promise) (dropoff_of r promise) h.stops up down;
  legs = legs_among nodes p.legs walks at h.legs (ways_within nodes (changed_ends p.stops (front_of p clock) r at) walks w);
  ahead = new_ahead_from p (front_of p clock) clock r at promise walks many late priced.parts.ordered priced.parts.within h.ahead;
}

-- ---- a removal

joined_among : (nodes : ℕ) (legs walks : List Path) (a b : ℕ) → Each (IsPathWithin nodes) legs → Each (IsPathWithin nodes) walks → Each (IsPathWithin nodes) (with_joined legs a b walks)
joined_among nodes legs walks a b h w =
    let P = IsPathWithin nodes in
    each_cond P (b == a + 1) _ _
    (each_append P (take (a - 1) legs ++ walks) (drop (b + 1) legs) (each_append P (take (a - 1) legs) walks (each_take P (a - 1) legs h) w) (each_drop P (b + 1) legs h))
    (each_append P (take (a - 1) legs ++ take 1 walks ++ take (b - a - 2) (drop (a + 1) legs) ++ drop 1 walks) (drop (b + 1) legs)
    (each_append P (take (a - 1) legs ++ take 1 walks ++ take (b - a - 2) (drop (a + 1) legs)) (drop 1 walks)
    (each_append P (take (a - 1) legs ++ take 1 walks) (take (b - a - 2) (drop (a + 1) legs))
    (each_append P (take (a - 1) legs) (take 1 walks) (each_take P (a - 1) legs h) (each_take P 1 walks w))
    (each_take P (b - a - 2) (drop (a + 1) legs) (each_drop P (a + 1) legs h)))
    (each_drop P 1 walks w))
    (each_drop P (b + 1) legs h))

-- where the pickup isn't the first stop, the first leg stays
first_joined : (legs walks : List Path) (a b : ℕ) → 0 < a → 0 < length legs → slice_index (map length_of (cond (b == a + 1 + 1)
    (take a legs ++ walks ++ drop (b + 1) legs) (take a legs ++ take 1 walks ++ take (b - (a + 1) - 2) (drop (a + 1 + 1) legs) ++ drop 1 walks ++ drop (b + 1) legs))) 0 ≡ slice_index (map length_of legs) 0
first_joined [] walks a b h l = absurd (omega arith)
first_joined (leg ∷ legs) walks a b h l = on a h (b == a + 1 + 1)
  where
    on : (i : ℕ) → 0 < i → (c : Bool)
        → slice_index (map length_of (cond c (take i (leg ∷ legs) ++ walks ++ drop (b + 1) (leg ∷ legs)) (take i (leg ∷ legs) ++ take 1 walks ++ take (b - (a + 1) - 2) (drop (a + 1 + 1) (leg ∷ legs)) ++ drop 1 walks ++ drop (b + 1) (leg ∷ legs)))) 0 ≡ length_of leg
    on zero h c = absurd (omega arith)
    on (suc i) h true = refl
    on (suc i) h false = refl

-- a schedule without two of its stops that keeps
pub removed_kept : (nodes : ℕ) (rates : Rates) (clock : ℕ) (p : Plan) (a b : ℕ) (ends : List (NodeNo × NodeNo)) (walks : List Path)
    → IsKeptPlan nodes rates clock p → length p.legs ≡ length p.stops → clock ≤ (front_of p clock).time → a < b → b ≤ length p.stops
    → keeps rates (removed_in p (front_of p clock) a b walks) ≡ true → AreWaysBetween nodes ends walks → IsKeptPlan nodes rates clock (removed_in p (front_of p clock) a b walks)
removed_kept nodes rates clock p a b ends walks h many late order last kept w = record {
  kept = kept;
  place = start_among nodes (back_at a b) (front_of p clock).node p.place (front_among nodes p clock h.place h.legs) h.place;
  stops = λ k s e. (let x = from_both p.stops a b k s e in h.stops x.0 s x.1);
  legs = joined_among nodes p.legs walks a b h.legs (ways_within nodes ends walks w);
  ahead = λ l. on (cases_eq (a - 1) 0);
}
  where
    on : (a - 1 ≡ 0) ⊎ (a - 1 ≡ 0 → ⊥) → clock ≤ start_of (back_at a b) (front_of p clock).time p.departure + slice_index (map length_of (with_joined p.legs a b walks)) 0
    on (inl e) = let s : start_of (back_at a b) (front_of p clock).time p.departure ≡ (front_of p clock).time = cond-true _ _ _ (eq-eqb (a - 1) 0 e) in omega arith
    on (inr e) = let s : start_of (back_at a b) (front_of p clock).time p.departure ≡ p.departure = cond-false _ _ _ (ne_eqb (a - 1) 0 e) in
        let i : a - 1 + 1 ≡ a = omega arith in
        let t : slice_index (map length_of (with_joined p.legs a b walks)) 0 ≡ slice_index (map length_of p.legs) 0 =
        subst (λ (n : ℕ). slice_index (map length_of (cond (b == n + 1) (take (a - 1) p.legs ++ walks ++ drop (b + 1) p.legs) (take (a - 1) p.legs ++ take 1 walks ++ take (b - n - 2) (drop (n + 1) p.legs) ++ drop 1 walks ++ drop (b + 1) p.legs))) 0 ≡ slice_index (map length_of p.legs) 0) i
        (first_joined p.legs walks (a - 1) b (omega arith) (omega arith)) in
        let x = h.ahead (omega arith) in omega arith

-- ---- a later clock

-- the rest of a schedule
pub advanced_kept : (nodes : ℕ) (rates : Rates) (clock now : ℕ) (p : Plan) → IsKeptPlan nodes rates clock p → IsKeptPlan nodes rates now (advanced_in rates p now)
advanced_kept nodes rates clock now p h = record {
  kept = keeps_from rates (advanced_in rates p now) (rest_kept rates p (reached_by rates p now) (reached-le rates.stop (course_of p) now (length p.stops)) (kept_from rates p h.kept));
  place = subst (IsAmong nodes) (sym (node_from_is p.place p.place p.stops (reached_by rates p now))) (placed (reached_by rates p now));
  stops = each_drop (IsStopAmong nodes) (reached_by rates p now) p.stops h.stops;
  legs = each_drop (IsPathWithin nodes) (reached_by rates p now) p.legs h.legs;
  ahead = rest_ahead rates p now;
}
  where
    some : (k : ℕ) (o : Option Stop) → slice_get p.stops k ≡ o → IsAmong nodes (node_or p.place o)
    some k None e = h.place
    some k (Some s) e = h.stops k s e

    placed : (k : ℕ) → IsAmong nodes (node_from p.place p.place p.stops k)
    placed zero = h.place
    placed (suc k) = some k (slice_get p.stops k) refl
