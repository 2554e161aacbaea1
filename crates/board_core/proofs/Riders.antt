use Rattle.std.proofs.Common.{◌≡◌, ℕ, zero, suc, ◌+◌, ◌-◌, ◌<◌, ◌≤◌, ◌⊎◌, inl, inr, List, [], ◌∷◌, ◌++◌, length, Option, Some, sym, refl, ap, ◌∙◌, subst, arith, length-append}
use Rattle.std.specs.Prelude.{slice_get}
use Rattle.std.proofs.lemmas.Bool.{cases_lt}
use Rattle.std.proofs.lemmas.Option.{slice_get_within}
use Rattle.stop_schedule.specs.declared.request.Request.{Request}
use Rattle.stop_schedule.specs.declared.stop.Insertion.{Insertion}
use Rattle.stop_schedule.specs.declared.stop.Promise.{Promise}
use Rattle.stop_schedule.specs.declared.stop.Stop.{Stop}
use Rattle.stop_schedule.specs.declared.stop.StopKind.{StopKind}
use Rattle.stop_schedule.specs.declared.stop.StopKind.TheVariants.{Pickup, Dropoff}
use Rattle.stop_schedule.specs.Lists.{pickup_of, dropoff_of, with_both}
use Rattle.stop_schedule.specs.Plans.{Plan, Course, course_of}
use Rattle.stop_schedule.specs.Rates.{Rates}
use Rattle.stop_schedule.specs.Times.{departs, arrives, ready_or, promised_time}
use Rattle.stop_advance.specs.declared.served.Served.{Served}
use Rattle.stop_advance.specs.Advance.{served_of, served_as, from_stop}
use Rattle.board_core.specs.Promises.{limit_of, served_time, IsPlannedStop, IsServedStop, HasRider}
use Rattle.board_core.proofs.Inserts.{within}
use Rattle.board_core.proofs.Kept.{IsKept}
use Rattle.board_core.proofs.Advances.{slice_get-drop, promised_rest}
use Rattle.board_core.proofs.NewStops.{past_both, past_both-lt, both_pickup, both_dropoff}

-- an element of the first of two lists
pub get_left : {X : Type 0} (xs ys : List X) (k : ℕ) (x : X) → slice_get xs k ≡ Some x → slice_get (xs ++ ys) k ≡ Some x
get_left [] ys k x h = cc
get_left (y ∷ xs) ys zero x h = h
get_left (y ∷ xs) ys (suc k) x h = get_left xs ys k x h

-- an element of the second of two lists
pub get_right : {X : Type 0} (xs ys : List X) (k : ℕ) → slice_get (xs ++ ys) (length xs + k) ≡ slice_get ys k
get_right [] ys k = let e : 0 + k ≡ k = omega arith in ap (slice_get ys) e
get_right (x ∷ xs) ys k = let e : suc (length xs) + k ≡ suc (length xs + k) = omega arith in ap (slice_get (x ∷ (xs ++ ys))) e ∙ get_right xs ys k

-- a stop as it is served at its planned times
abbrev pub served_stop : ℕ → Course → ℕ → Stop → Served
served_stop stop c k s = record { kind = s.kind; no = s.no; node = s.node; arr = arrives stop c k; dep = departs stop c k }

-- as many stops are served as were reached
pub served_long : (stop : ℕ) (c : Course) (k : ℕ) → k ≤ length c.stops → length (served_of stop c k) ≡ k
served_long stop c zero h = refl
served_long stop c (suc k) h = let before = served_long stop c k (omega arith) in let x = within c.stops k (omega arith) in
    let e : length (served_as stop c (suc k) (slice_get c.stops k)) ≡ 1 = ap (λ (o : Option Stop). length (served_as stop c (suc k) o)) x.1 in
    length-append (served_of stop c k) (served_as stop c (suc k) (slice_get c.stops k)) ∙ omega arith

-- each of them at its planned times
pub served_at : (stop : ℕ) (c : Course) (k m : ℕ) (s : Stop) → m < k → k ≤ length c.stops → slice_get c.stops m ≡ Some s → slice_get (served_of stop c k) m ≡ Some (served_stop stop c (suc m) s)
served_at stop c zero m s b h e = absurd (omega arith)
served_at stop c (suc k) m s b h e = on (cases_lt m k) (λ l. served_at stop c k m s l (omega arith) e)
  where
    long : length (served_of stop c k) ≡ k
    long = served_long stop c k (omega arith)

    on : (m < k) ⊎ (k ≤ m) → (m < k → slice_get (served_of stop c k) m ≡ Some (served_stop stop c (suc m) s))
        → slice_get (served_of stop c k ++ served_as stop c (suc k) (slice_get c.stops k)) m ≡ Some (served_stop stop c (suc m) s)
    on (inl l) before = get_left (served_of stop c k) _ m _ (before l)
    on (inr l) before = let n = long in let q : m ≡ length (served_of stop c k) + 0 = omega arith in let t : m ≡ k = omega arith in
        ap (slice_get (served_of stop c k ++ served_as stop c (suc k) (slice_get c.stops k))) q ∙ get_right (served_of stop c k) (served_as stop c (suc k) (slice_get c.stops k)) 0
        ∙ ap (λ (o : Option Stop). slice_get (served_as stop c (suc k) o) 0) (ap (slice_get c.stops) (sym t) ∙ e) ∙ ap (λ (i : ℕ). Some (served_stop stop c (suc i) s)) (sym t)

-- a planned stop that is reached is served in time
planned_served : (rates : Rates) (p : Plan) (reached : ℕ) (served : List Served) (m : ℕ) (kind : StopKind) (r : Request) (promise : Promise) → reached ≤ length p.stops
    → m < reached → IsPlannedStop rates p m kind r promise
    → IsServedStop (served ++ served_of rates.stop (course_of p) reached) (length served + m) kind r promise
planned_served rates p reached served m kind r promise h b s = record {
  stop = served_stop rates.stop (course_of p) (suc m) s.stop;
  stands = get_right served (served_of rates.stop (course_of p) reached) m ∙ served_at rates.stop (course_of p) reached m s.stop b h s.stands;
  is_kind = s.is_kind;
  is_number = s.is_number;
  is_there = s.is_there;
  not_before = (let e : ready_or (slice_get p.stops m) ≡ s.stop.ready = ap ready_or s.stands in let t = s.ready in omega arith);
  in_time = (let e = time kind in let t = s.in_time in omega arith);
}
  where
    time : (kind : StopKind) → served_time (served_stop rates.stop (course_of p) (suc m) s.stop) kind ≡ promised_time rates.stop (course_of p) (suc m) kind
    time Pickup = refl
    time Dropoff = refl

-- one that isn't is planned as before
planned_rest : (rates : Rates) (p : Plan) (reached m : ℕ) (kind : StopKind) (r : Request) (promise : Promise) → reached ≤ m → IsPlannedStop rates p m kind r promise
    → IsPlannedStop rates (from_stop rates p reached) (m - reached) kind r promise
planned_rest rates p reached m kind r promise h s = let e : reached + (m - reached) ≡ m = omega arith in record {
  stop = s.stop;
  stands = slice_get-drop reached p.stops (m - reached) ∙ ap (slice_get p.stops) e ∙ s.stands;
  is_kind = s.is_kind;
  is_number = s.is_number;
  is_there = s.is_there;
  riders = s.riders;
  spaces = s.spaces;
  ready = s.ready;
  limit = s.limit;
  in_time = (let t = promised_rest rates p reached (m - reached) kind in let q : promised_time rates.stop (course_of p) (suc (reached + (m - reached))) kind ≡ promised_time rates.stop (course_of p) (suc m) kind = ap (λ (i : ℕ). promised_time rates.stop (course_of p) (suc i) kind) e in let l = s.in_time in omega arith);
}

-- a served stop stays served
served_more : (served more : List Served) (k : ℕ) (kind : StopKind) (r : Request) (promise : Promise) → IsServedStop served k kind r promise → IsServedStop (served ++ more) k kind r promise
served_more served more k kind r promise s = record {
  stop = s.stop;
  stands = get_left served more k s.stop s.stands;
  is_kind = s.is_kind;
  is_number = s.is_number;
  is_there = s.is_there;
  not_before = s.not_before;
  in_time = s.in_time;
}

-- a rider's promise is kept while the vehicle moves
pub rider_moves : (rates : Rates) (p : Plan) (reached : ℕ) (served : List Served) (r : Request) (promise : Promise) → reached ≤ length p.stops → HasRider rates p served r promise
    → HasRider rates (from_stop rates p reached) (served ++ served_of rates.stop (course_of p) reached) r promise
rider_moves rates p reached served r promise h (inl x) = on (cases_lt x.0 reached) (cases_lt x.1 reached)
  where
    on : (x.0 < reached) ⊎ (reached ≤ x.0) → (x.1 < reached) ⊎ (reached ≤ x.1) → HasRider rates (from_stop rates p reached) (served ++ served_of rates.stop (course_of p) reached) r promise
    on (inl a) (inl b) = inr (inr (length served + x.0, length served + x.1, (let l = x.2 in omega arith), planned_served rates p reached served x.0 Pickup r promise h a x.3, planned_served rates p reached served x.1 Dropoff r promise h b x.4))
    on (inl a) (inr b) = inr (inl (length served + x.0, x.1 - reached, planned_served rates p reached served x.0 Pickup r promise h a x.3, planned_rest rates p reached x.1 Dropoff r promise b x.4))
    on (inr a) (inl b) = absurd (let l = x.2 in omega arith)
    on (inr a) (inr b) = inl (x.0 - reached, x.1 - reached, (let l = x.2 in omega arith), planned_rest rates p reached x.0 Pickup r promise a x.3, planned_rest rates p reached x.1 Dropoff r promise b x.4)
rider_moves rates p reached served r promise h (inr (inl x)) = on (cases_lt x.1 reached)
  where
    on : (x.1 < reached) ⊎ (reached ≤ x.1) → HasRider rates (from_stop rates p reached) (served ++ served_of rates.stop (course_of p) reached) r promise
    on (inl b) = inr (inr (x.0, length served + x.1, (let l = slice_get_within served x.0 x.2.stop x.2.stands in omega arith), served_more served _ x.0 Pickup r promise x.2, planned_served rates p reached served x.1 Dropoff r promise h b x.3))
    on (inr b) = inr (inl (x.0, x.1 - reached, served_more served _ x.0 Pickup r promise x.2, planned_rest rates p reached x.1 Dropoff r promise b x.3))
rider_moves rates p reached served r promise h (inr (inr x)) = inr (inr (x.0, x.1, x.2, served_more served _ x.0 Pickup r promise x.3, served_more served _ x.1 Dropoff r promise x.4))

-- a planned stop keeps its limit in another schedule that has it and keeps its promises
pub planned_kept : (rates : Rates) (p q : Plan) (k m : ℕ) (kind : StopKind) (r : Request) (promise : Promise) → IsKept rates q → (s : IsPlannedStop rates p k kind r promise)
    → slice_get q.stops m ≡ Some s.stop → IsPlannedStop rates q m kind r promise
planned_kept rates p q k m kind r promise h s e = record {
  stop = s.stop;
  stands = e;
  is_kind = s.is_kind;
  is_number = s.is_number;
  is_there = s.is_there;
  riders = s.riders;
  spaces = s.spaces;
  ready = s.ready;
  limit = s.limit;
  in_time = (let t = h.in_time m s.stop e in let l = s.limit in subst (λ (c : StopKind). promised_time rates.stop (course_of q) (suc m) c ≤ limit_of promise kind) s.is_kind (omega arith));
}

-- a rider's promise is kept while the schedule takes in others
pub rider_stays : (rates : Rates) (p q : Plan) (served : List Served) (r : Request) (promise : Promise) (at : Insertion) → IsKept rates q
    → ((m : ℕ) (s : Stop) → slice_get p.stops m ≡ Some s → slice_get q.stops (past_both at m) ≡ Some s) → HasRider rates p served r promise → HasRider rates q served r promise
rider_stays rates p q served r promise at h older (inl x) = inl (
  past_both at x.0,
  past_both at x.1,
  past_both-lt at x.0 x.1 x.2,
  planned_kept rates p q x.0 _ Pickup r promise h x.3 (older x.0 x.3.stop x.3.stands),
  planned_kept rates p q x.1 _ Dropoff r promise h x.4 (older x.1 x.4.stop x.4.stands),
)
rider_stays rates p q served r promise at h older (inr (inl x)) = inr (inl (x.0, past_both at x.1, x.2, planned_kept rates p q x.1 _ Dropoff r promise h x.3 (older x.1 x.3.stop x.3.stands)))
rider_stays rates p q served r promise at h older (inr (inr x)) = inr (inr x)

-- a rider who was just taken in is planned as he was promised
pub rider_starts : (rates : Rates) (q : Plan) (stops : List Stop) (at : Insertion) (r : Request) (promise : Promise) → IsKept rates q → at.i ≤ at.j → at.j ≤ length stops
    → q.stops ≡ with_both stops at (pickup_of r promise) (dropoff_of r promise) → HasRider rates q [] r promise
rider_starts rates q stops at r promise h l w e = inl (
  at.i,
  suc at.j,
  omega arith,
  record { stop = pickup_of r promise; stands = up; is_kind = refl; is_number = refl; is_there = refl; riders = refl; spaces = refl; ready = refl; limit = refl; in_time = h.in_time at.i (pickup_of r promise) up },
  record { stop = dropoff_of r promise; stands = down; is_kind = refl; is_number = refl; is_there = refl; riders = refl; spaces = refl; ready = refl; limit = refl; in_time = h.in_time (suc at.j) (dropoff_of r promise) down },
)
  where
    up : slice_get q.stops at.i ≡ Some (pickup_of r promise)
    up = ap (λ (xs : List Stop). slice_get xs at.i) e ∙ both_pickup stops at (pickup_of r promise) (dropoff_of r promise) l w

    down : slice_get q.stops (suc at.j) ≡ Some (dropoff_of r promise)
    down = ap (λ (xs : List Stop). slice_get xs (suc at.j)) e ∙ both_dropoff stops at (pickup_of r promise) (dropoff_of r promise) l w
