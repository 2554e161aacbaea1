use Rattle.std.proofs.Common.{◌≡◌, ℕ, zero, suc, ◌+◌, ◌-◌, ◌<◌, ◌≤◌, ◌==◌, ◌&&◌, ◌⊎◌, inl, inr, Bool, true, false, cond, List, [], ◌∷◌, ◌++◌, take, drop, map, length, sym, refl, ap, subst, arith}
use Rattle.std.specs.Prelude.{slice_index, nat_le, nat_lt}
use Rattle.std.proofs.lemmas.Bool.{leb-true, leb-false, le-leb, ltb-true, eqb-true, eqb-false, eq-eqb, cond-true, cond-false, ne_eqb, cases_eq}
use Rattle.road_graph.specs.declared.road.NodeNo.{NodeNo}
use Rattle.road_graph.specs.Paths.{Path, length_of}
use Rattle.road_graph.specs.Roads.{Roads}
use Rattle.road_graph.specs.Walks.{Joins}
use Rattle.stop_schedule.specs.declared.stop.Front.{Front}
use Rattle.stop_schedule.specs.declared.stop.Insertion.{Insertion}
use Rattle.stop_schedule.specs.declared.stop.Stop.{Stop}
use Rattle.stop_schedule.specs.Fronts.{IsAhead, first_reached, front_on, front_of}
use Rattle.stop_schedule.specs.Lists.{with_legs, start_of, inserted_in}
use Rattle.stop_schedule.specs.Plans.{Plan, Course, course_of}
use Rattle.stop_schedule.specs.Rates.{Rates}
use Rattle.stop_schedule.specs.Times.{arrives}
use Rattle.stop_advance.specs.Advance.{reached_of, reached_by, advanced_in}
use Rattle.board_core.proofs.Chains.{Chained, chained_many}
use Rattle.board_core.proofs.Advances.{promised_rest}
use Rattle.stop_schedule.specs.declared.stop.StopKind.TheVariants.{Dropoff}
use Rattle.std.proofs.lemmas.List.{length-drop}
use Rattle.stop_schedule.specs.declared.request.Request.{Request}
use Rattle.stop_schedule.specs.declared.stop.Promise.{Promise}

-- no later stop is reached before it either
pub arrives_ahead : (rates : Rates) (p : Plan) (now : ℕ) → IsAhead p now → (k : ℕ) → k < length p.stops → now ≤ arrives rates.stop (course_of p) (suc k)
arrives_ahead rates p now h zero l = h (omega arith)
arrives_ahead rates p now h (suc k) l = let before = arrives_ahead rates p now h k (omega arith) in omega arith

-- the first stop that isn't reached by a moment is reached later
pub reached_next : (stop : ℕ) (c : Course) (now n : ℕ) → reached_of stop c now n < n → now < arrives stop c (suc (reached_of stop c now n))
reached_next stop c now zero h = absurd (omega arith)
reached_next stop c now (suc n) h = on ((reached_of stop c now n == n) && nat_le (arrives stop c (suc n)) now) refl h (reached_next stop c now n)
  where
    here : (b : Bool) → (reached_of stop c now n == n) ≡ b → (b && nat_le (arrives stop c (suc n)) now) ≡ false → (reached_of stop c now n < n → now < arrives stop c (suc (reached_of stop c now n))) → reached_of stop c now n < suc n → now < arrives stop c (suc (reached_of stop c now n))
    here true e f before l = let q = eqb-true (reached_of stop c now n) n e in let t = leb-false (arrives stop c (suc n)) now f in
        subst (λ (k : ℕ). now < arrives stop c (suc k)) (sym q) t
    here false e f before l = before (let q = eqb-false (reached_of stop c now n) n e in omega arith)

    on : (b : Bool) → ((reached_of stop c now n == n) && nat_le (arrives stop c (suc n)) now) ≡ b → cond b (suc n) (reached_of stop c now n) < suc n
        → (reached_of stop c now n < n → now < arrives stop c (suc (reached_of stop c now n))) → now < arrives stop c (suc (cond b (suc n) (reached_of stop c now n)))
    on true e h before = absurd (omega arith)
    on false e h before = here (reached_of stop c now n == n) refl e before h

-- the rest of a schedule is ahead of the moment to which it moved
pub rest_ahead : (rates : Rates) (p : Plan) (now : ℕ) → IsAhead (advanced_in rates p now) now
rest_ahead rates p now l = let d = length-drop (reached_by rates p now) p.stops in let n = reached_next rates.stop (course_of p) now (length p.stops) (omega arith) in
    let e : arrives rates.stop (course_of (advanced_in rates p now)) 1 ≡ arrives rates.stop (course_of p) (suc (reached_by rates p now + 0)) = promised_rest rates p (reached_by rates p now) 0 Dropoff in
    let f : suc (reached_by rates p now + 0) ≡ suc (reached_by rates p now) = omega arith in let g = ap (arrives rates.stop (course_of p)) f in omega arith

-- a vehicle under way reaches a node of its leg at a moment or later, where it reaches the end of it no earlier
pub reaches : (place : NodeNo) (departure now : ℕ) (nodes : List NodeNo) (offsets : List ℕ) (k : ℕ) → length offsets ≡ length nodes → k < length offsets → now ≤ departure + slice_index offsets k → now ≤ (first_reached place departure now nodes offsets).time
reaches place departure now [] offsets k e l h = absurd (omega arith)
reaches place departure now (n ∷ nodes) [] k e l h = absurd (omega arith)
reaches place departure now (n ∷ nodes) (o ∷ offsets) zero e l h = let t = le-leb now (departure + o) h in
    subst (λ (b : Bool). now ≤ (cond b (let f : Front = record { node = n; time = departure + o; offset = o } in f) (first_reached place departure now nodes offsets)).time) (sym t) h
reaches place departure now (n ∷ nodes) (o ∷ offsets) (suc k) e l h = on (nat_le now (departure + o)) refl (reaches place departure now nodes offsets k (omega arith) (omega arith) h)
  where
    on : (b : Bool) → nat_le now (departure + o) ≡ b → now ≤ (first_reached place departure now nodes offsets).time
        → now ≤ (cond b (let f : Front = record { node = n; time = departure + o; offset = o } in f) (first_reached place departure now nodes offsets)).time
    on true e rest = leb-true now (departure + o) e
    on false e rest = rest

leg_some : (u v : NodeNo) (leg : Path) → Joins u v leg.nodes → 0 < length leg.nodes
leg_some u v leg h = on leg.nodes h
  where
    on : (nodes : List NodeNo) → Joins u v nodes → 0 < length nodes
    on [] h = absurd h
    on (n ∷ nodes) h = omega arith

-- a vehicle turns to a new stop at the clock or later
pub front_ahead : (g : Roads) (rates : Rates) (p : Plan) (now : ℕ) → Chained g p.place p.stops p.legs → IsAhead p now → now ≤ (front_of p now).time
front_ahead g rates p now c h = on p.stops p.legs c h
  where
    on : (stops : List Stop) (legs : List Path) → Chained g p.place stops legs → (0 < length stops → now ≤ p.departure + slice_index (map length_of legs) 0) → now ≤ (front_on p.place p.departure now legs).time
    on [] [] c h = omega arith
    on [] (l ∷ legs) c h = absurd c
    on (s ∷ stops) [] c h = absurd c
    on (s ∷ stops) (l ∷ legs) c h = turn (nat_lt now p.departure) refl
      where
        turn : (b : Bool) → nat_lt now p.departure ≡ b → now ≤ (cond b (let f : Front = record { node = p.place; time = p.departure; offset = 0 } in f) (first_reached p.place p.departure now l.nodes l.offsets)).time
        turn true e = let t = ltb-true now p.departure e in omega arith
        turn false e = let many = c.0.measured.many in let some = leg_some p.place s.node l c.0.joins in let a = h (omega arith) in
            reaches p.place p.departure now l.nodes l.offsets (length l.offsets - 1) many (omega arith) a

-- where the pickup comes later, the first leg stays
first_leg : (legs walks : List Path) (at : Insertion) → 0 < at.i → 0 < length legs → slice_index (map length_of (with_legs legs at walks)) 0 ≡ slice_index (map length_of legs) 0
first_leg [] walks at h l = absurd (omega arith)
first_leg (leg ∷ legs) walks at h l = on at.i h (at.i == at.j)
  where
    on : (i : ℕ) → 0 < i → (b : Bool)
        → slice_index (map length_of (cond b (take i (leg ∷ legs) ++ walks ++ drop (i + 1) (leg ∷ legs)) (take i (leg ∷ legs) ++ take 2 walks ++ take (at.j - i - 1) (drop (i + 1) (leg ∷ legs)) ++ drop 2 walks ++ drop (at.j + 1) (leg ∷ legs)))) 0 ≡ length_of leg
    on zero h b = absurd (omega arith)
    on (suc i) h true = refl
    on (suc i) h false = refl

-- a schedule that takes in a request stays ahead of the clock, where its front is
pub new_ahead_from : (p : Plan) (front : Front) (now : ℕ) (r : Request) (at : Insertion) (promise : Promise) (walks : List Path) → length p.legs ≡ length p.stops → now ≤ front.time → at.i ≤ at.j → at.j ≤ length p.stops
    → IsAhead p now → IsAhead (inserted_in p front r at promise walks) now
new_ahead_from p front now r at promise walks m f l w h _ = on (cases_eq at.i 0)
  where
    on : (at.i ≡ 0) ⊎ (at.i ≡ 0 → ⊥) → now ≤ start_of at front.time p.departure + slice_index (map length_of (with_legs p.legs at walks)) 0
    on (inl e) = let s : start_of at front.time p.departure ≡ front.time = cond-true _ _ _ (eq-eqb at.i 0 e) in omega arith
    on (inr e) = let s : start_of at front.time p.departure ≡ p.departure = cond-false _ _ _ (ne_eqb at.i 0 e) in
        let t = first_leg p.legs walks at (omega arith) (omega arith) in let a = h (omega arith) in omega arith

-- so also over least walks
pub new_ahead : (g : Roads) (rates : Rates) (p : Plan) (now : ℕ) (r : Request) (at : Insertion) (promise : Promise) (walks : List Path) → Chained g p.place p.stops p.legs → at.i ≤ at.j → at.j ≤ length p.stops
    → IsAhead p now → IsAhead (inserted_in p (front_of p now) r at promise walks) now
new_ahead g rates p now r at promise walks c l w h = new_ahead_from p (front_of p now) now r at promise walks (chained_many g p.place p.stops p.legs c) (front_ahead g rates p now c h) l w h
