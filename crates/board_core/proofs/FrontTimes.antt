use Rattle.std.proofs.Common.{◌≡◌, ℕ, zero, suc, ◌+◌, ◌-◌, ◌<◌, ◌≤◌, Bool, true, false, cond, List, [], ◌∷◌, map, length, Some, refl, sym, ap, subst, arith}
use Rattle.std.specs.Prelude.{slice_get, slice_index, nat_le, nat_lt}
use Rattle.std.proofs.lemmas.Bool.{ltb-true}
use Rattle.road_graph.specs.declared.road.NodeNo.{NodeNo}
use Rattle.road_graph.specs.Paths.{Path, length_of, IsPath}
use Rattle.stop_schedule.specs.declared.stop.Front.{Front}
use Rattle.stop_schedule.specs.Fronts.{first_reached, front_on, front_of}
use Rattle.stop_schedule.specs.Keeping.{keeps}
use Rattle.stop_schedule.specs.Plans.{Plan, Course, course_of}
use Rattle.stop_schedule.specs.Rates.{Rates}
use Rattle.stop_schedule.specs.Times.{departs}
use Rattle.board_core.proofs.Ahead.{reaches}
use Rattle.board_core.proofs.Kept.{kept_from}

-- offsets don't fall along a walk
path_rises : (w : Path) → IsPath w → (k d : ℕ) → k + d < length w.offsets → slice_index w.offsets k ≤ slice_index w.offsets (k + d)
path_rises w h k zero l = let e : k + 0 ≡ k = omega arith in let f : slice_index w.offsets (k + 0) ≡ slice_index w.offsets k = ap (slice_index w.offsets) e in omega arith
path_rises w h k (suc d) l = let e : k + suc d ≡ k + d + 1 = omega arith in let f : slice_index w.offsets (k + suc d) ≡ slice_index w.offsets (k + d + 1) = ap (slice_index w.offsets) e in
    let before = path_rises w h k d (omega arith) in let next = h.rising (k + d) (omega arith) in omega arith

-- none is past the length
path_within : (w : Path) → IsPath w → (k : ℕ) → k < length w.offsets → slice_index w.offsets k ≤ length_of w
path_within w h k l = let e : k + (length w.offsets - 1 - k) ≡ length w.offsets - 1 = omega arith in let f : slice_index w.offsets (k + (length w.offsets - 1 - k)) ≡ length_of w = ap (slice_index w.offsets) e in
    let r = path_rises w h k (length w.offsets - 1 - k) (omega arith) in omega arith

-- a front is no further than the last node
reached_within : (place : NodeNo) (departure now most : ℕ) (nodes : List NodeNo) (offsets : List ℕ) → ((k : ℕ) → k < length offsets → slice_index offsets k ≤ most)
    → (first_reached place departure now nodes offsets).time ≤ departure + most
reached_within place departure now most [] offsets h = omega arith
reached_within place departure now most (n ∷ nodes) [] h = omega arith
reached_within place departure now most (n ∷ nodes) (o ∷ offsets) h = on (nat_le now (departure + o)) (h 0 (omega arith)) (reached_within place departure now most nodes offsets (λ k l. h (suc k) (omega arith)))
  where
    on : (b : Bool) → o ≤ most → (first_reached place departure now nodes offsets).time ≤ departure + most
        → (cond b (let f : Front = record { node = n; time = departure + o; offset = o } in f) (first_reached place departure now nodes offsets)).time ≤ departure + most
    on true first rest = omega arith
    on false first rest = rest

-- A vehicle with a stop is at its front no later than at that stop.
pub front_by : (p : Plan) (now : ℕ) (leg : Path) → slice_get p.legs 0 ≡ Some leg → IsPath leg → (front_of p now).time ≤ p.departure + length_of leg
front_by p now leg e path = on p.legs e
  where
    on : (legs : List Path) → slice_get legs 0 ≡ Some leg → (front_on p.place p.departure now legs).time ≤ p.departure + length_of leg
    on [] e = cc
    on (l ∷ legs) e = let same : l ≡ leg = cc in subst (λ (w : Path). (front_on p.place p.departure now (w ∷ legs)).time ≤ p.departure + length_of leg) (sym same) (turn (nat_lt now p.departure))
      where
        turn : (b : Bool) → (cond b (let f : Front = record { node = p.place; time = p.departure; offset = 0 } in f) (first_reached p.place p.departure now leg.nodes leg.offsets)).time ≤ p.departure + length_of leg
        turn true = omega arith
        turn false = reached_within p.place p.departure now (length_of leg) leg.nodes leg.offsets (path_within leg path)

-- It isn't there before the clock, where the clock isn't past that stop.
pub front_from : (p : Plan) (now : ℕ) (leg : Path) → slice_get p.legs 0 ≡ Some leg → IsPath leg → now ≤ p.departure + length_of leg → now ≤ (front_of p now).time
front_from p now leg e path h = on p.legs e
  where
    on : (legs : List Path) → slice_get legs 0 ≡ Some leg → now ≤ (front_on p.place p.departure now legs).time
    on [] e = cc
    on (l ∷ legs) e = let same : l ≡ leg = cc in subst (λ (w : Path). now ≤ (front_on p.place p.departure now (w ∷ legs)).time) (sym same) (turn (nat_lt now p.departure) refl)
      where
        turn : (b : Bool) → nat_lt now p.departure ≡ b → now ≤ (cond b (let f : Front = record { node = p.place; time = p.departure; offset = 0 } in f) (first_reached p.place p.departure now leg.nodes leg.offsets)).time
        turn true q = let t = ltb-true now p.departure q in omega arith
        turn false q = let many = path.many in let some = path.some in reaches p.place p.departure now leg.nodes leg.offsets (length leg.offsets - 1) (omega arith) (omega arith) h

-- times rise
pub departs_rise : (stop : ℕ) (c : Course) (k d : ℕ) → departs stop c k ≤ departs stop c (k + d)
departs_rise stop c k zero = let e : k + 0 ≡ k = omega arith in let f : departs stop c (k + 0) ≡ departs stop c k = ap (departs stop c) e in omega arith
departs_rise stop c k (suc d) = let e : k + suc d ≡ suc (k + d) = omega arith in let f : departs stop c (k + suc d) ≡ departs stop c (suc (k + d)) = ap (departs stop c) e in
    let before = departs_rise stop c k d in omega arith

-- a schedule that keeps reaches its first stop in service
pub first_in_service : (rates : Rates) (p : Plan) → keeps rates p ≡ true → 0 < length p.stops → p.departure + slice_index (map length_of p.legs) 0 ≤ p.until
first_in_service rates p h l = let over = (kept_from rates p h).over l in let rise = departs_rise rates.stop (course_of p) 1 (length p.stops - 1) in
    let e : 1 + (length p.stops - 1) ≡ length p.stops = omega arith in let f : departs rates.stop (course_of p) (1 + (length p.stops - 1)) ≡ departs rates.stop (course_of p) (length p.stops) = ap (departs rates.stop (course_of p)) e in
    omega arith

-- the length of the first leg
pub first_length : (legs : List Path) (leg : Path) → slice_get legs 0 ≡ Some leg → slice_index (map length_of legs) 0 ≡ length_of leg
first_length [] leg e = cc
first_length (l ∷ legs) leg e = let same : l ≡ leg = cc in ap length_of same
