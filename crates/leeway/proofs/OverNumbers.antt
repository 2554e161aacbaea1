use Rattle.std.proofs.Common.{◌≡◌, ℕ, zero, suc, ◌+◌, ◌<◌, ◌≤◌, ◌&&◌, nat_le, true, List, [], ◌∷◌, map, length, Option, refl, ap, ◌∙◌, arith}
use Rattle.std.specs.Prelude.{slice_index}
use Rattle.std.specs.List.{insert}
use Rattle.std.proofs.lemmas.Bool.{and_parts, leb-true}
use Rattle.std.proofs.lemmas.List.{length-map}
use Rattle.road_graph.specs.declared.road.NodeNo.{NodeNo}
use Rattle.road_graph.specs.Paths.{length_of}
use Rattle.stop_schedule.specs.declared.request.Request.{Request}
use Rattle.stop_schedule.specs.declared.stop.Front.{Front}
use Rattle.stop_schedule.specs.declared.stop.Insertion.{Insertion}
use Rattle.stop_schedule.specs.declared.stop.Stop.{Stop}
use Rattle.stop_schedule.specs.Keeping.{keeps_along, keeps, is_feasible}
use Rattle.stop_schedule.specs.Lists.{with_legs, new_course, pickup_of, dropoff_of, started, unpromised}
use Rattle.stop_schedule.specs.Plans.{Plan, Course, course_of, halting}
use Rattle.stop_schedule.specs.Rates.{Rates}
use Rattle.stop_schedule.specs.Times.{departs}
use Rattle.stop_schedule.proofs.ListLaws.{length-with_both, split, without_second, with_both_is, length-split, length-put, StartsAt, starts_at, without_first}
use Rattle.stop_schedule.proofs.TimeLaws.{Holds, course, is_kept-holds, kept_of_keeps}
use Rattle.leeway.specs.Leeways.{latest_at, slack}
use Rattle.leeway.proofs.LatestArrivals.{in_ellipse_first, lies_in_ellipse}

-- what is said of an insertion's lengths: the way from each place to the next is no longer than by way of the new stops
pub record AreDetours (i j m left left' x0 x y u v w : ℕ) (zs : List ℕ) : Type 0 where
  -- from the place into the pickup
  pub into : 0 < i → x0 ≤ x
  pub into_first : i ≡ 0 → left + x0 ≤ left' + x
  -- out of the pickup to the next older stop
  pub out : i < j → w ≤ y
  pub out_same : i ≡ j → j < m → w ≤ y + v
  -- the old leg of the dropoff
  pub leg : i < j → j < m → slice_index zs j ≤ u + v
  -- the old leg of the pickup, and the way into the dropoff where both have one leg
  pub before : 0 < i → slice_index (split j u v zs) i ≤ x + y
  pub before_first : i ≡ 0 → left + slice_index (split j u v zs) 0 ≤ left' + x + y

module _ (stop until : ℕ) where
  -- one of two new stops alone, which is the first one, lies in the ellipse of its leg
  pub first_in_ellipse : (i : ℕ) (halt halt' : Option NodeNo) (left left' x0 x w : ℕ) (p : Stop) (stops : List Stop) (lengths : List ℕ) → i < length stops → StartsAt stop i p.node halt halt' left left'
      → (0 < i → x0 ≤ x) → (i ≡ 0 → left + x0 ≤ left' + x) → Holds stop until halt left stops lengths → Holds stop until halt' left' (insert stops i p) (split i x w lengths)
      → let c = course halt left stops lengths in departs stop c i + (x0 + w) ≤ latest_at stop until c i
  first_in_ellipse i halt halt' left left' x0 x w p [] lengths l start near far old new = absurd (omega arith)
  first_in_ellipse i halt halt' left left' x0 x w p (s ∷ stops) [] l start near far old new = absurd old
  first_in_ellipse zero halt halt' left left' x0 x w p (s ∷ stops) (z ∷ lengths) l start near far old new =
      in_ellipse_first stop until halt halt' left left' x0 x w z p s stops lengths (far refl) (start.first refl s.node) old new
  first_in_ellipse (suc i) halt halt' left left' x0 x w p (s ∷ stops) (z ∷ lengths) l start near far old new =
      let here = lies_in_ellipse stop until (suc i) halt left x w p (s ∷ stops) (z ∷ lengths) l old (rw (start.halts (omega arith), start.leaves (omega arith)) new) in
      let shorter : x0 ≤ x = near (omega arith) in
      omega arith

  -- the pickup of an insertion that holds lies in the ellipse of its leg
  pub pickup_in_ellipse : (i j : ℕ) (halt halt' : Option NodeNo) (left left' x0 x y u v w : ℕ) (p d : Stop) (stops : List Stop) (lengths : List ℕ) → length lengths ≡ length stops → i ≤ j → j ≤ length stops → i < length stops
      → StartsAt stop i p.node halt halt' left left' → AreDetours i j (length stops) left left' x0 x y u v w lengths → Holds stop until halt left stops lengths
      → Holds stop until halt' left' (insert (insert stops j d) i p) (split i x y (split j u v lengths)) → let c = course halt left stops lengths in departs stop c i + (x0 + w) ≤ latest_at stop until c i
  pickup_in_ellipse i j halt halt' left left' x0 x y u v w p d stops lengths many o l within start ways old new =
      first_in_ellipse i halt halt' left left' x0 x w p stops lengths within start ways.into ways.into_first old
      (without_second stop until i j halt' left' x y u v w p d stops lengths many o l ways.leg ways.out ways.out_same new)

  -- and so does its dropoff
  pub dropoff_in_ellipse : (i j : ℕ) (halt halt' : Option NodeNo) (left left' x0 x y u v w : ℕ) (p d : Stop) (stops : List Stop) (lengths : List ℕ) → length lengths ≡ length stops → i ≤ j → j < length stops
      → StartsAt stop i p.node halt halt' left left' → AreDetours i j (length stops) left left' x0 x y u v w lengths → Holds stop until halt left stops lengths
      → Holds stop until halt' left' (insert (insert stops j d) i p) (split i x y (split j u v lengths)) → let c = course halt left stops lengths in departs stop c j + (u + v) ≤ latest_at stop until c j
  dropoff_in_ellipse i j halt halt' left left' x0 x y u v w p d stops lengths many o l start ways old new =
      let more = length-put j d stops (omega arith) in
      let ways_more = length-split j u v lengths (omega arith) in
      lies_in_ellipse stop until j halt left u v d stops lengths l old
      (without_first stop until i halt halt' left left' x y p (insert stops j d) (split j u v lengths) (omega arith) (omega arith) (omega arith) start (λ a b. ways.before a) ways.before_first new)

module _ (rates : Rates) (p : Plan) (front : Front) (r : Request) (at : Insertion) (lengths : List ℕ) (x0 x y u v w : ℕ) (many : length p.legs ≡ length p.stops) (place : front.time ≡ p.departure → front.node ≡ p.place)
    (feasible : is_feasible rates p front r at lengths ≡ true) (shape : with_legs (map length_of p.legs) at lengths ≡ split at.i x y (split at.j u v (map length_of p.legs)))
  where
    abbrev new : Course
    new = new_course p front r at lengths

    abbrev pickup : Stop
    pickup = pickup_of r (unpromised p.until)

    abbrev dropoff : Stop
    dropoff = dropoff_of r (unpromised p.until)

    ordered : (at.i ≤ at.j) × (at.j ≤ length p.stops) × (keeps_along rates.stop p new ≡ true)
    ordered =
        let all = and_parts (nat_le at.i at.j && nat_le at.j (length p.stops)) (keeps_along rates.stop p new) feasible in
        let order = and_parts (nat_le at.i at.j) (nat_le at.j (length p.stops)) all.0 in
        (leb-true at.i at.j order.0, leb-true at.j (length p.stops) order.1, all.1)

    ways_many : length (map length_of p.legs) ≡ length p.stops
    ways_many = length-map p.legs length_of ∙ many

    -- the new list holds from where it starts
    pub new_holds : Holds rates.stop p.until (halting (started at front p)) (started at front p).departure (insert (insert p.stops at.j dropoff) at.i pickup) (split at.i x y (split at.j u v (map length_of p.legs)))
    new_holds =
        let stops = length-with_both p.stops at pickup dropoff ordered.0 ordered.1 in
        let inner = length-split at.j u v (map length_of p.legs) (omega (arith, ways_many, ordered)) in
        let outer = length-split at.i x y (split at.j u v (map length_of p.legs)) (omega (arith, ways_many, ordered)) in
        let long : length (with_legs (map length_of p.legs) at lengths) ≡ length p.stops + 2 = ap length shape ∙ omega (arith, ways_many) in
        let kept = kept_of_keeps rates.stop p new ordered.2 (omega (arith, stops)) in
        let holds = (is_kept-holds rates.stop p.until new (omega (arith, long, stops))).0 kept in
        rw (with_both_is p.stops at pickup dropoff ordered.0 ordered.1, shape) at holds

    module _ (kept : keeps rates p ≡ true) (ways : AreDetours at.i at.j (length p.stops) p.departure (started at front p).departure x0 x y u v w (map length_of p.legs)) where
      old_holds : 0 < length p.stops → Holds rates.stop p.until (halting p) p.departure p.stops (map length_of p.legs)
      old_holds some = (is_kept-holds rates.stop p.until (course_of p) ways_many).0 (kept_of_keeps rates.stop p (course_of p) kept some)

      -- A feasible insertion's pickup lies in the ellipse of leg i, and its dropoff in that of leg j.
      pub pickup_within : at.i < length p.stops → x0 + w ≤ slack rates.stop p.until (course_of p) at.i
      pickup_within l =
          let reached = pickup_in_ellipse rates.stop p.until at.i at.j (halting p) (halting (started at front p)) p.departure (started at front p).departure x0 x y u v w pickup dropoff p.stops (map length_of p.legs) ways_many ordered.0 ordered.1 l
          (starts_at rates.stop front p at r.pickup place) ways (old_holds (omega arith)) new_holds in
          omega arith

      pub dropoff_within : at.j < length p.stops → u + v ≤ slack rates.stop p.until (course_of p) at.j
      dropoff_within l =
          let reached = dropoff_in_ellipse rates.stop p.until at.i at.j (halting p) (halting (started at front p)) p.departure (started at front p).departure x0 x y u v w pickup dropoff p.stops (map length_of p.legs) ways_many ordered.0 l
          (starts_at rates.stop front p at r.pickup place) ways (old_holds (omega arith)) new_holds in
          omega arith
