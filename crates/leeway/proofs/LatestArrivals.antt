use Rattle.std.proofs.Common.{◌≡◌, ℕ, zero, suc, ◌+◌, ◌-◌, ◌<◌, ◌≤◌, ◌↔◌, ◌&&◌, max, nat_le, Bool, true, List, [], ◌∷◌, length, drop, get_or, Option, Some, None, refl, sym, subst, ap, ◌∙◌, arith, add-one, length-drop}
use Rattle.std.specs.Prelude.{slice_get, slice_index, option_map}
use Rattle.std.specs.List.{insert}
use Rattle.std.proofs.lemmas.List.{drop_more, drop_all}
use Rattle.std.proofs.lemmas.Option.{slice_get-get_or, slice_get_within, slice_get-map}
use Rattle.std.proofs.lemmas.Bool.{and_parts, and_from, le-leb, leb-true}
use Rattle.road_graph.specs.declared.road.NodeNo.{NodeNo}
use Rattle.road_graph.specs.Paths.{Path, length_of}
use Rattle.stop_schedule.specs.declared.stop.Stop.{Stop}
use Rattle.stop_schedule.specs.declared.stop.StopKind.{StopKind}
use Rattle.stop_schedule.specs.declared.stop.StopKind.TheVariants.{Pickup, Dropoff}
use Rattle.stop_schedule.specs.Ahead.{is_kept, is_left_by, is_left_in_time}
use Rattle.stop_schedule.specs.Plans.{Plan, Course, course_of, halt_at}
use Rattle.stop_schedule.specs.Times.{departs, halt_time, kept_time, left_at, reached_at}
use Rattle.stop_schedule.proofs.ListLaws.{drop_from, no_stop, split}
use Rattle.stop_schedule.proofs.TimeLaws.{Holds, skip_first, halt_time-detour, is_kept-holds, holds_behind, whole, behind, course, halt_shift, departs_shift}
use Rattle.leeway.specs.Leeways.{leaves_by, limit_left, limit_reached, latest_at, latest_reached, latest_left, leaves_stop_by, slack}

module _ (stop until : ℕ) where
  latest_step : (s : Stop) (kind : StopKind) (a x t most left : ℕ) → let next = max (left + x + t) s.ready in let first = max (a + x + t) s.ready in
      kept_time kind (a + x) first ≤ s.limit → first ≤ most → (kept_time kind (left + x) next ≤ s.limit) × (next ≤ most) ↔ (left ≤ limit_reached s kind (limit_left s kind most - t) - x)
  latest_step s Pickup a x t most left k f = (λ h. omega arith, λ h. (omega arith, omega arith))
  latest_step s Dropoff a x t most left k f = (λ h. omega arith, λ h. (omega arith, omega arith))

  -- A vehicle that keeps each promise when it leaves at one moment keeps them exactly where it leaves by the latest one.
  pub latest : (halt : Option NodeNo) (a : ℕ) (stops : List Stop) (lengths : List ℕ) → Holds stop until halt a stops lengths → (left : ℕ) → Holds stop until halt left stops lengths ↔ (left ≤ leaves_by stop until halt stops lengths)
  latest halt a [] lengths h left = (λ k. k, λ k. k)
  latest halt a (s ∷ stops) [] h left = absurd h
  latest halt a (s ∷ stops) (x ∷ lengths) h left =
      let ahead = latest (Some s.node) (max (a + x + halt_time stop halt s.node) s.ready) stops lengths h.1 in
      let step = latest_step s s.kind a x (halt_time stop halt s.node) (leaves_by stop until (Some s.node) stops lengths) left h.0 ((ahead (max (a + x + halt_time stop halt s.node) s.ready)).0 h.1) in
      let here = ahead (max (left + x + halt_time stop halt s.node) s.ready) in
      (λ k. step.0 (k.0, here.0 k.1), λ k. let both = step.1 k in (both.0, here.1 both.1))

  -- reaching a stop is leaving for it over no way
  no_way : (halt : Option NodeNo) (left x : ℕ) (s : Stop) (stops : List Stop) (lengths : List ℕ) → Holds stop until halt left (s ∷ stops) (x ∷ lengths) → Holds stop until halt (left + x) (s ∷ stops) (0 ∷ lengths)
  no_way halt left x s stops lengths h = let e : left + x + 0 ≡ left + x = omega arith in rw e h

  reaches_by : (halt : Option NodeNo) (left x : ℕ) (s : Stop) (stops : List Stop) (lengths : List ℕ) → Holds stop until halt left (s ∷ stops) (x ∷ lengths) → (arrival : ℕ)
      → Holds stop until halt arrival (s ∷ stops) (0 ∷ lengths) ↔ (arrival ≤ limit_reached s s.kind (limit_left s s.kind (leaves_by stop until (Some s.node) stops lengths) - halt_time stop halt s.node))
  reaches_by halt left x s stops lengths h arrival =
      let by = latest halt (left + x) (s ∷ stops) (0 ∷ lengths) (no_way halt left x s stops lengths h) arrival in
      (λ k. let l = by.0 k in omega arith, λ k. by.1 (omega arith))

  -- A course that is kept is kept on from a stop exactly where that stop is reached by the latest arrival.
  pub keeps_by_latest : (c : Course) (i : ℕ) → length c.lengths ≡ length c.stops → i < length c.stops → is_kept stop until c ≡ true → (arrival : ℕ)
      → is_kept stop until (reached_at c i arrival) ≡ true ↔ (arrival ≤ latest_at stop until c i)
  keeps_by_latest c i many within h arrival =
      let s = get_or c.stops i no_stop in
      let x = slice_index c.lengths i in
      let there : slice_get c.stops i ≡ Some s = slice_get-get_or c.stops i no_stop within in
      let stops : drop i c.stops ≡ s ∷ drop (suc i) c.stops = rw add-one at (drop_more c.stops i no_stop within) in
      let lengths : drop i c.lengths ≡ x ∷ drop (suc i) c.lengths = rw add-one at (drop_more c.lengths i 0 (omega arith)) in
      let halts : halt_at c (suc i) ≡ Some s.node = rw there refl in
      let holds = (is_kept-holds stop until c many).0 h in
      let from_here = holds_behind stop until c.halt c.departure c.stops c.lengths i holds (omega arith) in
      let by = reaches_by (halt_at c i) (departs stop c i) x s (drop (suc i) c.stops) (drop (suc i) c.lengths) (rw (stops, lengths) at from_here) arrival in
      let test = is_kept-holds stop until (reached_at c i arrival) (omega (arith, length-drop i c.stops, length-drop (suc i) c.lengths)) in
      (λ k. rw (there, halts) (by.0 (rw stops at (test.0 k))), λ k. test.1 (rw stops (by.1 (rw (there, halts) at k))))

  pub latest_shift : (halt : Option NodeNo) (left x : ℕ) (s : Stop) (stops : List Stop) (lengths : List ℕ) (i : ℕ) → latest_at stop until (whole stop halt left x s stops lengths) (suc i) ≡ latest_at stop until (behind stop halt left x s stops lengths) i
  latest_shift halt left x s stops lengths i = go (slice_get stops i) where
    go : (o : Option Stop) → latest_reached stop until (whole stop halt left x s stops lengths) (suc i) o ≡ latest_reached stop until (behind stop halt left x s stops lengths) i o
    go None = refl
    go (Some t) = rw (halt_shift stop halt left x s stops lengths i) refl

  -- Where one stop more holds, it lies in the ellipse of its leg.
  pub in_ellipse_first : (halt halt' : Option NodeNo) (left left' w x y z : ℕ) (t s : Stop) (stops : List Stop) (lengths : List ℕ) → left + w ≤ left' + x
      → halt_time stop halt s.node ≤ halt_time stop halt' t.node + halt_time stop (Some t.node) s.node
      → Holds stop until halt left (s ∷ stops) (z ∷ lengths) → Holds stop until halt' left' (t ∷ s ∷ stops) (x ∷ y ∷ lengths) → left + (w + y) ≤ latest_at stop until (course halt left (s ∷ stops) (z ∷ lengths)) 0
  in_ellipse_first halt halt' left left' w x y z t s stops lengths l e old new =
      let by = (reaches_by halt left z s stops lengths old (left + (w + y))).0 (skip_first stop until halt halt' (left + (w + y)) left' x y 0 t s stops lengths (omega arith) e new) in
      by

  -- so also where it is put in behind others
  pub lies_in_ellipse : (n : ℕ) (halt : Option NodeNo) (left x y : ℕ) (t : Stop) (stops : List Stop) (lengths : List ℕ) → n < length stops → Holds stop until halt left stops lengths
      → Holds stop until halt left (insert stops n t) (split n x y lengths) → let c = course halt left stops lengths in departs stop c n + (x + y) ≤ latest_at stop until c n
  lies_in_ellipse n halt left x y t [] lengths l old new = absurd (omega arith)
  lies_in_ellipse n halt left x y t (s ∷ stops) [] l old new = absurd old
  lies_in_ellipse zero halt left x y t (s ∷ stops) (w ∷ lengths) l old new = in_ellipse_first halt halt left left x x y w t s stops lengths (omega arith) (halt_time-detour stop halt t.node s.node) old new
  lies_in_ellipse (suc n) halt left x y t (s ∷ stops) (w ∷ lengths) l old new =
      rw (departs_shift stop halt left w s stops lengths n, latest_shift halt left w s stops lengths n) (lies_in_ellipse n (Some s.node) _ x y t stops lengths (omega arith) old.1 new.1)

  -- and from its departure on exactly where it is left by the latest one, which is no earlier than it is ready
  pub keeps_leaving_by_latest : (c : Course) (i : ℕ) (s : Stop) → length c.lengths ≡ length c.stops → slice_get c.stops i ≡ Some s → is_kept stop until c ≡ true → (departure : ℕ)
      → is_left_in_time (slice_get c.stops i) departure && is_kept stop until (left_at c (suc i) departure) ≡ true ↔ (departure ≤ latest_left stop until c (suc i) (slice_get c.stops i))
  keeps_leaving_by_latest c i s many there h departure =
      let within = slice_get_within c.stops i s there in
      let holds = holds_behind stop until c.halt c.departure c.stops c.lengths (suc i) ((is_kept-holds stop until c many).0 h) (omega arith) in
      let by = latest (halt_at c (suc i)) (departs stop c (suc i)) (drop (suc i) c.stops) (drop (suc i) c.lengths) holds departure in
      let test = is_kept-holds stop until (left_at c (suc i) departure) (omega (arith, length-drop (suc i) c.stops, length-drop (suc i) c.lengths)) in
      subst (λ (o : Option Stop). (is_left_in_time o departure && is_kept stop until (left_at c (suc i) departure) ≡ true) ↔ (departure ≤ latest_left stop until c (suc i) o)) (sym there) (own s.kind (is_kept stop until (left_at c (suc i) departure)) (λ k. by.0 (test.0 k)) (λ k. test.1 (by.1 k)))
    where
      own : (kind : StopKind) (ahead : Bool) → (ahead ≡ true → departure ≤ leaves_stop_by stop until c (suc i)) → (departure ≤ leaves_stop_by stop until c (suc i) → ahead ≡ true)
          → is_left_by s kind departure && ahead ≡ true ↔ (departure ≤ limit_left s kind (leaves_stop_by stop until c (suc i)))
      own Pickup ahead f g = (
        λ k. let both = and_parts (nat_le departure s.limit) ahead k in let l = leb-true departure s.limit both.0 in let m = f both.1 in omega arith,
        λ k. and_from (nat_le departure s.limit) ahead (le-leb departure s.limit (omega arith)) (g (omega arith)),
      )
      own Dropoff ahead f g = (λ k. f k, λ k. g k)

  -- the last stop is left by the end of service
  pub leaves_last : (c : Course) (k : ℕ) → length c.stops ≤ k → leaves_stop_by stop until c k ≡ until
  leaves_last c k l = rw (drop_all k c.stops l) refl

  -- and each other so that the next one is reached by the latest arrival there
  pub leaves_before : (c : Course) (k l x latest reached : ℕ) (s : Stop) → l ≡ suc k → slice_get c.stops k ≡ Some s → slice_get c.lengths k ≡ Some x → latest ≡ leaves_stop_by stop until c l
      → reached ≡ limit_reached s s.kind (limit_left s s.kind latest - halt_time stop (halt_at c k) s.node) → reached - x ≡ leaves_stop_by stop until c k
  leaves_before c k l x latest reached s e there leg is at_last =
      let stops = drop_from c.stops k s there in
      let lengths = drop_from c.lengths k x leg in
      rw (at_last, is, e, stops, lengths, there) refl

  -- so a loop from the last stop back to the first keeps the latest departure
  pub leaves_more : (p : Plan) (k l x latest left takes free reached new : ℕ) (halt : Option NodeNo) (leg : Path) (s : Stop) → l ≡ suc k → slice_get p.stops k ≡ Some s → slice_get p.legs k ≡ Some leg
      → latest ≡ leaves_stop_by stop until (course_of p) l → halt ≡ halt_at (course_of p) k → takes ≡ halt_time stop halt s.node → left ≡ limit_left s s.kind latest → free ≡ left - takes → reached ≡ limit_reached s s.kind free
      → x ≡ length_of leg → new ≡ reached - x → new ≡ leaves_stop_by stop until (course_of p) k
  leaves_more p k l x latest left takes free reached new halt leg s e there way is halts t a b r long n =
      n ∙ leaves_before (course_of p) k l x latest reached s e there (slice_get-map length_of p.legs k ∙ ap (option_map length_of) way ∙ ap (λ (m : ℕ). Some m) (sym long)) is (r ∙ rw (b, a, t, halts) refl)

  pub latest_left_is : (c : Course) (i l latest left : ℕ) (s : Stop) → l ≡ suc i → slice_get c.stops i ≡ Some s → latest ≡ leaves_stop_by stop until c l → left ≡ limit_left s s.kind latest
      → left ≡ latest_left stop until c (suc i) (slice_get c.stops i)
  latest_left_is c i l latest left s e there is by = by ∙ rw (is, e) (sym (ap (latest_left stop until c (suc i)) there))

  -- In a course that is kept each leg is no longer than its way may be.
  pub slack_holds_leg : (c : Course) (i : ℕ) → length c.lengths ≡ length c.stops → i < length c.stops → is_kept stop until c ≡ true → slice_index c.lengths i ≤ slack stop until c i
  slack_holds_leg c i many within h =
      let s = get_or c.stops i no_stop in
      let x = slice_index c.lengths i in
      let there : slice_get c.stops i ≡ Some s = slice_get-get_or c.stops i no_stop within in
      let stops : drop i c.stops ≡ s ∷ drop (suc i) c.stops = rw add-one at (drop_more c.stops i no_stop within) in
      let lengths : drop i c.lengths ≡ x ∷ drop (suc i) c.lengths = rw add-one at (drop_more c.lengths i 0 (omega arith)) in
      let halts : halt_at c (suc i) ≡ Some s.node = rw there refl in
      let from_here = holds_behind stop until c.halt c.departure c.stops c.lengths i ((is_kept-holds stop until c many).0 h) (omega arith) in
      let here = rw (stops, lengths) at from_here in
      let by = (reaches_by (halt_at c i) (departs stop c i) x s (drop (suc i) c.stops) (drop (suc i) c.lengths) here (departs stop c i + x)).0 (no_way (halt_at c i) (departs stop c i) x s (drop (suc i) c.stops) (drop (suc i) c.lengths) here) in
      let latest : departs stop c i + x ≤ latest_at stop until c i = rw (there, halts) by in
      omega arith
