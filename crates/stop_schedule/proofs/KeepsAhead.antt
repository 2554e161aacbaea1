use Rattle.std.proofs.Common.{◌≡◌, ℕ, zero, suc, ◌+◌, ◌<◌, ◌≤◌, ◌&&◌, max, nat_le, Bool, true, false, List, [], ◌∷◌, drop, map, length, Option, Some, refl, sym, ap, ◌∙◌, arith, add-one, length-drop}
use Rattle.std.specs.Prelude.{slice_get, option_map}
use Rattle.std.proofs.lemmas.Bool.{le-leb, lt-leb}
use Rattle.std.proofs.lemmas.List.{drop_all}
use Rattle.std.proofs.lemmas.Option.{none-some, same_Some, slice_get_within, slice_get-map}
use Rattle.road_graph.specs.declared.road.NodeNo.{NodeNo}
use Rattle.road_graph.specs.Paths.{Path, length_of}
use Rattle.stop_schedule.specs.declared.stop.Stop.{Stop}
use Rattle.stop_schedule.specs.Ahead.{is_kept}
use Rattle.stop_schedule.specs.Bounds.{IsBounded}
use Rattle.stop_schedule.specs.Plans.{Plan, Course, course_of, halt_at}
use Rattle.stop_schedule.specs.Times.{halt_time, kept_time, left_at, reached_at}
use Rattle.stop_schedule.proofs.Holds.{holds, holds-Holds}
use Rattle.stop_schedule.proofs.IsKept.{is_kept-holds, many_lengths}

-- from an element on
pub drop_from : {X : Type 0} (xs : List X) (k : ℕ) (x : X) → slice_get xs k ≡ Some x → drop k xs ≡ x ∷ drop (suc k) xs
drop_from [] k x e = absurd (none-some x e)
drop_from (y ∷ xs) zero x e = rw (same_Some y x e) refl
drop_from (y ∷ xs) (suc k) x e = drop_from xs k x e

-- two tests that pass in the same cases
same_test : (a b : Bool) → (a ≡ true → b ≡ true) → (b ≡ true → a ≡ true) → a ≡ b
same_test true b f g = sym (f refl)
same_test false true f g = g refl
same_test false false f g = refl

module _ (stop until : ℕ) where
  -- a course is kept exactly where the test along its stops passes
  pub is_kept-is : (c : Course) → length c.lengths ≡ length c.stops → is_kept stop until c ≡ holds stop until c.halt c.departure c.stops c.lengths
  is_kept-is c many =
      let kept = is_kept-holds stop until c many in
      let test = holds-Holds stop until c.halt c.departure c.stops c.lengths in
      same_test (is_kept stop until c) (holds stop until c.halt c.departure c.stops c.lengths) (λ h. test.1 (kept.0 h)) (λ h. kept.1 (test.0 h))

  -- so also from a stop on
  pub is_kept-from : (c : Course) (i departure : ℕ) → length c.lengths ≡ length c.stops → is_kept stop until (left_at c i departure) ≡ holds stop until (halt_at c i) departure (drop i c.stops) (drop i c.lengths)
  is_kept-from c i departure many = is_kept-is (left_at c i departure) (omega (arith, length-drop i c.stops, length-drop i c.lengths))

  -- the last stop is left by the end of service
  pub holds_last : (halt : Option NodeNo) (left k : ℕ) (stops : List Stop) (lengths : List ℕ) → length stops ≤ k → nat_le left until ≡ holds stop until halt left (drop k stops) lengths
  holds_last halt left k stops lengths l = rw (drop_all k stops l) refl

  -- one stop more
  holds_step : (halt : Option NodeNo) (left k x reached next : ℕ) (stops : List Stop) (lengths : List ℕ) (s : Stop) → slice_get stops k ≡ Some s → slice_get lengths k ≡ Some x → reached ≡ left + x → next ≡ max (reached + halt_time stop halt s.node) s.ready
      → holds stop until halt left (drop k stops) (drop k lengths) ≡ nat_le (kept_time s.kind reached next) s.limit && holds stop until (Some s.node) next (drop (suc k) stops) (drop (suc k) lengths)
  holds_step halt left k x reached next stops lengths s there long r n = rw (drop_from stops k s there, drop_from lengths k x long, n, r) refl

  module _ (p : Plan) (halt : Option NodeNo) (left k x takes reached next kept : ℕ) (s : Stop) (leg : Path) (there : slice_get p.stops k ≡ Some s) (way : slice_get p.legs k ≡ Some leg) (long : x ≡ length_of leg)
      (r : reached ≡ left + x) (t : takes ≡ halt_time stop halt s.node) (n : next ≡ max (reached + takes) s.ready) (which : kept ≡ kept_time s.kind reached next)
    where
      here : holds stop until halt left (drop k p.stops) (drop k (map length_of p.legs)) ≡ nat_le kept s.limit && holds stop until (Some s.node) next (drop (suc k) p.stops) (drop (suc k) (map length_of p.legs))
      here =
          holds_step halt left k x reached next p.stops (map length_of p.legs) s there (slice_get-map length_of p.legs k ∙ ap (option_map length_of) way ∙ ap (λ (m : ℕ). Some m) (sym long)) r (n ∙ rw t refl)
          ∙ rw which refl

      -- a stop that keeps its limit leaves the test to those behind it
      pub holds_on : kept ≤ s.limit → holds stop until (Some s.node) next (drop (k + 1) p.stops) (drop (k + 1) (map length_of p.legs)) ≡ holds stop until halt left (drop k p.stops) (drop k (map length_of p.legs))
      holds_on l = let e : nat_le kept s.limit ≡ true = le-leb kept s.limit l in sym (here ∙ rw (e, add-one k) refl)

      -- and one that doesn't fails it
      pub holds_not : s.limit < kept → holds stop until halt left (drop k p.stops) (drop k (map length_of p.legs)) ≡ false
      holds_not l = let e : nat_le kept s.limit ≡ false = lt-leb kept s.limit l in here ∙ rw e refl

  -- Reaching a stop keeps all exactly where it keeps its own limit, and leaving it as soon as it may keeps the rest.
  pub reaching_is : (p : Plan) (i k arrival takes next kept : ℕ) (s : Stop) → IsBounded p → i ≡ suc k → slice_get p.stops k ≡ Some s → takes ≡ halt_time stop (halt_at (course_of p) k) s.node → next ≡ max (arrival + takes) s.ready → kept ≡ kept_time s.kind arrival next
      → is_kept stop until (reached_at (course_of p) k arrival) ≡ nat_le kept s.limit && is_kept stop until (left_at (course_of p) i next)
  reaching_is p i k arrival takes next kept s bounded e there t n which =
      let many = many_lengths p bounded in
      let within = slice_get_within p.stops k s there in
      let halts : halt_at (course_of p) i ≡ Some s.node = rw (e, there) refl in
      let no_way : arrival + 0 ≡ arrival = omega arith in
      let whole = is_kept-is (reached_at (course_of p) k arrival) (omega (arith, length-drop k p.stops, length-drop (suc k) (course_of p).lengths)) in
      let rest = is_kept-from (course_of p) i next many in
      whole ∙ rw (rest, halts, e, drop_from p.stops k s there, no_way, which, n, t) refl
