use Rattle.std.proofs.Common.{◌≡◌, ℕ, zero, suc, ◌+◌, ◌<◌, ◌≤◌, ◌↔◌, max, nat_le, Bool, true, List, [], ◌∷◌, length, drop, Option, Some, None, refl, sym, ap, ◌∙◌, arith, subst, ⊎_elim}
use Rattle.std.specs.Prelude.{slice_get, slice_index}
use Rattle.std.proofs.lemmas.Bool.{and_parts, and_from, leb-true, le-leb, cases_lt}
use Rattle.std.proofs.lemmas.Option.{none-some, same_Some, slice_get_within}
use Rattle.road_graph.specs.declared.road.NodeNo.{NodeNo}
use Rattle.stop_schedule.specs.declared.stop.Stop.{Stop}
use Rattle.stop_schedule.specs.declared.stop.StopKind.{StopKind}
use Rattle.stop_schedule.specs.declared.stop.StopKind.TheVariants.{Pickup, Dropoff}
use Rattle.stop_schedule.specs.Keeping.{each_below, is_in_time, are_in_time}
use Rattle.stop_schedule.specs.Ahead.{is_kept}
use Rattle.stop_schedule.specs.Bounds.{IsBounded}
use Rattle.stop_schedule.specs.Plans.{Plan, Course, course_of, halt_at}
use Rattle.road_graph.specs.Paths.{length_of}
use Rattle.std.proofs.lemmas.List.{length-map}
use Rattle.stop_schedule.specs.Times.{departs, halt_time, kept_time, promised_time}
use Rattle.stop_schedule.proofs.Holds.{Holds}

-- the lengths of a bounded schedule's legs are as many as its stops
pub many_lengths : (p : Plan) → IsBounded p → length (course_of p).lengths ≡ length p.stops
many_lengths p b = length-map p.legs length_of ∙ b.as_many_legs

-- a test that passes below n passes at each number there
pub each_below_at : (n : ℕ) (test : ℕ → Bool) → each_below n test ≡ true → (k : ℕ) → k < n → test k ≡ true
each_below_at zero test h k l = absurd (omega arith)
each_below_at (suc n) test h k l =
    let both = and_parts (each_below n test) (test n) h in
    ⊎_elim (λ (below : k < n). each_below_at n test both.0 k below) (λ (last : n ≤ k). let here : k ≡ n = omega arith in rw here both.1) (cases_lt k n)

pub each_below_from : (n : ℕ) (test : ℕ → Bool) → ((k : ℕ) → k < n → test k ≡ true) → each_below n test ≡ true
each_below_from zero test h = refl
each_below_from (suc n) test h = and_from (each_below n test) (test n) (each_below_from n test (λ k l. h k (omega arith))) (h n (omega arith))

abbrev pub course : Option NodeNo → ℕ → List Stop → List ℕ → Course
course halt left stops lengths = record { halt = halt; departure = left; stops = stops; lengths = lengths }

module _ (stop : ℕ) (halt : Option NodeNo) (left x : ℕ) (s : Stop) (stops : List Stop) (lengths : List ℕ) where
  abbrev next : ℕ
  next = max (left + x + halt_time stop halt s.node) s.ready

  -- the course, and the one behind its first stop
  abbrev pub whole : Course
  whole = course halt left (s ∷ stops) (x ∷ lengths)

  abbrev pub behind : Course
  behind = course (Some s.node) next stops lengths

  pub halt_shift : (i : ℕ) → halt_at whole (suc i) ≡ halt_at behind i
  halt_shift zero = refl
  halt_shift (suc i) = refl

  pub departs_shift : (i : ℕ) → departs stop whole (suc i) ≡ departs stop behind i
  departs_shift zero = refl
  departs_shift (suc i) = rw (departs_shift i, halt_shift i) refl

  pub promised_shift : (i : ℕ) (kind : StopKind) → promised_time stop whole (suc (suc i)) kind ≡ promised_time stop behind (suc i) kind
  promised_shift i Pickup = departs_shift (suc i)
  promised_shift i Dropoff = ap (λ (n : ℕ). n + slice_index lengths i) (departs_shift i)

  pub promised_first : (kind : StopKind) → promised_time stop whole 1 kind ≡ kept_time kind (left + x) next
  promised_first Pickup = refl
  promised_first Dropoff = refl

module _ (stop until : ℕ) where
  -- each stop keeps its limit, and the end is in service
  pub record IsKept (c : Course) : Type 0 where
    pub in_time : (k : ℕ) (s : Stop) → slice_get c.stops k ≡ Some s → promised_time stop c (suc k) s.kind ≤ s.limit
    pub over : departs stop c (length c.stops) ≤ until

  pub kept_holds : (halt : Option NodeNo) (left : ℕ) (stops : List Stop) (lengths : List ℕ) → length lengths ≡ length stops → IsKept (course halt left stops lengths) → Holds stop until halt left stops lengths
  kept_holds halt left [] lengths many h = h.over
  kept_holds halt left (s ∷ stops) [] many h = absurd (omega arith)
  kept_holds halt left (s ∷ stops) (x ∷ lengths) many h = (
    rw (sym (promised_first stop halt left x s stops lengths s.kind)) (h.in_time 0 s refl),
    kept_holds (Some s.node) _ stops lengths (omega arith)
        (record {
          in_time = λ k t e. rw (sym (promised_shift stop halt left x s stops lengths k t.kind)) (h.in_time (suc k) t e);
          over = rw (sym (departs_shift stop halt left x s stops lengths (length stops))) h.over;
        }),
  )

  pub holds_kept : (halt : Option NodeNo) (left : ℕ) (stops : List Stop) (lengths : List ℕ) → Holds stop until halt left stops lengths → IsKept (course halt left stops lengths)
  holds_kept halt left [] lengths h = record { in_time = λ k s e. absurd (none-some s e); over = h }
  holds_kept halt left (s ∷ stops) [] h = absurd h
  holds_kept halt left (s ∷ stops) (x ∷ lengths) h = kept_from (holds_kept (Some s.node) _ stops lengths h.1) where
    at : IsKept (behind stop halt left x s stops lengths) → (k : ℕ) (t : Stop) → slice_get (s ∷ stops) k ≡ Some t → promised_time stop (whole stop halt left x s stops lengths) (suc k) t.kind ≤ t.limit
    at more zero t e = subst (λ (u : Stop). promised_time stop (whole stop halt left x s stops lengths) 1 u.kind ≤ u.limit) (same_Some s t e) (rw (promised_first stop halt left x s stops lengths s.kind) h.0)
    at more (suc k) t e = rw (promised_shift stop halt left x s stops lengths k t.kind) (more.in_time k t e)

    kept_from : IsKept (behind stop halt left x s stops lengths) → IsKept (whole stop halt left x s stops lengths)
    kept_from more = record { in_time = at more; over = rw (departs_shift stop halt left x s stops lengths (length stops)) more.over }

  -- the test says so
  pub is_kept-IsKept : (c : Course) → is_kept stop until c ≡ true → IsKept c
  is_kept-IsKept c h =
      let both = and_parts (are_in_time stop c) (nat_le (departs stop c (length c.stops)) until) h in
      record {
        in_time = λ k s e. leb-true _ _ (subst (λ (o : Option Stop). is_in_time stop c (suc k) o ≡ true) e (each_below_at (length c.stops) (λ l. is_in_time stop c (suc l) (slice_get c.stops l)) both.0 k (slice_get_within c.stops k s e)));
        over = leb-true _ _ both.1;
      }

  pub IsKept-is_kept : (c : Course) → IsKept c → is_kept stop until c ≡ true
  IsKept-is_kept c h =
      and_from (are_in_time stop c) (nat_le (departs stop c (length c.stops)) until) (each_below_from (length c.stops) (λ l. is_in_time stop c (suc l) (slice_get c.stops l)) (λ k l. at k (slice_get c.stops k) refl)) (le-leb _ _ h.over)
    where
      at : (k : ℕ) (o : Option Stop) → slice_get c.stops k ≡ o → is_in_time stop c (suc k) o ≡ true
      at k None e = refl
      at k (Some s) e = le-leb _ _ (h.in_time k s e)

  -- a course is kept exactly where it holds along its stops
  pub is_kept-holds : (c : Course) → length c.lengths ≡ length c.stops → is_kept stop until c ≡ true ↔ Holds stop until c.halt c.departure c.stops c.lengths
  is_kept-holds c many = (λ h. kept_holds c.halt c.departure c.stops c.lengths many (is_kept-IsKept c h), λ h. IsKept-is_kept c (holds_kept c.halt c.departure c.stops c.lengths h))

  -- and then from each stop on
  pub holds_behind : (halt : Option NodeNo) (left : ℕ) (stops : List Stop) (lengths : List ℕ) (i : ℕ) → Holds stop until halt left stops lengths → i ≤ length stops → let c = course halt left stops lengths in
      Holds stop until (halt_at c i) (departs stop c i) (drop i stops) (drop i lengths)
  holds_behind halt left stops lengths zero h l = h
  holds_behind halt left [] lengths (suc i) h l = absurd (omega arith)
  holds_behind halt left (s ∷ stops) [] (suc i) h l = absurd h
  holds_behind halt left (s ∷ stops) (x ∷ lengths) (suc i) h l =
      rw (halt_shift stop halt left x s stops lengths i, departs_shift stop halt left x s stops lengths i) (holds_behind (Some s.node) _ stops lengths i h.1 (omega arith))
