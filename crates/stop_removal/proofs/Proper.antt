use Rattle.std.proofs.Common.{◌≡◌, ℕ, ◌+◌, ◌<◌, ◌≤◌, ◌==◌, ◌⊎◌, inl, inr, Bool, true, false, cond, List, length, Some, refl, sym, ap, ◌∙◌, arith}
use Rattle.std.specs.Prelude.{slice_get, count_by}
use Rattle.std.specs.List.{insert, remove}
use Rattle.std.proofs.lemmas.Bool.{and_parts, and_from, eqb-true, eq-eqb, cases_eq, false≢true}
use Rattle.std.proofs.lemmas.List.Sums.{sum_by-insert}
use Rattle.std.proofs.lemmas.Option.{same_Some}
use Rattle.ride_base.specs.declared.numbers.RequestNo.{RequestNo}
use Rattle.stop_schedule.specs.declared.stop.Stop.{Stop}
use Rattle.stop_schedule.specs.declared.stop.StopKind.{StopKind}
use Rattle.stop_schedule.specs.declared.stop.StopKind.TheVariants.{Pickup, Dropoff}
use Rattle.stop_schedule.specs.Keeping.{is_pickup, picks_up, drops_off}
use Rattle.stop_schedule.proofs.TimeLaws.{past}
use Rattle.stop_schedule.proofs.ListLaws.{length-put}
use Rattle.stop_removal.proofs.PutBack.{put_back, insert_there, insert_past, past_of, past-lt_back}

-- a stop more counts for itself
count_put : (test : Stop → Bool) (stops : List Stop) (n : ℕ) (t : Stop) → count_by test (insert stops n t) ≡ count_by test stops + cond (test t) 1 0
count_put test stops n t = sum_by-insert (λ (s : Stop). cond (test s) 1 0) stops n t

-- one that passes counts for one
counted : (b : Bool) → b ≡ true → cond {A = ℕ} b 1 0 ≡ 1
counted b e = rw e refl

count_has : (test : Stop → Bool) (stops : List Stop) (k : ℕ) (s : Stop) → slice_get stops k ≡ Some s → test s ≡ true → 1 ≤ count_by test stops
count_has test stops k s e t =
    let whole = ap (count_by test) (put_back stops k s e) in
    let more = count_put test (remove stops k) k s in
    let one = counted (test s) t in
    omega (arith, whole, more, one)

up_and_down : (k : StopKind) → k ≡ Pickup → k ≡ Dropoff → ⊥
up_and_down Pickup e f = cc
up_and_down Dropoff e f = cc

-- what the two tests say
pub pickup_is : (number : RequestNo) (s : Stop) → picks_up number s ≡ true → (s.kind ≡ Pickup) × (s.no.0 ≡ number.0)
pickup_is number s h = let both = and_parts (is_pickup s.kind) (s.no.0 == number.0) h in (kind s.kind both.0, eqb-true s.no.0 number.0 both.1) where
  kind : (k : StopKind) → is_pickup k ≡ true → k ≡ Pickup
  kind Pickup e = refl
  kind Dropoff e = absurd (false≢true e)

pub dropoff_is : (number : RequestNo) (s : Stop) → drops_off number s ≡ true → (s.kind ≡ Dropoff) × (s.no.0 ≡ number.0)
dropoff_is number s h = go s.kind h where
  go : (k : StopKind) → cond (is_pickup k) false (s.no.0 == number.0) ≡ true → (k ≡ Dropoff) × (s.no.0 ≡ number.0)
  go Pickup e = absurd (false≢true e)
  go Dropoff e = (refl, eqb-true s.no.0 number.0 e)

pub is_its_pickup : (number : RequestNo) (s : Stop) → s.kind ≡ Pickup → s.no.0 ≡ number.0 → picks_up number s ≡ true
is_its_pickup number s k n = and_from (is_pickup s.kind) (s.no.0 == number.0) (ap is_pickup k) (eq-eqb s.no.0 number.0 n)

pub is_its_dropoff : (number : RequestNo) (s : Stop) → s.kind ≡ Dropoff → s.no.0 ≡ number.0 → drops_off number s ≡ true
is_its_dropoff number s k n = rw k (eq-eqb s.no.0 number.0 n)

-- each pickup of a list has a later dropoff
abbrev pub AreDroppedOff : List Stop → Type 0
AreDroppedOff stops = (k : ℕ) (s : Stop) → slice_get stops k ≡ Some s → s.kind ≡ Pickup
    → (l : ℕ) × (d : Stop) × (k < l) × (slice_get stops l ≡ Some d) × (d.kind ≡ Dropoff) × (d.no ≡ s.no) × (d.riders ≡ s.riders) × (d.spaces ≡ s.spaces)

module _ (number : RequestNo) (i j : ℕ) (p d : Stop) (left : List Stop) (order : i ≤ j) (within : j ≤ length left) (up : picks_up number p ≡ true) (down : drops_off number d ≡ true) where
  abbrev old : List Stop
  old = insert (insert left j d) i p

  inner : length (insert left j d) ≡ length left + 1
  inner = length-put j d left within

  -- without two of its stops a list has no more of a kind
  pub no_more : (test : Stop → Bool) → count_by test left ≤ count_by test old
  no_more test =
      let a = count_put test (insert left j d) i p in
      let b = count_put test left j d in
      omega (arith, a, b)

  pickup_there : slice_get old i ≡ Some p
  pickup_there = insert_there (insert left j d) i p (omega (arith, inner))

  -- a stop of the old list is the pickup, the dropoff, or one that stays
  which : (l : ℕ) (e : Stop) → slice_get old l ≡ Some e → (e ≡ p) ⊎ ((e ≡ d) ⊎ ((k : ℕ) × (l ≡ past i (past j k)) × (slice_get left k ≡ Some e)))
  which l e h = first (cases_eq l i) where
    second : (m : ℕ) → l ≡ past i m → (m ≡ j) ⊎ (m ≡ j → ⊥) → (e ≡ p) ⊎ ((e ≡ d) ⊎ ((k : ℕ) × (l ≡ past i (past j k)) × (slice_get left k ≡ Some e)))
    second m is (inl here) =
        inr (inl (same_Some e d (sym h ∙ ap (slice_get old) is ∙ insert_past (insert left j d) i p m (omega (arith, inner)) ∙ ap (slice_get (insert left j d)) here ∙ insert_there left j d within)))
    second m is (inr other) =
        let place = past_of j m other in
        inr (inr (place.0, is ∙ ap (past i) place.1, sym (insert_past left j d place.0 within) ∙ ap (slice_get (insert left j d)) (sym place.1) ∙ sym (insert_past (insert left j d) i p m (omega (arith, inner))) ∙ ap (slice_get old) (sym is) ∙ h))

    first : (l ≡ i) ⊎ (l ≡ i → ⊥) → (e ≡ p) ⊎ ((e ≡ d) ⊎ ((k : ℕ) × (l ≡ past i (past j k)) × (slice_get left k ≡ Some e)))
    first (inl here) = inl (same_Some e p (sym h ∙ ap (slice_get old) here ∙ pickup_there))
    first (inr other) = let place = past_of i l other in second place.0 place.1 (cases_eq place.0 j)

  stays : (k : ℕ) (s : Stop) → slice_get left k ≡ Some s → slice_get old (past i (past j k)) ≡ Some s
  stays k s h = insert_past (insert left j d) i p (past j k) (omega (arith, inner)) ∙ insert_past left j d k within ∙ h

  -- of the riders of a number as many get off as got on
  pub as_many : AreDroppedOff old → count_by (drops_off number) old ≤ 1 → (d.riders ≡ p.riders) × (d.spaces ≡ p.spaces)
  as_many all once = go (all i p pickup_there (pickup_is number p up).0) where
    go : (l : ℕ) × (e : Stop) × (i < l) × (slice_get old l ≡ Some e) × (e.kind ≡ Dropoff) × (e.no ≡ p.no) × (e.riders ≡ p.riders) × (e.spaces ≡ p.spaces) → (d.riders ≡ p.riders) × (d.spaces ≡ p.spaces)
    go (l, e, later, there, kind, same, riders, spaces) = on (which l e there) where
      on : (e ≡ p) ⊎ ((e ≡ d) ⊎ ((k : ℕ) × (l ≡ past i (past j k)) × (slice_get left k ≡ Some e))) → (d.riders ≡ p.riders) × (d.spaces ≡ p.spaces)
      on (inl q) = absurd (up_and_down e.kind (ap (λ (s : Stop). s.kind) q ∙ (pickup_is number p up).0) kind)
      on (inr (inl q)) = (sym (ap (λ (s : Stop). s.riders) q) ∙ riders, sym (ap (λ (s : Stop). s.spaces) q) ∙ spaces)
      on (inr (inr q)) =
          let one = count_has (drops_off number) left q.0 e q.2 (is_its_dropoff number e kind (ap (λ (n : RequestNo). n.0) same ∙ (pickup_is number p up).1)) in
          let a = count_put (drops_off number) (insert left j d) i p in
          let b = count_put (drops_off number) left j d in
          let c = counted (drops_off number d) down in
          absurd (omega (arith, one, a, b, c, once))

  -- each pickup that stays has its dropoff behind it
  pub still_dropped_off : AreDroppedOff old → count_by (picks_up number) old ≤ 1 → AreDroppedOff left
  still_dropped_off all once k s h kind = go (all (past i (past j k)) s (stays k s h) kind) where
    go : (l : ℕ) × (e : Stop) × (past i (past j k) < l) × (slice_get old l ≡ Some e) × (e.kind ≡ Dropoff) × (e.no ≡ s.no) × (e.riders ≡ s.riders) × (e.spaces ≡ s.spaces)
        → (l : ℕ) × (e : Stop) × (k < l) × (slice_get left l ≡ Some e) × (e.kind ≡ Dropoff) × (e.no ≡ s.no) × (e.riders ≡ s.riders) × (e.spaces ≡ s.spaces)
    go (l, e, later, there, off, same, riders, spaces) = on (which l e there) where
      on : (e ≡ p) ⊎ ((e ≡ d) ⊎ ((m : ℕ) × (l ≡ past i (past j m)) × (slice_get left m ≡ Some e)))
          → (l : ℕ) × (e : Stop) × (k < l) × (slice_get left l ≡ Some e) × (e.kind ≡ Dropoff) × (e.no ≡ s.no) × (e.riders ≡ s.riders) × (e.spaces ≡ s.spaces)
      on (inl q) = absurd (up_and_down e.kind (ap (λ (t : Stop). t.kind) q ∙ (pickup_is number p up).0) off)
      on (inr (inl q)) =
          let of_number : s.no.0 ≡ number.0 = ap (λ (n : RequestNo). n.0) (sym same) ∙ ap (λ (t : Stop). t.no.0) q ∙ (dropoff_is number d down).1 in
          let one = count_has (picks_up number) left k s h (is_its_pickup number s kind of_number) in
          let a = count_put (picks_up number) (insert left j d) i p in
          let b = count_put (picks_up number) left j d in
          let c = counted (picks_up number p) up in
          absurd (omega (arith, one, a, b, c, once))
      on (inr (inr q)) = let lt : past i (past j k) < past i (past j q.0) = omega (arith, later, q.1) in (q.0, e, past-lt_back j k q.0 (past-lt_back i (past j k) (past j q.0) lt), q.2, off, same, riders, spaces)
