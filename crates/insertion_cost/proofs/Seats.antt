use Rattle.std.proofs.Common.{◌≡◌, ℕ, zero, suc, ◌+◌, ◌<◌, ◌≤◌, ◌↔◌, ◌&&◌, nat_le, true, List, [], ◌∷◌, ◌++◌, take, drop, length, sum_by, arith}
use Rattle.std.specs.List.{insert}
use Rattle.std.proofs.lemmas.Bool.{and_parts, and_from, leb-true, le-leb}
use Rattle.std.proofs.lemmas.List.Sums.{sum_by-cons, sum_by-append, sum_by-insert, sum_by-take-drop}
use Rattle.stop_schedule.specs.declared.request.Request.{Request}
use Rattle.stop_schedule.specs.declared.stop.Promise.{Promise}
use Rattle.stop_schedule.specs.declared.stop.SeatKind.TheVariants.{Seat, Space}
use Rattle.stop_schedule.specs.declared.stop.Stop.{Stop}
use Rattle.stop_schedule.specs.Keeping.{is_seated}
use Rattle.stop_schedule.specs.Lists.{pickup_of, dropoff_of}
use Rattle.stop_schedule.specs.Plans.{Plan}
use Rattle.stop_schedule.specs.Times.{aboard, aboard_before, getting_on, getting_off}
use Rattle.stop_schedule.proofs.TimeLaws.{each_below_at, each_below_from}
use Rattle.insertion_cost.specs.OnWays.{HasRoomTo}

module _ (seats spaces : ℕ) where
  -- before each stop those aboard have seats and spaces
  abbrev pub Seated : List Stop → Type 0
  Seated [] = Unit {0}
  Seated (s ∷ stops) = (aboard_before Seat (s ∷ stops) ≤ seats) × (aboard_before Space (s ∷ stops) ≤ spaces) × Seated stops

  seated_from : (stops : List Stop) → ((k : ℕ) → k < length stops → (aboard Seat stops k ≤ seats) × (aboard Space stops k ≤ spaces)) → Seated stops
  seated_from [] f = tt
  seated_from (s ∷ stops) f = let first = f 0 (omega arith) in (first.0, first.1, seated_from stops (λ k l. f (suc k) (omega arith)))

  seated_at : (stops : List Stop) → Seated stops → (k : ℕ) → k < length stops → (aboard Seat stops k ≤ seats) × (aboard Space stops k ≤ spaces)
  seated_at [] h k l = absurd (omega arith)
  seated_at (s ∷ stops) h zero l = (h.0, h.1)
  seated_at (s ∷ stops) h (suc k) l = seated_at stops h.2 k (omega arith)

  pub is_seated-Seated : (stops : List Stop) → is_seated seats spaces stops ≡ true ↔ Seated stops
  is_seated-Seated stops = (
    λ h. seated_from stops (λ k l. let both = and_parts (nat_le (aboard Seat stops k) seats) (nat_le (aboard Space stops k) spaces) (each_below_at (length stops) (λ i. nat_le (aboard Seat stops i) seats && nat_le (aboard Space stops i) spaces) h k l) in
        (leb-true (aboard Seat stops k) seats both.0, leb-true (aboard Space stops k) spaces both.1)),
    λ h. each_below_from (length stops) (λ i. nat_le (aboard Seat stops i) seats && nat_le (aboard Space stops i) spaces) (λ k l. let both = seated_at stops h k l in
        and_from (nat_le (aboard Seat stops k) seats) (nat_le (aboard Space stops k) spaces) (le-leb (aboard Seat stops k) seats both.0) (le-leb (aboard Space stops k) spaces both.1)),
  )

  front_seated : (stops : List Stop) → Seated stops → (aboard_before Seat stops ≤ seats) × (aboard_before Space stops ≤ spaces)
  front_seated [] h = (omega arith, omega arith)
  front_seated (s ∷ stops) h = (h.0, h.1)

-- a sum over a list with two stops more
sum_both : (f : Stop → ℕ) (i n : ℕ) (stops : List Stop) (p d : Stop) → sum_by f (take i stops ++ p ∷ insert (drop i stops) n d) ≡ sum_by f stops + f p + f d
sum_both f i n stops p d =
    let all = sum_by-append f (take i stops) (p ∷ insert (drop i stops) n d) in
    let first = sum_by-cons f p (insert (drop i stops) n d) in
    let second = sum_by-insert f (drop i stops) n d in
    let halves = sum_by-take-drop f stops i in
    omega arith

module _ (pl : Plan) (r : Request) (promise : Promise) where
  -- with the dropoff alone: the riders are aboard up to it
  rooms : (n : ℕ) (stops : List Stop) → n ≤ length stops → Seated pl.seats pl.spaces stops → Seated pl.seats pl.spaces (insert stops n (dropoff_of r promise)) ↔ HasRoomTo pl r n stops
  rooms zero stops l old =
      let a = sum_by-cons (λ (s : Stop). getting_off Seat s s.kind) (dropoff_of r promise) stops in
      let b = sum_by-cons (λ (s : Stop). getting_on Seat s s.kind) (dropoff_of r promise) stops in
      let e = sum_by-cons (λ (s : Stop). getting_off Space s s.kind) (dropoff_of r promise) stops in
      let f = sum_by-cons (λ (s : Stop). getting_on Space s s.kind) (dropoff_of r promise) stops in
      (λ h. let x = h.0 in let y = h.1 in (omega arith, omega arith), λ h. let x = h.0 in let y = h.1 in (omega arith, omega arith, old))
  rooms (suc n) [] l old = absurd (omega arith)
  rooms (suc n) (s ∷ stops) l old =
      let a = sum_by-insert (λ (s : Stop). getting_off Seat s s.kind) (s ∷ stops) (suc n) (dropoff_of r promise) in
      let b = sum_by-insert (λ (s : Stop). getting_on Seat s s.kind) (s ∷ stops) (suc n) (dropoff_of r promise) in
      let e = sum_by-insert (λ (s : Stop). getting_off Space s s.kind) (s ∷ stops) (suc n) (dropoff_of r promise) in
      let f = sum_by-insert (λ (s : Stop). getting_on Space s s.kind) (s ∷ stops) (suc n) (dropoff_of r promise) in
      let ahead = rooms n stops (omega arith) old.2 in
      (λ h. let x = h.0 in let y = h.1 in ((omega arith, omega arith), ahead.0 h.2), λ h. let x = h.0.0 in let y = h.0.1 in (omega arith, omega arith, ahead.1 h.1))

  -- A new list has seats and spaces exactly where there is room for its riders before each stop from the pickup to the dropoff.
  pub seats_past : (i n : ℕ) (stops : List Stop) → i ≤ length stops → n ≤ length (drop i stops) → Seated pl.seats pl.spaces stops
      → Seated pl.seats pl.spaces (take i stops ++ pickup_of r promise ∷ insert (drop i stops) n (dropoff_of r promise)) ↔ HasRoomTo pl r n (drop i stops)
  seats_past zero n stops l m old =
      let ahead = rooms n stops m old in
      let first = front_seated pl.seats pl.spaces stops old in
      let x = first.0 in
      let y = first.1 in
      let a = sum_both (λ (s : Stop). getting_off Seat s s.kind) 0 n stops (pickup_of r promise) (dropoff_of r promise) in
      let b = sum_both (λ (s : Stop). getting_on Seat s s.kind) 0 n stops (pickup_of r promise) (dropoff_of r promise) in
      let e = sum_both (λ (s : Stop). getting_off Space s s.kind) 0 n stops (pickup_of r promise) (dropoff_of r promise) in
      let f = sum_both (λ (s : Stop). getting_on Space s s.kind) 0 n stops (pickup_of r promise) (dropoff_of r promise) in
      (λ h. ahead.0 h.2, λ h. (omega arith, omega arith, ahead.1 h))
  seats_past (suc i) n [] l m old = absurd (omega arith)
  seats_past (suc i) n (s ∷ stops) l m old =
      let ahead = seats_past i n stops (omega arith) m old.2 in
      let x = old.0 in
      let y = old.1 in
      let a = sum_both (λ (s : Stop). getting_off Seat s s.kind) (suc i) n (s ∷ stops) (pickup_of r promise) (dropoff_of r promise) in
      let b = sum_both (λ (s : Stop). getting_on Seat s s.kind) (suc i) n (s ∷ stops) (pickup_of r promise) (dropoff_of r promise) in
      let e = sum_both (λ (s : Stop). getting_off Space s s.kind) (suc i) n (s ∷ stops) (pickup_of r promise) (dropoff_of r promise) in
      let f = sum_both (λ (s : Stop). getting_on Space s s.kind) (suc i) n (s ∷ stops) (pickup_of r promise) (dropoff_of r promise) in
      (λ h. ahead.0 h.2, λ h. (omega arith, omega arith, ahead.1 h))
