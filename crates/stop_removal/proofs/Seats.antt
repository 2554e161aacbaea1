use Rattle.std.proofs.Common.{◌≡◌, ℕ, zero, suc, ◌+◌, ◌<◌, ◌≤◌, ◌&&◌, nat_le, true, List, [], ◌∷◌, drop, length, sum_by, refl, ◌∙◌, arith, ⊎_elim}
use Rattle.std.specs.List.{insert}
use Rattle.std.proofs.lemmas.Bool.{and_parts, and_from, leb-true, le-leb, cases_lt}
use Rattle.std.proofs.lemmas.List.Sums.{sum_by-insert}
use Rattle.stop_schedule.specs.declared.stop.SeatKind.{SeatKind}
use Rattle.stop_schedule.specs.declared.stop.SeatKind.TheVariants.{Seat, Space}
use Rattle.stop_schedule.specs.declared.stop.Stop.{Stop}
use Rattle.stop_schedule.specs.declared.stop.StopKind.{StopKind}
use Rattle.stop_schedule.specs.declared.stop.StopKind.TheVariants.{Pickup, Dropoff}
use Rattle.stop_schedule.specs.Keeping.{is_seated}
use Rattle.stop_schedule.specs.Times.{aboard, taking, getting_on, getting_off}
use Rattle.stop_schedule.proofs.TimeLaws.{each_below_at, each_below_from}
use Rattle.stop_schedule.proofs.ListLaws.{length-put}

-- before and behind the place of a stop more
sum_before : (f : Stop → ℕ) (m n : ℕ) (t : Stop) (stops : List Stop) → m ≤ n → n ≤ length stops → sum_by f (drop m (insert stops n t)) ≡ sum_by f (drop m stops) + f t
sum_before f zero n t stops o l = sum_by-insert f stops n t
sum_before f (suc m) zero t stops o l = absurd (omega arith)
sum_before f (suc m) (suc n) t [] o l = absurd (omega arith)
sum_before f (suc m) (suc n) t (s ∷ stops) o l = sum_before f m n t stops (omega arith) (omega arith)

drop_behind : (m n : ℕ) (t : Stop) (stops : List Stop) → n ≤ m → n ≤ length stops → drop (suc m) (insert stops n t) ≡ drop m stops
drop_behind m zero t stops o l = refl
drop_behind m (suc n) t [] o l = absurd (omega arith)
drop_behind zero (suc n) t (s ∷ stops) o l = absurd (omega arith)
drop_behind (suc m) (suc n) t (s ∷ stops) o l = drop_behind m n t stops (omega arith) (omega arith)

-- a pickup's riders get on, and a dropoff's get off
on_at_pickup : (sort : SeatKind) (s : Stop) (kind : StopKind) → kind ≡ Pickup → (getting_on sort s kind ≡ taking sort s) × (getting_off sort s kind ≡ 0)
on_at_pickup sort s kind e = rw e (refl, refl)

off_at_dropoff : (sort : SeatKind) (s : Stop) (kind : StopKind) → kind ≡ Dropoff → (getting_on sort s kind ≡ 0) × (getting_off sort s kind ≡ taking sort s)
off_at_dropoff sort s kind e = rw e (refl, refl)

module _ (i j : ℕ) (p d : Stop) (left : List Stop) (order : i ≤ j) (within : j ≤ length left) (up : p.kind ≡ Pickup) (down : d.kind ≡ Dropoff) (riders : d.riders ≡ p.riders) (spaces : d.spaces ≡ p.spaces) where
  abbrev old : List Stop
  old = insert (insert left j d) i p

  same_taking : (sort : SeatKind) → taking sort d ≡ taking sort p
  same_taking Seat = riders
  same_taking Space = spaces

  -- on each leg of the shorter list are no more aboard than on some leg of the longer one
  no_more : (m : ℕ) → m < length left → (l : ℕ) × (l < length old) × ((sort : SeatKind) → aboard sort left m ≤ aboard sort old l)
  no_more m h =
      ⊎_elim (λ (a : m < suc i). (m, omega (arith, long), λ sort. before sort (omega arith))) (λ (a : suc i ≤ m).
      ⊎_elim (λ (b : m < suc j). (suc m, omega (arith, long), λ sort. between sort a (omega arith))) (λ (b : suc j ≤ m). (suc (suc m), omega (arith, long), λ sort. behind sort b)) (cases_lt m (suc j))) (cases_lt m (suc i))
    where
      inner : length (insert left j d) ≡ length left + 1
      inner = length-put j d left within

      long : length old ≡ length left + 2
      long = length-put i p (insert left j d) (omega (arith, inner)) ∙ omega (arith, inner)

      off : SeatKind → Stop → ℕ
      off sort s = getting_off sort s s.kind

      on : SeatKind → Stop → ℕ
      on sort s = getting_on sort s s.kind

      before : (sort : SeatKind) → m ≤ i → aboard sort left m ≤ aboard sort old m
      before sort a =
          let off_p = sum_before (λ (s : Stop). getting_off sort s s.kind) m i p (insert left j d) a (omega (arith, inner)) in
          let off_d = sum_before (λ (s : Stop). getting_off sort s s.kind) m j d left (omega arith) within in
          let on_p = sum_before (λ (s : Stop). getting_on sort s s.kind) m i p (insert left j d) a (omega (arith, inner)) in
          let on_d = sum_before (λ (s : Stop). getting_on sort s s.kind) m j d left (omega arith) within in
          let at_p = on_at_pickup sort p p.kind up in
          let at_d = off_at_dropoff sort d d.kind down in
          let same = same_taking sort in
          omega (arith, off_p, off_d, on_p, on_d, at_p, at_d, same)

      between : (sort : SeatKind) → suc i ≤ m → m ≤ j → aboard sort left m ≤ aboard sort old (suc m)
      between sort a b =
          let there = drop_behind m i p (insert left j d) (omega arith) (omega (arith, inner)) in
          let off_d = sum_before (λ (s : Stop). getting_off sort s s.kind) m j d left b within in
          let on_d = sum_before (λ (s : Stop). getting_on sort s s.kind) m j d left b within in
          let at_d = off_at_dropoff sort d d.kind down in
          rw there (omega (arith, off_d, on_d, at_d))

      behind : (sort : SeatKind) → suc j ≤ m → aboard sort left m ≤ aboard sort old (suc (suc m))
      behind sort b =
          let outer = drop_behind (suc m) i p (insert left j d) (omega arith) (omega (arith, inner)) in
          let there = drop_behind m j d left (omega arith) within in
          rw (outer, there) (omega arith)

  pub still_seated : (seats room : ℕ) → is_seated seats room old ≡ true → is_seated seats room left ≡ true
  still_seated seats room h =
      each_below_from (length left) (λ m. nat_le (aboard Seat left m) seats && nat_le (aboard Space left m) room)
      (λ m l. let more = no_more m l in
      let both = and_parts (nat_le (aboard Seat old more.0) seats) (nat_le (aboard Space old more.0) room) (each_below_at (length old) (λ k. nat_le (aboard Seat old k) seats && nat_le (aboard Space old k) room) h more.0 more.1) in
      let a = more.2 Seat in let b = more.2 Space in
      let e = leb-true (aboard Seat old more.0) seats both.0 in
      let f = leb-true (aboard Space old more.0) room both.1 in
      and_from (nat_le (aboard Seat left m) seats) (nat_le (aboard Space left m) room) (le-leb (aboard Seat left m) seats (omega arith)) (le-leb (aboard Space left m) room (omega arith)))
