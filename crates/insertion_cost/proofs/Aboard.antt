use Rattle.std.proofs.Common.{◌≡◌, ℕ, ◌+◌, ◌-◌, ◌*◌, ◌<◌, ◌≤◌, List, ◌∷◌, ◌++◌, length, take, drop, get_or, sum_by, slice_get, Some, refl, sym, arith, ap, ◌∙◌}
use Rattle.std.proofs.lemmas.List.Sums.{sum_by_more, sum_by-append, sum_by-cons, sum_by-take-drop, sum_by-drop_more}
use Rattle.std.proofs.lemmas.Option.{slice_get-get_or, slice_get_within, get_or_from_slice_get}
use Rattle.std.proofs.lemmas.List.{drop-drop}
use Rattle.stop_schedule.specs.declared.request.Request.{Request}
use Rattle.stop_schedule.specs.declared.stop.Insertion.{Insertion}
use Rattle.stop_schedule.specs.declared.stop.SeatKind.{SeatKind}
use Rattle.stop_schedule.specs.declared.stop.SeatKind.TheVariants.{Seat, Space}
use Rattle.stop_schedule.specs.declared.stop.Stop.{Stop}
use Rattle.stop_schedule.specs.declared.stop.StopKind.{StopKind}
use Rattle.stop_schedule.specs.declared.stop.StopKind.TheVariants.{Pickup, Dropoff}
use Rattle.stop_schedule.specs.Lists.{with_both, pickup_of, dropoff_of, unpromised}
use Rattle.stop_schedule.specs.Times.{taking, getting_on, getting_off}
use Rattle.insertion_cost.specs.declared.driving.Riders.{Riders}
use Rattle.insertion_cost.specs.Changes.{party, boarding, alighting, new_stops}

-- at no stop more than its riders get on
pub on_few : (seat : SeatKind) (s : Stop) (kind : StopKind) → getting_on seat s kind ≤ taking seat s
on_few sort s Pickup = omega arith
on_few sort s Dropoff = omega arith

-- or off
pub off_few : (seat : SeatKind) (s : Stop) (kind : StopKind) → getting_off seat s kind ≤ taking seat s
off_few sort s Pickup = omega arith
off_few sort s Dropoff = omega arith

abbrev AreFew : SeatKind → List Stop → Type 0
AreFew seat stops = (k : ℕ) (s : Stop) → slice_get stops k ≡ Some s → taking seat s ≤ 16

-- who gets on at one stop more
pub on_more : (seat : SeatKind) (stops : List Stop) (i : ℕ) (d : Stop) (on next more : ℕ) → i < length stops → AreFew seat stops → on ≡ boarding seat (take i stops) + more → boarding seat (take i stops) ≤ 16 * i
    → next ≡ on + getting_on seat (get_or stops i d) (get_or stops i d).kind → (next ≡ boarding seat (take (i + 1) stops) + more) × (boarding seat (take (i + 1) stops) ≤ 16 * (i + 1))
on_more seat stops i d on next more l few e s n =
    let step = sum_by_more (λ (t : Stop). getting_on seat t t.kind) stops i d l in
    let here = on_few seat (get_or stops i d) (get_or stops i d).kind in
    let most = few i (get_or stops i d) (slice_get-get_or stops i d l) in
    (omega arith, omega arith)

-- who gets off at one stop more
pub off_more : (seat : SeatKind) (stops : List Stop) (i : ℕ) (d : Stop) (off next more : ℕ) → i < length stops → AreFew seat stops → off ≡ alighting seat (take i stops) + more → alighting seat (take i stops) ≤ 16 * i
    → next ≡ off + getting_off seat (get_or stops i d) (get_or stops i d).kind → (next ≡ alighting seat (take (i + 1) stops) + more) × (alighting seat (take (i + 1) stops) ≤ 16 * (i + 1))
off_more seat stops i d off next more l few e s n =
    let step = sum_by_more (λ (t : Stop). getting_off seat t t.kind) stops i d l in
    let here = off_few seat (get_or stops i d) (get_or stops i d).kind in
    let most = few i (get_or stops i d) (slice_get-get_or stops i d l) in
    (omega arith, omega arith)

-- a sum over the new list is that over the old one and at the two new stops
sum_by-with_both : (f : Stop → ℕ) (stops : List Stop) (at : Insertion) (p d : Stop) → at.i ≤ at.j → sum_by f (with_both stops at p d) ≡ sum_by f stops + (f p + f d)
sum_by-with_both f stops at p d o =
    let mid = take (at.j - at.i) (drop at.i stops) in
    let rest : drop (at.j - at.i) (drop at.i stops) ≡ drop at.j stops = drop-drop (at.j - at.i) at.i stops ∙ ap (λ n. drop n stops) (omega arith) in
    let whole = sum_by-append f (take at.i stops ++ p ∷ mid) (d ∷ drop at.j stops) in
    let front = sum_by-append f (take at.i stops) (p ∷ mid) in
    let pickup = sum_by-cons f p mid in
    let dropoff = sum_by-cons f d (drop at.j stops) in
    let halves = sum_by-take-drop f stops at.i in
    let parts = sum_by-take-drop f (drop at.i stops) (at.j - at.i) in
    let last = ap (sum_by f) rest in
    omega arith

-- a pickup takes the request's riders, and so does its dropoff
taking_pickup : (seat : SeatKind) (r : Request) (until : ℕ) → taking seat (pickup_of r (unpromised until)) ≡ party seat r
taking_pickup Seat r until = refl
taking_pickup Space r until = refl

taking_dropoff : (seat : SeatKind) (r : Request) (until : ℕ) → taking seat (dropoff_of r (unpromised until)) ≡ party seat r
taking_dropoff Seat r until = refl
taking_dropoff Space r until = refl

-- who gets on along the whole new list
pub on_with_both : (seat : SeatKind) (stops : List Stop) (until : ℕ) (at : Insertion) (r : Request) → at.i ≤ at.j → boarding seat (new_stops stops until r at) ≡ boarding seat stops + party seat r
on_with_both seat stops until at r o =
    let all = sum_by-with_both (λ (s : Stop). getting_on seat s s.kind) stops at (pickup_of r (unpromised until)) (dropoff_of r (unpromised until)) o in
    let here = taking_pickup seat r until in
    omega arith

-- who gets off along it
pub off_with_both : (seat : SeatKind) (stops : List Stop) (until : ℕ) (at : Insertion) (r : Request) → at.i ≤ at.j → alighting seat (new_stops stops until r at) ≡ alighting seat stops + party seat r
off_with_both seat stops until at r o =
    let all = sum_by-with_both (λ (s : Stop). getting_off seat s s.kind) stops at (pickup_of r (unpromised until)) (dropoff_of r (unpromised until)) o in
    let here = taking_dropoff seat r until in
    omega arith

-- who gets on from a stop on: its riders, and those behind it
pub on_from : (seat : SeatKind) (stops : List Stop) (k : ℕ) (s : Stop) → slice_get stops k ≡ Some s → boarding seat (drop k stops) ≡ getting_on seat s s.kind + boarding seat (drop (k + 1) stops)
on_from seat stops k s h =
    sum_by-drop_more (λ (t : Stop). getting_on seat t t.kind) stops k s (slice_get_within stops k s h) ∙ ap (λ (t : Stop). getting_on seat t t.kind + boarding seat (drop (k + 1) stops)) (get_or_from_slice_get stops k s s h)

-- who gets off from a stop on
pub off_from : (seat : SeatKind) (stops : List Stop) (k : ℕ) (s : Stop) → slice_get stops k ≡ Some s → alighting seat (drop k stops) ≡ getting_off seat s s.kind + alighting seat (drop (k + 1) stops)
off_from seat stops k s h =
    sum_by-drop_more (λ (t : Stop). getting_off seat t t.kind) stops k s (slice_get_within stops k s h) ∙ ap (λ (t : Stop). getting_off seat t t.kind + alighting seat (drop (k + 1) stops)) (get_or_from_slice_get stops k s s h)

-- the riders who get on, and those who get off, from a stop of a list on
pub record AreAhead (seat : SeatKind) (stops : List Stop) (k : ℕ) (riders : Riders) : Type 0 where
  pub on : riders.on ≡ boarding seat (drop k stops)
  pub off : riders.off ≡ alighting seat (drop k stops)

-- those who get on at a stop are among those who get on from it on
pub on_among : (seat : SeatKind) (stops : List Stop) (k : ℕ) (s : Stop) (riders : Riders) → slice_get stops k ≡ Some s → AreAhead seat stops k riders → getting_on seat s s.kind ≤ riders.on
on_among seat stops k s riders h e = let from = on_from seat stops k s h in let all = e.on in omega arith

-- and likewise those who get off
pub off_among : (seat : SeatKind) (stops : List Stop) (k : ℕ) (s : Stop) (riders : Riders) → slice_get stops k ≡ Some s → AreAhead seat stops k riders → getting_off seat s s.kind ≤ riders.off
off_among seat stops k s riders h e = let from = off_from seat stops k s h in let all = e.off in omega arith

-- past one stop more
pub ahead_more : (seat : SeatKind) (stops : List Stop) (k : ℕ) (s : Stop) (riders after : Riders) → slice_get stops k ≡ Some s → AreAhead seat stops k riders
    → after.on ≡ riders.on - getting_on seat s s.kind → after.off ≡ riders.off - getting_off seat s s.kind → AreAhead seat stops (k + 1) after
ahead_more seat stops k s riders after h e on off =
    let ons = on_from seat stops k s h in
    let offs = off_from seat stops k s h in
    record { on = omega (arith, e.on); off = omega (arith, e.off) }

-- the riders of a whole new list
pub ahead_start : (seat : SeatKind) (stops : List Stop) (until : ℕ) (at : Insertion) (r : Request) (riders : Riders) → at.i ≤ at.j → riders.on ≡ boarding seat stops + party seat r → riders.off ≡ alighting seat stops + party seat r
    → AreAhead seat (new_stops stops until r at) 0 riders
ahead_start seat stops until at r riders o on off =
    record { on = on ∙ sym (on_with_both seat stops until at r o); off = off ∙ sym (off_with_both seat stops until at r o) }
