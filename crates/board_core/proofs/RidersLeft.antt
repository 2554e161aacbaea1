use Rattle.std.proofs.Common.{◌≡◌, ℕ, ◌-◌, ◌≤◌, ◌==◌, inl, inr, List, length, sym, ap, ◌∙◌, arith}
use Rattle.std.specs.Prelude.{slice_get}
use Rattle.std.proofs.lemmas.Bool.{eqb-true, and_parts}
use Rattle.std.proofs.lemmas.Option.{same_Some, slice_get_within}
use Rattle.ride_base.specs.declared.numbers.RequestNo.{RequestNo}
use Rattle.stop_schedule.specs.declared.request.Request.{Request}
use Rattle.stop_schedule.specs.declared.stop.Promise.{Promise}
use Rattle.stop_schedule.specs.declared.stop.Stop.{Stop}
use Rattle.stop_schedule.specs.declared.stop.StopKind.{StopKind}
use Rattle.stop_schedule.specs.declared.stop.StopKind.TheVariants.{Pickup, Dropoff}
use Rattle.stop_schedule.specs.Keeping.{is_pickup}
use Rattle.stop_schedule.specs.Plans.{Plan}
use Rattle.stop_schedule.specs.Rates.{Rates}
use Rattle.stop_advance.specs.declared.served.Served.{Served}
use Rattle.stop_removal.specs.Removals.{AreStopsOf, without_both}
use Rattle.board_core.specs.Promises.{HasRider, IsPlannedStop}
use Rattle.board_core.proofs.Kept.{IsKept}
use Rattle.board_core.proofs.LessStops.{left_at, left_at-lt, other_stays}
use Rattle.board_core.proofs.Riders.{planned_kept}
use Rattle.board_core.proofs.StopCounts.{drops_number}

-- a planned stop of another number isn't one of those that go
module _ (rates : Rates) (p : Plan) (number : RequestNo) (a b : ℕ) (stops : AreStopsOf number p.stops a b) (r : Request) (promise : Promise) (apart : number.0 ≡ r.no.0 → ⊥) where
  not_pickup : (k : ℕ) (kind : StopKind) → IsPlannedStop rates p k kind r promise → k ≡ a - 1 → ⊥
  not_pickup k kind s e = apart (sym (eqb-true _ _ (and_parts (is_pickup stops.pickup.kind) (stops.pickup.no.0 == number.0) stops.picked_up).1) ∙ ap (λ (t : Stop). t.no.0) same ∙ ap (λ (n : RequestNo). n.0) s.is_number)
    where
      same : stops.pickup ≡ s.stop
      same = same_Some _ _ (sym stops.pickup_stands ∙ ap (slice_get p.stops) (sym e) ∙ s.stands)

  not_dropoff : (k : ℕ) (kind : StopKind) → IsPlannedStop rates p k kind r promise → k ≡ b - 1 → ⊥
  not_dropoff k kind s e = apart (sym (eqb-true _ _ (drops_number stops.dropoff number stops.dropoff.kind stops.dropped_off)) ∙ ap (λ (t : Stop). t.no.0) same ∙ ap (λ (n : RequestNo). n.0) s.is_number)
    where
      same : stops.dropoff ≡ s.stop
      same = same_Some _ _ (sym stops.dropoff_stands ∙ ap (slice_get p.stops) (sym e) ∙ s.stands)

  long : b ≤ length p.stops
  long = let l = slice_get_within p.stops (b - 1) stops.dropoff stops.dropoff_stands in let o = stops.order in let f = stops.from_first in omega arith

  planned_left : (q : Plan) → IsKept rates q → q.stops ≡ without_both p.stops a b → (k : ℕ) (kind : StopKind) → IsPlannedStop rates p k kind r promise → IsPlannedStop rates q (left_at a b k) kind r promise
  planned_left q h e k kind s = planned_kept rates p q k (left_at a b k) kind r promise h s
      (ap (λ (l : List Stop). slice_get l (left_at a b k)) e ∙ other_stays p.stops a b k s.stop stops.from_first stops.order long (not_pickup k kind s) (not_dropoff k kind s) s.stands)

  -- a rider's promise is kept while others are taken out of the list
  pub rider_left : (q : Plan) (served : List Served) → IsKept rates q → q.stops ≡ without_both p.stops a b → HasRider rates p served r promise → HasRider rates q served r promise
  rider_left q served h e (inl x) = inl (
    left_at a b x.0,
    left_at a b x.1,
    left_at-lt a b x.0 x.1 stops.from_first stops.order x.2 (not_pickup x.0 Pickup x.3) (not_dropoff x.0 Pickup x.3) (not_pickup x.1 Dropoff x.4) (not_dropoff x.1 Dropoff x.4),
    planned_left q h e x.0 Pickup x.3,
    planned_left q h e x.1 Dropoff x.4,
  )
  rider_left q served h e (inr (inl x)) = inr (inl (x.0, left_at a b x.1, x.2, planned_left q h e x.1 Dropoff x.3))
  rider_left q served h e (inr (inr x)) = inr (inr x)
