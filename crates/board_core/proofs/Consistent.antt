use Rattle.std.proofs.Common.{◌≡◌, ℕ, zero, suc, ◌+◌, ◌-◌, ◌⊎◌, inl, inr, Bool, true, false, not, cond, List, [], ◌∷◌, ◌++◌, take, drop, Option, Some, None, is_some, sym, refl, ap, ◌∙◌, subst}
use Rattle.std.specs.Prelude.{slice_get, slice_set}
use Rattle.std.proofs.lemmas.Bool.{cases_eq, not-true, eqb-true, or_parts}
use Rattle.std.proofs.lemmas.Option.{same_Some}
use Rattle.ride_base.specs.declared.numbers.RequestNo.{RequestNo}
use Rattle.stop_schedule.specs.declared.request.Request.{Request}
use Rattle.stop_schedule.specs.declared.stop.Insertion.{Insertion}
use Rattle.stop_schedule.specs.declared.stop.Stop.{Stop}
use Rattle.stop_schedule.specs.declared.vehicle.Vehicle.{Vehicle}
use Rattle.stop_schedule.specs.Fleets.{Car}
use Rattle.stop_schedule.specs.Lists.{pickup_of, dropoff_of, with_both}
use Rattle.stop_schedule.specs.Plans.{Plan, opening_of}
use Rattle.stop_schedule.specs.Rates.{Rates}
use Rattle.stop_removal.specs.declared.removal.Removal.{Removal}
use Rattle.stop_advance.specs.Advance.{reached_by, advanced_in}
use Rattle.insertion_cost.specs.declared.decision.Assigned.{Assigned}
use Rattle.insertion_cost.specs.declared.decision.Decision.{Decision}
use Rattle.insertion_cost.specs.declared.decision.Decision.TheVariants.{Assigned as IsAssigned}
use Rattle.insertion_cost.specs.Offers.{price_in}
use Rattle.insertion_cost.specs.Prices.{promise_of}
use Rattle.board_core.specs.declared.entry.Reason.{Reason}
use Rattle.board_core.specs.declared.entry.Reason.TheVariants.{Closed, Place, Riders, Moment, Repeated}
use Rattle.board_core.specs.Boards.{Board, Waiting, IsConsistent, opening_board, opening_car, is_number, answer_of, waiting_of, was_accepted, with_holder, with_next_version}
use Rattle.board_core.specs.Steps.{answered, refusal, taken_on, taken_off, with_car, with_cancelled, at_clock, moved_car}
use Rattle.board_core.proofs.Advances.{slice_get-drop, moved_plan}
use Rattle.board_core.proofs.LessStops.{either, from_both, get_take}
use Rattle.board_core.proofs.Lookups.{found, kept_by, mapped, set_here, set_other, answered_now, answered_still, unanswered_still}

-- The answers of a board agree with its other parts as entries are made.

-- a board before any entry
pub opening_consistent : (nodes : ℕ) (rates : Rates) (vehicles : List Vehicle) → IsConsistent (opening_board nodes rates vehicles)
opening_consistent nodes rates vehicles = record {
  planned = λ place car e k s h. (let x = mapped opening_car vehicles place car e in
      let bad : slice_get (opening_of x.0).stops k ≡ Some s = subst (λ (c : Car). slice_get c.plan.stops k ≡ Some s) x.2 h in cc);
  waiting = λ k w e. cc;
}

-- ---- what waits

-- only the version is raised
pub next_consistent : (b : Board) → IsConsistent b → IsConsistent (with_next_version b)
next_consistent b h = record { planned = h.planned; waiting = h.waiting }

-- the last element of a list, or an older one
pub last_or : {X : Type 0} (xs : List X) (y : X) (k : ℕ) (x : X) → slice_get (xs ++ y ∷ []) k ≡ Some x
    → (slice_get xs k ≡ Some x) ⊎ (x ≡ y)
last_or [] y zero x h = inr cc
last_or [] y (suc k) x h = cc
last_or (z ∷ xs) y zero x h = inl h
last_or (z ∷ xs) y (suc k) x h = last_or xs y k x h

-- where no reason is told, none holds
pub passes : (b : Bool) (reason : Reason) (rest : Option Reason) → cond b (Some reason) rest ≡ None → (b ≡ false) × (rest ≡ None)
passes true reason rest h = cc
passes false reason rest h = (refl, h)

-- an accepted number has no answer yet
pub accepted_new : (b : Board) (r : Request) → refusal b r ≡ None → answer_of b r.no ≡ None
accepted_new b r h =
    let e = (passes _ Closed _ h).1 in let f = (passes _ Place _ e).1 in let g = (passes _ Riders _ f).1 in let i = (passes _ Moment _ g).1 in
    none (answer_of b r.no) (or_parts _ _ (passes (was_accepted b r.no) Repeated _ i).0).1
  where
    none : {X : Type 0} (o : Option X) → is_some o ≡ false → o ≡ None
    none None h = refl
    none (Some x) h = cc

-- a request more that is accepted
pub submitted_consistent : (b : Board) (r : Request) → refusal b r ≡ None → IsConsistent b
    → IsConsistent (record (with_next_version b) { waiting = b.waiting ++ record { request = r; holder = None } ∷ [] })
submitted_consistent b r h s = record { planned = s.planned; waiting = λ k w e. on k w (last_or b.waiting _ k w e) }
  where
    on : (k : ℕ) (w : Waiting) → (slice_get b.waiting k ≡ Some w) ⊎ (w ≡ record { request = r; holder = None }) → answer_of b w.request.no ≡ None
    on k w (inl x) = s.waiting k w x
    on k w (inr x) = ap (λ (w : Waiting). answer_of b w.request.no) x ∙ accepted_new b r h

-- one that waits with another holder was asked for before
pub same_request : (number : RequestNo) (holder : Option ℕ) (waiting : List Waiting) (k : ℕ) (w : Waiting) → slice_get (with_holder number holder waiting) k ≡ Some w
    → (x : Waiting) × (slice_get waiting k ≡ Some x) × (w.request ≡ x.request)
same_request number holder waiting k w e =
    let x = mapped (λ (w : Waiting). cond (is_number w.request.no number) (record w { holder = holder }) w) waiting k w e in
    (x.0, x.1, ap (λ (w : Waiting). w.request) x.2 ∙ same x.0 (is_number x.0.request.no number))
  where
    same : (w : Waiting) (c : Bool) → (cond c (record w { holder = holder }) w).request ≡ w.request
    same w true = refl
    same w false = refl

-- another holder
pub held_consistent : (b : Board) (number : RequestNo) (holder : Option ℕ) → IsConsistent b
    → IsConsistent (record (with_next_version b) { waiting = with_holder number holder b.waiting })
held_consistent b number holder s = record {
  planned = s.planned;
  waiting = λ k w e. (let x = same_request number holder b.waiting k w e in ap (λ (r : Request). answer_of b r.no) x.2 ∙ s.waiting k x.0 x.1);
}

-- an answer more, whose number waits no more
pub answered_consistent : (b : Board) (number : RequestNo) (decision : Decision) → IsConsistent b → IsConsistent (answered b number decision)
answered_consistent b number decision h = record {
  planned = λ place car e k s q. answered_still b.answers number s.no decision (h.planned place car e k s q);
  waiting = λ k w e. (let x = kept_by (λ (w : Waiting). not (is_number w.request.no number)) b.waiting k w e in
      unanswered_still b.answers number w.request.no decision (not-true _ x.2) (h.waiting x.0 w x.1));
}

-- a number more that is cancelled
pub cancelled_consistent : (b : Board) (number : RequestNo) → IsConsistent b → IsConsistent (with_cancelled b number)
cancelled_consistent b number h = record { planned = h.planned; waiting = h.waiting }

-- ---- what is planned

-- an element after a write is the new one, or an older one of another place
pub set_cases : {X : Type 0} (xs : List X) (i : ℕ) (x y : X) (k : ℕ) (z : X) → slice_get xs i ≡ Some x → slice_get (slice_set xs i y) k ≡ Some z
    → ((k ≡ i) × (z ≡ y)) ⊎ ((k ≡ i → ⊥) × (slice_get xs k ≡ Some z))
set_cases {X = X} xs i x y k z e h = on (cases_eq k i)
  where
    on : (k ≡ i) ⊎ (k ≡ i → ⊥) → ((k ≡ i) × (z ≡ y)) ⊎ ((k ≡ i → ⊥) × (slice_get xs k ≡ Some z))
    on (inl q) = inl (q, same_Some _ _ (sym h ∙ ap (slice_get (slice_set xs i y)) q ∙ set_here xs i x y e))
    on (inr q) = inr (q, sym (set_other xs i k y q) ∙ h)

-- another schedule of a vehicle, whose stops are of answered numbers
pub with_car_consistent : (b : Board) (place : ℕ) (old new : Car) → IsConsistent b → slice_get b.fleet.cars place ≡ Some old
    → ((k : ℕ) (s : Stop) → slice_get new.plan.stops k ≡ Some s → is_some (answer_of b s.no) ≡ true) → IsConsistent (with_car b place new)
with_car_consistent b place old new h e answers = record {
  planned = λ k car q. stops k car (set_cases b.fleet.cars place old new k car e q);
  waiting = h.waiting;
}
  where
    stops : (k : ℕ) (car : Car) → ((k ≡ place) × (car ≡ new)) ⊎ ((k ≡ place → ⊥) × (slice_get b.fleet.cars k ≡ Some car)) → (m : ℕ) (s : Stop)
        → slice_get car.plan.stops m ≡ Some s → is_some (answer_of b s.no) ≡ true
    stops k car (inl x) m s q = answers m s (subst (λ (c : Car). slice_get c.plan.stops m ≡ Some s) x.1 q)
    stops k car (inr x) m s q = h.planned k car x.1 m s q

-- a stop of a list with both new ones is one of them, or an older one
abbrev IsFromInserted : List Stop → (p d : Stop) → Stop → Type 0
IsFromInserted stops p d s = (s ≡ p) ⊎ ((s ≡ d) ⊎ ((m : ℕ) × (slice_get stops m ≡ Some s)))

from_inserted : (stops : List Stop) (at : Insertion) (p d : Stop) (k : ℕ) (s : Stop) → slice_get (with_both stops at p d) k ≡ Some s → IsFromInserted stops p d s
from_inserted stops at p d k s h = on (either (take at.i stops ++ p ∷ take (at.j - at.i) (drop at.i stops)) (d ∷ drop at.j stops) k s h)
  where
    dropped : (n m : ℕ) → slice_get (drop n stops) m ≡ Some s → IsFromInserted stops p d s
    dropped n m e = inr (inr (n + m, sym (slice_get-drop n stops m) ∙ e))

    last : (m : ℕ) → slice_get (d ∷ drop at.j stops) m ≡ Some s → IsFromInserted stops p d s
    last zero e = inr (inl (same_Some _ _ (sym e)))
    last (suc m) e = dropped at.j m e

    middle : (m : ℕ) → slice_get (p ∷ take (at.j - at.i) (drop at.i stops)) m ≡ Some s → IsFromInserted stops p d s
    middle zero e = inl (same_Some _ _ (sym e))
    middle (suc m) e = dropped at.i m (get_take (drop at.i stops) (at.j - at.i) m s e).1

    front : ((m : ℕ) × (slice_get (take at.i stops) m ≡ Some s)) ⊎ ((m : ℕ) × (slice_get (p ∷ take (at.j - at.i) (drop at.i stops)) m ≡ Some s))
        → IsFromInserted stops p d s
    front (inl x) = inr (inr (x.0, (get_take stops at.i x.0 s x.1).1))
    front (inr x) = middle x.0 x.1

    on : ((m : ℕ) × (slice_get (take at.i stops ++ p ∷ take (at.j - at.i) (drop at.i stops)) m ≡ Some s)) ⊎ ((m : ℕ) × (slice_get (d ∷ drop at.j stops) m ≡ Some s))
        → IsFromInserted stops p d s
    on (inl x) = front (either (take at.i stops) (p ∷ take (at.j - at.i) (drop at.i stops)) x.0 s x.1)
    on (inr x) = last x.0 x.1

-- a vehicle that takes in a request that waits
pub taken_consistent : (b : Board) (number : RequestNo) (a : Assigned) (direct : ℕ) (w : Waiting) (place : ℕ) (car : Car) → IsConsistent b → waiting_of b number ≡ Some w → slice_get b.fleet.cars place ≡ Some car
    → IsConsistent (with_car (answered b number (IsAssigned a)) place (taken_on b car w.request direct a))
taken_consistent b number a direct w place car h waits stands =
    with_car_consistent (answered b number (IsAssigned a)) place car (taken_on b car w.request direct a) (answered_consistent b number (IsAssigned a) h) stands
    (λ k s e. known s (from_inserted car.plan.stops a.offer.at (pickup_of w.request (promise_of b.fleet.rates w.request direct (price_in a.offer))) (dropoff_of w.request (promise_of b.fleet.rates w.request direct (price_in a.offer))) k s e))
  where
    now : (s : Stop) → s.no ≡ w.request.no → is_some (answer_of (answered b number (IsAssigned a)) s.no) ≡ true
    now s e = let f = found (λ (w : Waiting). is_number w.request.no number) b.waiting w waits in
        answered_now b.answers number s.no (IsAssigned a) (ap (λ (n : RequestNo). n.0) e ∙ eqb-true _ _ f.2)

    known : (s : Stop) → IsFromInserted car.plan.stops (pickup_of w.request (promise_of b.fleet.rates w.request direct (price_in a.offer))) (dropoff_of w.request (promise_of b.fleet.rates w.request direct (price_in a.offer))) s
        → is_some (answer_of (answered b number (IsAssigned a)) s.no) ≡ true
    known s (inl x) = now s (ap (λ (s : Stop). s.no) x)
    known s (inr (inl x)) = now s (ap (λ (s : Stop). s.no) x)
    known s (inr (inr x)) = answered_still b.answers number s.no (IsAssigned a) (h.planned place car stands x.0 s x.1)

-- a vehicle without the stops of riders who cancelled
pub removed_consistent : (b : Board) (number : RequestNo) (x : Removal) (place : ℕ) (car : Car) → IsConsistent b → slice_get b.fleet.cars place ≡ Some car
    → IsConsistent (with_car (with_cancelled b number) place (taken_off b car x))
removed_consistent b number x place car h stands =
    with_car_consistent (with_cancelled b number) place car (taken_off b car x) (cancelled_consistent b number h) stands
    (λ k s e. (let y = from_both car.plan.stops x.pickup x.dropoff k s e in h.planned place car stands y.0 s y.1))

-- a later clock
pub later_consistent : (b : Board) (now : ℕ) → IsConsistent b → IsConsistent (at_clock b now)
later_consistent b now h = record {
  planned = λ place car e k s q. (let x = mapped (moved_car b.fleet.rates (b.fleet.version + 1) now) b.fleet.cars place car e in
      let y : slice_get (advanced_in b.fleet.rates x.0.plan now).stops k ≡ Some s =
      subst (λ (p : Plan). slice_get p.stops k ≡ Some s) (ap (λ (c : Car). c.plan) x.2 ∙ moved_plan b.fleet.rates (b.fleet.version + 1) now x.0) q in
      h.planned place x.0 x.1 _ s (sym (slice_get-drop (reached_by b.fleet.rates x.0.plan now) x.0.plan.stops k) ∙ y));
  waiting = h.waiting;
}
