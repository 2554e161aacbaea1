use Rattle.std.proofs.Common.{◌≡◌, ℕ, ◌+◌, ◌-◌, ◌≤◌, List, length, Some, sym, ap, ◌∙◌, subst, arith}
use Rattle.std.specs.Prelude.{slice_get}
use Rattle.std.proofs.lemmas.Option.{same_Some, slice_get_within}
use Rattle.ride_base.specs.declared.numbers.RequestNo.{RequestNo}
use Rattle.stop_schedule.specs.declared.stop.Front.{Front}
use Rattle.stop_schedule.specs.Fleets.{Car, Fitting, FitsChanged, IsChange}
use Rattle.stop_schedule.specs.Fronts.{front_of}
use Rattle.stop_schedule.specs.Plans.{Plan}
use Rattle.stop_removal.specs.declared.removal.Removal.{Removal}
use Rattle.stop_removal.specs.Removals.{joint_ends, removed_in}
use Rattle.board_core.specs.BoardCalls.{MayRemove}
use Rattle.board_core.specs.BoardKept.{IsKeptPlan, IsKeptBoard, next_arrival}
use Rattle.board_core.specs.Boards.{Board}
use Rattle.board_core.specs.Changes.{IsChangedTo, IsTakenOff}
use Rattle.board_core.proofs.KeptFleets.{change_of}
use Rattle.board_core.proofs.KeptPlans.{removed_kept}

-- the schedule without the riders of a removal
abbrev pub less_plan : Board → Car → Removal → Plan
less_plan b car x = removed_in car.plan (front_of car.plan b.fleet.clock) x.pickup x.dropoff x.walks

-- both stops are in the list
pub last_within : (b : Board) (number : RequestNo) (x : Removal) (m : MayRemove b number x) → x.dropoff ≤ length m.car.plan.stops
last_within b number x m = let l = slice_get_within m.car.plan.stops (x.dropoff - 1) m.stops.dropoff m.stops.dropoff_stands in let o = m.stops.order in omega arith

-- it is kept
pub less_plan_kept : (Fits : Fitting) (b : Board) (arrivals : List ℕ) (number : RequestNo) (x : Removal) (m : MayRemove b number x) → IsKeptBoard Fits b arrivals → length m.car.plan.legs ≡ length m.car.plan.stops
    → b.fleet.clock ≤ (front_of m.car.plan b.fleet.clock).time → IsKeptPlan b.nodes b.fleet.rates b.fleet.clock (less_plan b m.car x)
less_plan_kept Fits b arrivals number x m kept many late = removed_kept b.nodes b.fleet.rates b.fleet.clock m.car.plan x.pickup x.dropoff (joint_ends m.car.plan.stops (front_of m.car.plan b.fleet.clock) x.pickup x.dropoff) x.walks
    (kept.fleet.plans m.assigned.offer.place m.car m.stands) many late m.stops.order (last_within b number x m) m.kept m.ways

-- it is made of what the board tells
pub less_plan_is : (b : Board) (car : Car) (x : Removal) (p : Plan) (f : Front) (new : Plan) → p ≡ car.plan → f ≡ front_of car.plan b.fleet.clock → new ≡ removed_in p f x.pickup x.dropoff x.walks → new ≡ less_plan b car x
less_plan_is b car x p f new hp hf hn = hn ∙ ap (λ (q : Plan). removed_in q f x.pickup x.dropoff x.walks) hp ∙ ap (λ (g : Front). removed_in car.plan g x.pickup x.dropoff x.walks) hf

-- so the vehicle's schedule may be changed
pub may_take_off : (Fits : Fitting) (b : Board) (arrivals : List ℕ) (number : RequestNo) (x : Removal) (m : MayRemove b number x) → IsKeptBoard Fits b arrivals → length m.car.plan.legs ≡ length m.car.plan.stops
    → b.fleet.clock ≤ (front_of m.car.plan b.fleet.clock).time → (new : Plan) → new ≡ less_plan b m.car x → (place : ℕ) → place ≡ m.assigned.offer.place → (car : Car) → slice_get b.fleet.cars place ≡ Some car → IsChange Fits b.fleet.rates place car.plan new
may_take_off Fits b arrivals number x m kept many late new is place there car e = subst (λ (k : ℕ). IsChange Fits b.fleet.rates k car.plan new) (sym there)
    (subst (λ (c : Car). IsChange Fits b.fleet.rates m.assigned.offer.place c.plan new) (same_Some _ _ (sym m.stands ∙ ap (slice_get b.fleet.cars) (sym there) ∙ e))
    (subst (IsChange Fits b.fleet.rates m.assigned.offer.place m.car.plan) (sym is) (change_of Fits b.nodes b.fleet arrivals m.assigned.offer.place m.car (less_plan b m.car x) kept.fleet m.stands
    (less_plan_kept Fits b arrivals number x m kept many late))))

-- and as it is, the vehicle goes on without them
pub takes_off : (Before After : Fitting) (b : Board) (arrivals : List ℕ) (number : RequestNo) (x : Removal) (place at : ℕ) (m : MayRemove b number x) → IsKeptBoard Before b arrivals → length m.car.plan.legs ≡ length m.car.plan.stops
    → b.fleet.clock ≤ (front_of m.car.plan b.fleet.clock).time → (new : Plan) → new ≡ less_plan b m.car x → place ≡ m.assigned.offer.place → (car : Car) (next : ℕ) → IsChangedTo Before After b.fleet place new at car next
    → IsTakenOff Before After b number x at car next
takes_off Before After b arrivals number x place at m kept many late new is there car next c = record {
  assigned = m.assigned;
  old = m.car;
  answer = m.answer;
  there = sym (c.there ∙ there);
  stands = ap (slice_get b.fleet.cars) (c.there ∙ there) ∙ m.stands;
  is = c.is m.car stands ∙ ap (λ (p : Plan). let k : Car = record m.car { plan = p; stamp = b.fleet.version + 1 } in k) is;
  change = record {
    next_is = c.next_is ∙ ap (λ (p : Plan). next_arrival b.fleet.rates p) (sym plan_is);
    fits = subst (λ (k : ℕ). FitsChanged Before After b.fleet.rates k m.car.plan car.plan) (sym c.there) (subst (FitsChanged Before After b.fleet.rates place m.car.plan) (sym plan_is) (c.fits m.car stands));
    kept = subst (IsKeptPlan b.nodes b.fleet.rates b.fleet.clock) (sym (plan_is ∙ is)) (less_plan_kept Before b arrivals number x m kept many late);
  };
}
  where
    stands : slice_get b.fleet.cars place ≡ Some m.car
    stands = ap (slice_get b.fleet.cars) there ∙ m.stands

    plan_is : car.plan ≡ new
    plan_is = ap (λ (k : Car). k.plan) (c.is m.car stands)
