use Rattle.std.proofs.Common.{◌≡◌, ℕ, ◌+◌, ◌≤◌, List, length, Some, sym, ap, ◌∙◌, subst, arith}
use Rattle.std.specs.Prelude.{slice_get, IfOk, Result, Ok, Err}
use Rattle.std.proofs.lemmas.Option.{same_Some}
use Rattle.ride_base.specs.declared.numbers.RequestNo.{RequestNo}
use Rattle.stop_schedule.specs.declared.request.Request.{Request}
use Rattle.stop_schedule.specs.declared.stop.Front.{Front}
use Rattle.stop_schedule.specs.declared.stop.Promise.{Promise}
use Rattle.stop_schedule.specs.Fleets.{Car, Fitting, FitsChanged, IsChange}
use Rattle.stop_schedule.specs.Fronts.{front_of}
use Rattle.stop_schedule.specs.Lists.{changed_ends, inserted_in}
use Rattle.stop_schedule.specs.Plans.{Plan}
use Rattle.stop_schedule.specs.Rates.{Rates}
use Rattle.insertion_cost.specs.declared.decision.Assigned.{Assigned}
use Rattle.insertion_cost.specs.declared.decision.Decision.TheVariants.{Assigned as IsAssigned}
use Rattle.insertion_cost.specs.Offers.{price_in}
use Rattle.insertion_cost.specs.Prices.{promise_of}
use Rattle.board_core.specs.BoardCalls.{AreWaysBetween, MayApply}
use Rattle.board_core.specs.BoardKept.{IsAccepted, IsKeptPlan, IsKeptBoard, next_arrival}
use Rattle.board_core.specs.Boards.{Board, Waiting, is_number, waiting_of}
use Rattle.board_core.specs.Changes.{IsChangedTo, IsTakenOn}
use Rattle.board_core.specs.Steps.{taken_on}
use Rattle.board_core.proofs.KeptFleets.{change_of}
use Rattle.board_core.proofs.KeptPlans.{IsPriced, priced_so, inserted_kept}
use Rattle.board_core.proofs.Lookups.{found}

-- A possible assignment of a board, by its parts: the vehicle that stands in its place, and what is so of its schedule and the request.
pub record IsReady (b : Board) (w : Waiting) (a : Assigned) : Type 0 where
  pub car : Car
  pub stands : slice_get b.fleet.cars a.offer.place ≡ Some car
  pub accepted : IsAccepted b.nodes w.request
  pub plan : IsKeptPlan b.nodes b.fleet.rates b.fleet.clock car.plan
  pub priced : IsPriced b.fleet.rates car.plan (front_of car.plan b.fleet.clock) w.request a.offer.at a.walks a.offer.leave a.offer.arrive
  pub ways : AreWaysBetween b.nodes (changed_ends car.plan.stops (front_of car.plan b.fleet.clock) w.request a.offer.at) a.walks

pub ready : (Fits : Fitting) (b : Board) (arrivals : List ℕ) (number : RequestNo) (a : Assigned) (direct : ℕ) (w : Waiting) → IsKeptBoard Fits b arrivals → MayApply b number (IsAssigned a) direct → waiting_of b number ≡ Some w → IsReady b w a
ready Fits b arrivals number a direct w kept may waits = let p = may.2 in record {
  car = p.car;
  stands = p.stands;
  accepted = (let f = found (λ (w : Waiting). is_number w.request.no number) b.waiting w waits in kept.accepted f.0 w f.1);
  plan = kept.fleet.plans a.offer.place p.car p.stands;
  priced = subst (λ (r : Request). IsPriced b.fleet.rates p.car.plan (front_of p.car.plan b.fleet.clock) r a.offer.at a.walks a.offer.leave a.offer.arrive) same
      (priced_so b.fleet.rates p.car.plan (front_of p.car.plan b.fleet.clock) may.0.request a.offer.at direct p.cost a.offer.leave a.offer.arrive a.walks p.priced_so);
  ways = subst (λ (r : Request). AreWaysBetween b.nodes (changed_ends p.car.plan.stops (front_of p.car.plan b.fleet.clock) r a.offer.at) a.walks) same p.ways;
}
  where
    same : may.0.request ≡ w.request
    same = ap (λ (w : Waiting). w.request) (same_Some _ _ (sym may.1 ∙ waits))

-- the schedule that takes the request in
abbrev pub new_plan : Board → Car → Waiting → Assigned → ℕ → Plan
new_plan b car w a direct = inserted_in car.plan (front_of car.plan b.fleet.clock) w.request a.offer.at (promise_of b.fleet.rates w.request direct (price_in a.offer)) a.walks

-- it is kept
pub new_plan_kept : (b : Board) (w : Waiting) (a : Assigned) (direct : ℕ) (r : IsReady b w a) → length r.car.plan.legs ≡ length r.car.plan.stops → b.fleet.clock ≤ (front_of r.car.plan b.fleet.clock).time
    → IsKeptPlan b.nodes b.fleet.rates b.fleet.clock (new_plan b r.car w a direct)
new_plan_kept b w a direct r many late = inserted_kept b.nodes b.fleet.rates b.fleet.clock r.car.plan w.request a.offer.at (promise_of b.fleet.rates w.request direct (price_in a.offer)) a.walks a.offer.leave a.offer.arrive
    r.plan many late r.accepted.pickup r.accepted.dropoff r.priced (omega arith) (omega arith) r.ways

-- it is made of what the board tells
pub new_plan_is : (b : Board) (car : Car) (w : Waiting) (a : Assigned) (direct : ℕ) (rates : Rates) (p : Plan) (f : Front) (m : Promise) (new : Plan) → p ≡ car.plan → f ≡ front_of car.plan b.fleet.clock
    → rates ≡ b.fleet.rates → m ≡ promise_of rates w.request direct (price_in a.offer) → new ≡ inserted_in p f w.request a.offer.at m a.walks → new ≡ new_plan b car w a direct
new_plan_is b car w a direct rates p f m new hp hf hr hm hn = hn ∙ parts (hm ∙ ap (λ (r : Rates). promise_of r w.request direct (price_in a.offer)) hr)
  where
    parts : m ≡ promise_of b.fleet.rates w.request direct (price_in a.offer) → inserted_in p f w.request a.offer.at m a.walks ≡ new_plan b car w a direct
    parts h = ap (λ (q : Plan). inserted_in q f w.request a.offer.at m a.walks) hp ∙ ap (λ (g : Front). inserted_in car.plan g w.request a.offer.at m a.walks) hf
        ∙ ap (λ (n : Promise). inserted_in car.plan (front_of car.plan b.fleet.clock) w.request a.offer.at n a.walks) h

-- so the vehicle's schedule may be changed
pub may_take_on : (Fits : Fitting) (b : Board) (arrivals : List ℕ) (w : Waiting) (a : Assigned) (direct : ℕ) (r : IsReady b w a) → IsKeptBoard Fits b arrivals → length r.car.plan.legs ≡ length r.car.plan.stops
    → b.fleet.clock ≤ (front_of r.car.plan b.fleet.clock).time → (new : Plan) → new ≡ new_plan b r.car w a direct → (car : Car) → slice_get b.fleet.cars a.offer.place ≡ Some car → IsChange Fits b.fleet.rates a.offer.place car.plan new
may_take_on Fits b arrivals w a direct r kept many late new is car e = subst (λ (c : Car). IsChange Fits b.fleet.rates a.offer.place c.plan new) (same_Some _ _ (sym r.stands ∙ e))
    (subst (IsChange Fits b.fleet.rates a.offer.place r.car.plan) (sym is) (change_of Fits b.nodes b.fleet arrivals a.offer.place r.car (new_plan b r.car w a direct) kept.fleet r.stands (new_plan_kept b w a direct r many late)))

-- and as it is, the vehicle takes the request in
pub takes_on : (Before After : Fitting) (b : Board) (number : RequestNo) (w : Waiting) (a : Assigned) (direct place : ℕ) (r : IsReady b w a) → waiting_of b number ≡ Some w → length r.car.plan.legs ≡ length r.car.plan.stops
    → b.fleet.clock ≤ (front_of r.car.plan b.fleet.clock).time → (new : Plan) → new ≡ new_plan b r.car w a direct → (car : Car) (next : ℕ) → IsChangedTo Before After b.fleet a.offer.place new place car next
    → IsTakenOn Before After b number a direct place car next
takes_on Before After b number w a direct place r waits many late new is car next c = record {
  there = sym c.there;
  waits = w;
  old = r.car;
  waiting = waits;
  stands = ap (slice_get b.fleet.cars) c.there ∙ r.stands;
  is = car_is;
  change = record {
    next_is = c.next_is ∙ ap (λ (p : Plan). next_arrival b.fleet.rates p) (sym plan_is);
    fits = subst (λ (k : ℕ). FitsChanged Before After b.fleet.rates k r.car.plan car.plan) (sym c.there) (subst (FitsChanged Before After b.fleet.rates a.offer.place r.car.plan) (sym plan_is) (c.fits r.car r.stands));
    kept = subst (IsKeptPlan b.nodes b.fleet.rates b.fleet.clock) (sym (plan_is ∙ is)) (new_plan_kept b w a direct r many late);
  };
}
  where
    plan_is : car.plan ≡ new
    plan_is = ap (λ (k : Car). k.plan) (c.is r.car r.stands)

    car_is : car ≡ taken_on b r.car w.request direct a
    car_is = c.is r.car r.stands ∙ ap (λ (p : Plan). let k : Car = record r.car { plan = p; stamp = b.fleet.version + 1 } in k) is

-- what is so of each good result
pub ok_after : {X E : Type 0} (P Q : X → Type 0) (r : Result X E) → ((x : X) → P x → Q x) → IfOk r P → IfOk r Q
ok_after P Q (Ok x) f h = f x h
ok_after P Q (Err e) f h = h
