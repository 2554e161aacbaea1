use Rattle.std.proofs.Common.{◌≡◌, ℕ, zero, suc, ◌+◌, ◌-◌, ◌<◌, ◌≤◌, ◌⊎◌, inl, inr, false, List, length, Some, is_some, sym, refl, ap, ◌∙◌, subst, arith}
use Rattle.std.specs.Prelude.{slice_get}
use Rattle.std.proofs.lemmas.Bool.{cases_order}
use Rattle.std.proofs.lemmas.Option.{cond_some, same_Some, slice_get_within}
use Rattle.ride_base.specs.declared.numbers.RequestNo.{RequestNo}
use Rattle.ride_base.specs.declared.numbers.VehicleNo.{VehicleNo}
use Rattle.road_graph.specs.Graphs.{IsGraph}
use Rattle.road_graph.specs.Paths.{Path}
use Rattle.road_graph.specs.Roads.{Roads}
use Rattle.stop_schedule.specs.declared.request.Request.{Request}
use Rattle.stop_schedule.specs.declared.vehicle.Vehicle.{Vehicle}
use Rattle.stop_schedule.specs.Bounds.{IsVehicle, AreVehicles}
use Rattle.stop_schedule.specs.Fleets.{Car, Cars}
use Rattle.stop_schedule.specs.Fronts.{front_of}
use Rattle.stop_schedule.specs.Lists.{inserted_in, changed_ends}
use Rattle.stop_schedule.specs.Plans.{Plan, opening_of}
use Rattle.stop_schedule.specs.Rates.{Rates}
use Rattle.stop_removal.specs.declared.removal.Removal.{Removal}
use Rattle.stop_removal.specs.Laws.{RemovalsKeepPromises}
use Rattle.insertion_cost.specs.declared.decision.Assigned.{Assigned}
use Rattle.insertion_cost.specs.declared.decision.Decision.{Decision}
use Rattle.insertion_cost.specs.declared.decision.Decision.TheVariants.{Assigned as IsAssigned}
use Rattle.insertion_cost.specs.declared.offer.Offer.{Offer}
use Rattle.stop_schedule.specs.Distances.{AreLeastWalks}
use Rattle.insertion_cost.specs.Offers.{HasPrice, price_in}
use Rattle.insertion_cost.specs.Prices.{Price, promise_of}
use Rattle.board_core.specs.Boards.{Board, Waiting, IsConsistent, opening_board, opening_car, is_number, waiting_of, answer_of}
use Rattle.board_core.specs.Steps.{answered, taken_on, taken_off, with_car, with_cancelled, IsTaken, IsRemoved, at_clock, moved_car}
use Rattle.board_core.proofs.StopCounts.{IsNew}
use Rattle.board_core.proofs.Lookups.{found, mapped, AreDistinct}
use Rattle.board_core.proofs.Advances.{moved_plan, moved_no, moved_stamp}
use Rattle.board_core.proofs.Ahead.{new_ahead}
use Rattle.board_core.proofs.GoodPlans.{IsGood, new_placed, advanced_good, removed_good}
use Rattle.board_core.proofs.Consistent.{set_cases, opening_consistent, answered_consistent, cancelled_consistent, taken_consistent, removed_consistent, later_consistent}
use Rattle.board_core.proofs.Inserts.{within}
use Rattle.board_core.proofs.NewPlans.{fits, new_sound}

-- What each vehicle of a board meets: its schedule is good at the clock, and its stamp isn't past the version.
pub record IsSoundCar (g : Roads) (rates : Rates) (clock version : ℕ) (car : Car) : Type 0 where
  pub plan : IsGood g rates clock car.plan
  pub stamp : car.stamp ≤ version

abbrev pub AreSoundCars : Roads → Cars → Type 0
AreSoundCars g fleet = (place : ℕ) (car : Car) → slice_get fleet.cars place ≡ Some car → IsSoundCar g fleet.rates fleet.clock fleet.version car

-- the numbers of vehicles rise with their places
abbrev pub AreRising : List Car → Type 0
AreRising cars = (k : ℕ) (car next : Car) → slice_get cars k ≡ Some car → slice_get cars (suc k) ≡ Some next → car.no.0 < next.no.0

-- What each board of a legal history meets: the vehicles are sound and stand in the order of their numbers, and the answers agree
-- with the other parts.
pub record IsSoundBoard (g : Roads) (b : Board) : Type 0 where
  pub cars : AreSoundCars g b.fleet
  pub rising : AreRising b.fleet.cars
  pub consistent : IsConsistent b

-- rising numbers rise over any distance
rises : (cars : List Car) → AreRising cars → (n k : ℕ) (c d : Car) → slice_get cars k ≡ Some c → slice_get cars (suc (k + n)) ≡ Some d → c.no.0 < d.no.0
rises cars r zero k c d a b = r k c d a ((let e : suc k ≡ suc (k + 0) = omega arith in ap (slice_get cars) e) ∙ b)
rises cars r (suc n) k c d a b = step (within cars (suc (k + n)) (let l = slice_get_within cars _ d b in omega arith)) (λ x h. rises cars r n k c x a h)
  where
    next : slice_get cars (suc (suc (k + n))) ≡ Some d
    next = (let e : suc (suc (k + n)) ≡ suc (k + suc n) = omega arith in ap (slice_get cars) e) ∙ b

    step : (x : Car) × (slice_get cars (suc (k + n)) ≡ Some x) → ((x : Car) → slice_get cars (suc (k + n)) ≡ Some x → c.no.0 < x.no.0) → c.no.0 < d.no.0
    step x before = let a = before x.0 x.1 in let b = r (suc (k + n)) x.0 d x.1 next in omega arith

-- so each vehicle has a number of its own
pub rising_distinct : (cars : List Car) → AreRising cars → AreDistinct cars
rising_distinct cars r p q c d hp hq e = on (cases_order p q)
  where
    after : (k l : ℕ) (v w : Car) → k < l → slice_get cars k ≡ Some v → slice_get cars l ≡ Some w → v.no.0 < w.no.0
    after k l v w b x y = let m : l ≡ suc (k + (l - suc k)) = omega arith in rises cars r (l - suc k) k v w x (ap (slice_get cars) (sym m) ∙ y)

    on : (p ≡ q) ⊎ ((p < q) ⊎ (q < p)) → p ≡ q
    on (inl h) = h
    on (inr (inl h)) = let l = after p q c d h hp hq in absurd (omega arith)
    on (inr (inr h)) = let l = after q p d c h hq hp in absurd (omega arith)

-- a schedule without stops
opening_plan : (g : Roads) (rates : Rates) (v : Vehicle) → IsVehicle g.nodes v → IsGood g rates 0 (opening_of v)
opening_plan g rates v h = record {
  sound = record {
    picked_up_once = λ number. omega arith;
    dropped_off_once = λ number. omega arith;
    dropped_off_later = λ k s e up. let bad = e in cc;
    chained = tt;
    kept = record { few = omega arith; seated = λ i l. absurd (omega arith); in_time = λ k s e. absurd (let bad = e in cc); over = λ l. absurd (omega arith) };
  };
  placed = (h.start_from_1, h.start_to_last);
  ahead = λ l. absurd (omega arith);
}

-- an opening board is sound
pub opening_sound : (g : Roads) (rates : Rates) (vehicles : List Vehicle) → AreVehicles g.nodes vehicles → IsSoundBoard g (opening_board g.nodes rates vehicles)
opening_sound g rates vehicles f = record {
  cars = λ place car e. (let x = mapped opening_car vehicles place car e in
      subst (IsSoundCar g rates 0 0) (sym x.2) (record { plan = opening_plan g rates x.0 (f.each place x.0 x.1); stamp = omega arith }));
  rising = λ k car next a b. (let x = mapped opening_car vehicles k car a in let y = mapped opening_car vehicles (suc k) next b in let l = f.rising k x.0 y.0 x.1 y.1 in
      let p = ap (λ (c : Car). c.no.0) x.2 in let q = ap (λ (c : Car). c.no.0) y.2 in omega arith);
  consistent = opening_consistent g.nodes rates vehicles;
}

-- no vehicle changes as the version is raised
pub next_cars : (g : Roads) (fleet : Cars) → AreSoundCars g fleet → AreSoundCars g (record fleet { version = fleet.version + 1 })
next_cars g fleet h place car e = let x = h place car e in record { plan = x.plan; stamp = (let s = x.stamp in omega arith) }

-- a board with an answer more, whose number waits no more
pub answered_sound : (g : Roads) (b : Board) (number : RequestNo) (decision : Decision) → IsSoundBoard g b → IsSoundBoard g (answered b number decision)
answered_sound g b number decision h = record {
  cars = next_cars g b.fleet h.cars;
  rising = h.rising;
  consistent = answered_consistent b number decision h.consistent;
}

-- a board with a number more that is cancelled
pub cancelled_sound : (g : Roads) (b : Board) (number : RequestNo) → IsSoundBoard g b → IsSoundBoard g (with_cancelled b number)
cancelled_sound g b number h = record { cars = next_cars g b.fleet h.cars; rising = h.rising; consistent = cancelled_consistent b number h.consistent }

-- a board with another schedule of one of its vehicles
pub with_car_sound : (g : Roads) (b : Board) (place : ℕ) (old new : Car) → IsSoundBoard g b → slice_get b.fleet.cars place ≡ Some old → new.no ≡ old.no → IsSoundCar g b.fleet.rates b.fleet.clock b.fleet.version new
    → IsConsistent (with_car b place new) → IsSoundBoard g (with_car b place new)
with_car_sound g b place old new h e same sound consistent = record {
  cars = λ k car q. each k car (set_cases b.fleet.cars place old new k car e q);
  consistent = consistent;
  rising = λ k c d hk hn. (let x = stood k c (set_cases b.fleet.cars place old new k c e hk) in let y = stood (suc k) d (set_cases b.fleet.cars place old new (suc k) d e hn) in
      let l = h.rising k x.0 y.0 x.1 y.1 in let a = ap (λ (v : VehicleNo). v.0) x.2 in let b = ap (λ (v : VehicleNo). v.0) y.2 in omega arith);
}
  where
    each : (k : ℕ) (car : Car) → ((k ≡ place) × (car ≡ new)) ⊎ ((k ≡ place → ⊥) × (slice_get b.fleet.cars k ≡ Some car)) → IsSoundCar g b.fleet.rates b.fleet.clock b.fleet.version car
    each k car (inl x) = subst (IsSoundCar g b.fleet.rates b.fleet.clock b.fleet.version) (sym x.1) sound
    each k car (inr x) = h.cars k car x.1

    stood : (k : ℕ) (car : Car) → ((k ≡ place) × (car ≡ new)) ⊎ ((k ≡ place → ⊥) × (slice_get b.fleet.cars k ≡ Some car)) → (c : Car) × (slice_get b.fleet.cars k ≡ Some c) × (car.no ≡ c.no)
    stood k car (inl x) = (old, ap (slice_get b.fleet.cars) x.0 ∙ e, ap (λ (c : Car). c.no) x.1 ∙ same)
    stood k car (inr x) = (car, x.1, refl)

-- a number that waits is in no schedule
pub waiting_new : (g : Roads) (b : Board) (number : RequestNo) (w : Waiting) (place : ℕ) (car : Car) → IsSoundBoard g b → waiting_of b number ≡ Some w
    → slice_get b.fleet.cars place ≡ Some car → IsNew car.plan.stops w.request.no
waiting_new g b number w place car h e q k s t same = let x = found (λ (w : Waiting). is_number w.request.no number) b.waiting w e in let some = h.consistent.planned place car q k s t in let none = h.consistent.waiting x.0 w x.1 in
    let n : s.no ≡ w.request.no = ap (λ (k : ℕ). let r : RequestNo = record { 0 = k } in r) same in
    let bad : is_some (answer_of b s.no) ≡ false = ap (λ (n : RequestNo). is_some (answer_of b n)) n ∙ ap is_some none in cc

-- an offer that was priced leaves its schedule good
priced_good : (g : Roads) → IsGraph g → (rates : Rates) (clock : ℕ) (p : Plan) (r : Request) (o : Offer) (direct : ℕ) (walks : List Path) → IsGood g rates clock p → IsNew p.stops r.no
    → HasPrice g rates (front_of p clock) p r o.at (price_in o)
    → AreLeastWalks g (changed_ends p.stops (front_of p clock) r o.at) walks
    → IsGood g rates clock (inserted_in p (front_of p clock) r o.at (promise_of rates r direct (price_in o)) walks) × (o.at.i ≤ o.at.j) × (o.at.j ≤ length p.stops)
priced_good g graph rates clock p r o direct walks s new h w = let q = cond_some _ _ _ h.priced_so in let f = fits rates p (front_of p clock) r o.at h.lengths q.0 in
    let leave = ap (λ (x : Price). x.leave) q.1 in let arrive = ap (λ (x : Price). x.arrive) q.1 in (
      record {
        sound = new_sound g rates p (front_of p clock) r o.at (promise_of rates r direct (price_in o)) h.lengths walks s.sound new q.0 h.changed_legs w (omega arith) (omega arith);
        placed = new_placed g graph p clock o.at s.placed s.sound.chained;
        ahead = new_ahead g rates p clock r o.at (promise_of rates r direct (price_in o)) walks s.sound.chained f.ordered f.within s.ahead;
      },
      f.ordered,
      f.within,
    )

-- so is the schedule that a lawful assignment gives its vehicle
pub taken_good : (g : Roads) → IsGraph g → (old : Board) (number : RequestNo) (a : Assigned) (new : Board) (t : IsTaken g old number a new) → IsSoundBoard g old
    → IsGood g old.fleet.rates old.fleet.clock (taken_on old t.car t.waits.request t.direct a).plan × (a.offer.at.i ≤ a.offer.at.j) × (a.offer.at.j ≤ length t.car.plan.stops)
taken_good g graph old number a new t h = let o = t.best.feasible in let e : o.car ≡ t.car = same_Some _ _ (sym o.stands ∙ t.stands) in
    priced_good g graph old.fleet.rates old.fleet.clock t.car.plan t.waits.request a.offer t.direct a.walks (h.cars a.offer.place t.car t.stands).plan (waiting_new g old number t.waits a.offer.place t.car h t.waiting t.stands)
    (subst (λ (c : Car). HasPrice g old.fleet.rates (front_of c.plan old.fleet.clock) c.plan t.waits.request a.offer.at (price_in a.offer)) e o.price) t.walks

-- the new board of a lawful assignment
pub assigned_sound : (g : Roads) → IsGraph g → (old : Board) (number : RequestNo) (a : Assigned) (new : Board) → IsTaken g old number a new → IsSoundBoard g old → IsSoundBoard g new
assigned_sound g graph old number a new t h = let s = taken_good g graph old number a new t h in subst (IsSoundBoard g) (sym t.leads_to)
    (with_car_sound g (answered old number (IsAssigned a)) a.offer.place t.car (taken_on old t.car t.waits.request t.direct a) (answered_sound g old number (IsAssigned a) h) t.stands refl (record { plan = s.0; stamp = omega arith })
    (taken_consistent old number a t.direct t.waits a.offer.place t.car h.consistent t.waiting t.stands))

-- the new board of a lawful removal
pub removed_sound : RemovalsKeepPromises → (g : Roads) → IsGraph g → (old : Board) (number : RequestNo) (x : Removal) (new : Board) → IsRemoved g old number x new → IsSoundBoard g old → IsSoundBoard g new
removed_sound removals g graph old number x new t h = subst (IsSoundBoard g) (sym t.leads_to)
    (with_car_sound g (with_cancelled old number) t.assigned.offer.place t.car (taken_off old t.car x) (cancelled_sound g old number h) t.stands refl
    (record { plan = removed_good removals g graph old.fleet.rates old.fleet.clock t.car.plan number x.pickup x.dropoff x.walks (h.cars t.assigned.offer.place t.car t.stands).plan t.stops t.walks; stamp = omega arith })
    (removed_consistent old number x t.assigned.offer.place t.car h.consistent t.stands))

-- the board at a later clock
pub later_sound : (g : Roads) → IsGraph g → (b : Board) (now : ℕ) → IsSoundBoard g b → IsSoundBoard g (at_clock b now)
later_sound g graph b now h = record {
  cars = λ place car e. (let x = stood place car e in subst (IsSoundCar g b.fleet.rates now (b.fleet.version + 1)) (sym x.2) (record {
    plan = subst (IsGood g b.fleet.rates now) (sym (moved_plan b.fleet.rates (b.fleet.version + 1) now x.0)) (advanced_good g graph b.fleet.rates b.fleet.clock now x.0.plan (h.cars place x.0 x.1).plan);
    stamp = moved_stamp b.fleet.rates b.fleet.version now x.0 (h.cars place x.0 x.1).stamp;
  }));
  rising = λ k c d hk hn. (let x = stood k c hk in let y = stood (suc k) d hn in let l = h.rising k x.0 y.0 x.1 y.1 in let a = number x.0 c x.2 in let b = number y.0 d y.2 in omega arith);
  consistent = later_consistent b now h.consistent;
}
  where
    stood : (place : ℕ) (car : Car) → slice_get (at_clock b now).fleet.cars place ≡ Some car
        → (c : Car) × (slice_get b.fleet.cars place ≡ Some c) × (car ≡ moved_car b.fleet.rates (b.fleet.version + 1) now c)
    stood place car e = mapped (moved_car b.fleet.rates (b.fleet.version + 1) now) b.fleet.cars place car e

    number : (c d : Car) → d ≡ moved_car b.fleet.rates (b.fleet.version + 1) now c → d.no.0 ≡ c.no.0
    number c d e = ap (λ (c : Car). c.no.0) e ∙ ap (λ (v : VehicleNo). v.0) (moved_no b.fleet.rates (b.fleet.version + 1) now c)
