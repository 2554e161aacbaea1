use Rattle.std.proofs.Common.{◌≡◌, ℕ, ◌+◌, ◌⊎◌, inl, inr, false, List, [], ◌∷◌, ◌++◌, append_assoc, length, Some, sym, refl, ap, ◌∙◌, subst}
use Rattle.std.specs.Prelude.{slice_get, slice_set}
use Rattle.std.proofs.lemmas.Bool.{cases_eq, eqb-false, or_parts}
use Rattle.std.proofs.lemmas.List.{append-nil}
use Rattle.std.proofs.lemmas.Option.{same_Some}
use Rattle.ride_base.specs.declared.numbers.RequestNo.{RequestNo}
use Rattle.ride_base.specs.declared.numbers.VehicleNo.{VehicleNo}
use Rattle.road_graph.specs.Graphs.{IsGraph}
use Rattle.road_graph.specs.Roads.{Roads}
use Rattle.road_graph.specs.Walks.{IsDist}
use Rattle.stop_schedule.specs.declared.request.Request.{Request}
use Rattle.stop_schedule.specs.declared.stop.Promise.{Promise}
use Rattle.stop_schedule.specs.Fleets.{Car}
use Rattle.stop_schedule.specs.Lists.{pickup_of, dropoff_of}
use Rattle.stop_schedule.specs.Plans.{Plan, course_of}
use Rattle.stop_advance.specs.declared.served.Served.{Served}
use Rattle.stop_advance.specs.Advance.{served_by, reached_by, advanced_in}
use Rattle.stop_removal.specs.declared.removal.Removal.{Removal}
use Rattle.stop_removal.specs.Laws.{RemovalsKeepPromises}
use Rattle.insertion_cost.specs.declared.decision.Assigned.{Assigned}
use Rattle.insertion_cost.specs.declared.decision.Decision.TheVariants.{Assigned as IsAssigned, Nobody}
use Rattle.insertion_cost.specs.Offers.{price_in}
use Rattle.insertion_cost.specs.Prices.{promise_of}
use Rattle.board_core.specs.declared.entry.Submitted.TheVariants.{Accepted, Refused}
use Rattle.board_core.specs.declared.entry.Advanced.TheVariants.{Moved, Back as Behind}
use Rattle.board_core.specs.declared.entry.Cancelled.TheVariants.{Removed, Refused as Declined}
use Rattle.board_core.specs.declared.entry.Entry.{Entry}
use Rattle.board_core.specs.declared.entry.Entry.TheVariants.{Submit, Claim, Back, Commit, Advance, Cancel, Shut}
use Rattle.board_core.specs.Boards.{Board, Waiting, waiting_of, opening_board}
use Rattle.board_core.specs.Histories.{Legal}
use Rattle.board_core.specs.Promises.{served_by_vehicle, served_through, takes_off, have_cancelled, HasRider, WasAssigned}
use Rattle.board_core.specs.Steps.{answered, taken_on, taken_off, with_car, with_cancelled, IsTaken, IsRemoved, moved_car, served_in, at_clock, Step}
use Rattle.board_core.specs.Laws.{LegalHistoriesKeepPromises}
use Rattle.board_core.proofs.GoodPlans.{IsGood, removed_good}
use Rattle.board_core.proofs.LegalHistories.{legal_unique, legal_split}
use Rattle.board_core.proofs.RidersLeft.{rider_left}
use Rattle.board_core.proofs.SoundBoards.{IsSoundBoard, rising_distinct, opening_sound, taken_good}
use Rattle.board_core.proofs.NewLegs.{dist_unique}
use Rattle.board_core.proofs.Lookups.{map_at, set_here, set_other, by_vehicle}
use Rattle.board_core.proofs.Advances.{reached-le, moved_plan, moved_no}
use Rattle.board_core.proofs.Riders.{rider_moves, rider_stays, rider_starts}
use Rattle.board_core.proofs.NewStops.{both_other}
use Rattle.board_core.proofs.SoundPlans.{sound_is}
use Rattle.board_core.proofs.SoundSteps.{step_sound, legal_sound}

-- the vehicle at one place has this number, and has the rider as promised, with these stops served so far
abbrev IsRiding : Board → ℕ → VehicleNo → List Served → Request → Promise → Type 0
IsRiding b place number served r promise = (car : Car) × (slice_get b.fleet.cars place ≡ Some car) × (car.no ≡ number) × HasRider b.fleet.rates car.plan served r promise

-- the stops of one vehicle that one entry serves
abbrev served_at : VehicleNo → Entry → List Served
served_at number (Submit r submitted) = []
served_at number (Claim n desk) = []
served_at number (Back n) = []
served_at number (Commit n decision) = []
served_at number (Advance now (Moved served)) = served_by_vehicle number served
served_at number (Advance now (Behind clock)) = []
served_at number (Cancel n cancelled) = []
served_at number Shut = []

-- the first of some entries and the others
served_first : (number : VehicleNo) (e : Entry) (entries : List Entry) → served_through number (e ∷ entries) ≡ served_at number e ++ served_through number entries
served_first number (Submit r s) entries = refl
served_first number (Claim n desk) entries = refl
served_first number (Back n) entries = refl
served_first number (Commit n decision) entries = refl
served_first number (Advance now (Moved served)) entries = refl
served_first number (Advance now (Behind clock)) entries = refl
served_first number (Cancel n cancelled) entries = refl
served_first number Shut entries = refl

-- where the vehicles stay
riding_on : (b : Board) (place : ℕ) (number : VehicleNo) (served : List Served) (r : Request) (promise : Promise) → IsRiding b place number served r promise
    → IsRiding b place number (served ++ []) r promise
riding_on b place number served r promise h = subst (λ (l : List Served). IsRiding b place number l r promise) (sym (append-nil served)) h

-- where a vehicle takes in another rider
riding_taken : (g : Roads) → IsGraph g → (old : Board) (number : RequestNo) (a : Assigned) (new : Board) (t : IsTaken g old number a new) → IsSoundBoard g old
    → (place : ℕ) (car : Car) (served : List Served) (r : Request) (promise : Promise) → slice_get old.fleet.cars place ≡ Some car
    → HasRider old.fleet.rates car.plan served r promise → IsRiding new place car.no served r promise
riding_taken g graph old number a new t s place car served r promise e h = subst (λ (b : Board). IsRiding b place car.no served r promise) (sym t.leads_to) (on (cases_eq place a.offer.place))
  where
    same : place ≡ a.offer.place → car ≡ t.car
    same q = same_Some _ _ (sym e ∙ ap (slice_get old.fleet.cars) q ∙ t.stands)

    after : Car
    after = taken_on old t.car t.waits.request t.direct a

    on : (place ≡ a.offer.place) ⊎ (place ≡ a.offer.place → ⊥)
        → IsRiding (with_car (answered old number (IsAssigned a)) a.offer.place (taken_on old t.car t.waits.request t.direct a)) place car.no served r promise
    on (inl q) = let k = taken_good g graph old number a new t s in (
      taken_on old t.car t.waits.request t.direct a,
      ap (slice_get (slice_set old.fleet.cars a.offer.place after)) q ∙ set_here old.fleet.cars a.offer.place t.car after t.stands,
      sym (ap (λ (c : Car). c.no) (same q)),
      rider_stays old.fleet.rates car.plan (taken_on old t.car t.waits.request t.direct a).plan served r promise a.offer.at k.0.sound.kept
          (λ m x f. both_other t.car.plan.stops a.offer.at (pickup_of t.waits.request (promise_of old.fleet.rates t.waits.request t.direct (price_in a.offer))) (dropoff_of t.waits.request (promise_of old.fleet.rates t.waits.request t.direct (price_in a.offer))) k.1 k.2 m x
          (subst (λ (c : Car). slice_get c.plan.stops m ≡ Some x) (same q) f)) h,
    )
    on (inr q) = (car, set_other old.fleet.cars a.offer.place place after q ∙ e, refl, h)

-- where others are taken off a vehicle
riding_removed : RemovalsKeepPromises → (g : Roads) → IsGraph g → (old : Board) (number : RequestNo) (x : Removal) (new : Board) (t : IsRemoved g old number x new) → IsSoundBoard g old
    → (place : ℕ) (car : Car) (served : List Served) (r : Request) (promise : Promise) → slice_get old.fleet.cars place ≡ Some car → (number.0 ≡ r.no.0 → ⊥)
    → HasRider old.fleet.rates car.plan served r promise → IsRiding new place car.no served r promise
riding_removed removals g graph old number x new t s place car served r promise e apart h = subst (λ (b : Board). IsRiding b place car.no served r promise) (sym t.leads_to) (on (cases_eq place t.assigned.offer.place))
  where
    same : place ≡ t.assigned.offer.place → car ≡ t.car
    same q = same_Some _ _ (sym e ∙ ap (slice_get old.fleet.cars) q ∙ t.stands)

    after : Car
    after = taken_off old t.car x

    good : IsGood g old.fleet.rates old.fleet.clock after.plan
    good = removed_good removals g graph old.fleet.rates old.fleet.clock t.car.plan number x.pickup x.dropoff x.walks (s.cars t.assigned.offer.place t.car t.stands).plan t.stops t.walks

    on : (place ≡ t.assigned.offer.place) ⊎ (place ≡ t.assigned.offer.place → ⊥)
        → IsRiding (with_car (with_cancelled old number) t.assigned.offer.place (taken_off old t.car x)) place car.no served r promise
    on (inl q) = (
      taken_off old t.car x,
      ap (slice_get (slice_set old.fleet.cars t.assigned.offer.place after)) q ∙ set_here old.fleet.cars t.assigned.offer.place t.car after t.stands,
      sym (ap (λ (c : Car). c.no) (same q)),
      rider_left old.fleet.rates t.car.plan number x.pickup x.dropoff t.stops r promise apart after.plan served good.sound.kept refl (subst (λ (c : Car). HasRider old.fleet.rates c.plan served r promise) (same q) h),
    )
    on (inr q) = (car, set_other old.fleet.cars t.assigned.offer.place place after q ∙ e, refl, h)

-- where a vehicle moves
riding_moved : (g : Roads) (old : Board) (now : ℕ) → IsSoundBoard g old
    → (place : ℕ) (car : Car) (served : List Served) (r : Request) (promise : Promise) → slice_get old.fleet.cars place ≡ Some car → HasRider old.fleet.rates car.plan served r promise
    → IsRiding (at_clock old now) place car.no (served ++ served_by_vehicle car.no (served_in old.fleet now)) r promise
riding_moved g old now s place car served r promise e h = (
  moved_car old.fleet.rates (old.fleet.version + 1) now car,
  map_at (moved_car old.fleet.rates (old.fleet.version + 1) now) old.fleet.cars place car e,
  moved_no old.fleet.rates (old.fleet.version + 1) now car,
  subst (λ (p : Plan). HasRider old.fleet.rates p (served ++ served_by_vehicle car.no (served_in old.fleet now)) r promise) (sym (moved_plan old.fleet.rates (old.fleet.version + 1) now car))
      (subst (λ (l : List Served). HasRider old.fleet.rates (advanced_in old.fleet.rates car.plan now) (served ++ l) r promise) (sym (by_vehicle (λ (c : Car). served_by old.fleet.rates c.plan now) old.fleet.cars place car (rising_distinct old.fleet.cars s.rising) e))
      (rider_moves old.fleet.rates car.plan (reached_by old.fleet.rates car.plan now) served r promise (reached-le old.fleet.rates.stop (course_of car.plan) now (length car.plan.stops)) h)),
)

-- each lawful entry by which the riders don't cancel keeps their promise
step_rider : RemovalsKeepPromises → (g : Roads) → IsGraph g → (old : Board) (e : Entry) (new : Board) → Step g old e new → IsSoundBoard g old
    → (place : ℕ) (car : Car) (served : List Served) (r : Request) (promise : Promise) → slice_get old.fleet.cars place ≡ Some car
    → takes_off r.no e ≡ false → HasRider old.fleet.rates car.plan served r promise → IsRiding new place car.no (served ++ served_at car.no e) r promise
step_rider removals g graph old (Submit r Accepted) new s b place car served x promise e stays h = subst (λ (b : Board). IsRiding b place car.no (served ++ []) x promise) (sym s.1) (riding_on old place car.no served x promise (car, e, refl, h))
step_rider removals g graph old (Submit r (Refused reason)) new s b place car served x promise e stays h = subst (λ (b : Board). IsRiding b place car.no (served ++ []) x promise) (sym s.1) (riding_on old place car.no served x promise (car, e, refl, h))
step_rider removals g graph old (Claim number desk) new s b place car served x promise e stays h = subst (λ (b : Board). IsRiding b place car.no (served ++ []) x promise) (sym s.3) (riding_on old place car.no served x promise (car, e, refl, h))
step_rider removals g graph old (Back number) new s b place car served x promise e stays h = subst (λ (b : Board). IsRiding b place car.no (served ++ []) x promise) (sym s.3) (riding_on old place car.no served x promise (car, e, refl, h))
step_rider removals g graph old (Commit number (IsAssigned a)) new s b place car served x promise e stays h = riding_on new place car.no served x promise (riding_taken g graph old number a new s b place car served x promise e h)
step_rider removals g graph old (Commit number Nobody) new s b place car served x promise e stays h = subst (λ (b : Board). IsRiding b place car.no (served ++ []) x promise) (sym s.leads_to) (riding_on old place car.no served x promise (car, e, refl, h))
step_rider removals g graph old (Advance now (Moved list)) new s b place car served x promise e stays h = subst (λ (b : Board). IsRiding b place car.no (served ++ served_by_vehicle car.no list) x promise) (sym s.2)
    (subst (λ (l : List (VehicleNo × Served)). IsRiding (at_clock old now) place car.no (served ++ served_by_vehicle car.no l) x promise) (sym s.1) (riding_moved g old now b place car served x promise e h))
step_rider removals g graph old (Advance now (Behind clock)) new s b place car served x promise e stays h = subst (λ (b : Board). IsRiding b place car.no (served ++ []) x promise) (sym s.2) (riding_on old place car.no served x promise (car, e, refl, h))
step_rider removals g graph old (Cancel number (Removed y)) new s b place car served x promise e stays h =
    riding_on new place car.no served x promise (riding_removed removals g graph old number y new s b place car served x promise e (eqb-false _ _ stays) h)
step_rider removals g graph old (Cancel number (Declined reason)) new s b place car served x promise e stays h = subst (λ (b : Board). IsRiding b place car.no (served ++ []) x promise) (sym s.1) (riding_on old place car.no served x promise (car, e, refl, h))
step_rider removals g graph old Shut new s b place car served x promise e stays h = subst (λ (b : Board). IsRiding b place car.no (served ++ []) x promise) (sym s.1) (riding_on old place car.no served x promise (car, e, refl, h))

-- so do all the entries that follow
rides_along : RemovalsKeepPromises → (g : Roads) → IsGraph g → (first : Board) (entries : List Entry) (last : Board) → Legal g first entries last → IsSoundBoard g first
    → (place : ℕ) (number : VehicleNo) (served : List Served) (r : Request) (promise : Promise) → have_cancelled r.no entries ≡ false
    → IsRiding first place number served r promise → IsRiding last place number (served ++ served_through number entries) r promise
rides_along removals g graph first [] last l b place number served r promise stays h = subst (λ (b : Board). IsRiding b place number (served ++ []) r promise) (sym l) (riding_on first place number served r promise h)
rides_along removals g graph first (e ∷ entries) last l b place number served r promise stays h = let both = or_parts (takes_off r.no e) (have_cancelled r.no entries) stays in
    subst (λ (x : List Served). IsRiding last place number x r promise) (append_assoc served (served_at number e) (served_through number entries) ∙ ap (λ (x : List Served). served ++ x) (sym (served_first number e entries)))
    (rides_along removals g graph l.0 entries last l.2 (step_sound removals g graph first e l.0 l.1 b) place number (served ++ served_at number e) r promise both.1
    (subst (λ (n : VehicleNo). IsRiding l.0 place n (served ++ served_at n e) r promise) h.2 (step_rider removals g graph first e l.0 l.1 b place h.0 served r promise h.1 both.0 h.3)))

-- an assignment gives its vehicle the rider as promised
rides_first : (g : Roads) → IsGraph g → (old : Board) (a : Assigned) (new : Board) (r : Request) (w : Waiting) (direct : ℕ) (promise : Promise) (t : IsTaken g old r.no a new)
    → IsSoundBoard g old → waiting_of old r.no ≡ Some w → w.request ≡ r
    → IsDist g r.pickup r.dropoff direct → promise ≡ promise_of old.fleet.rates r direct (price_in a.offer) → IsRiding new a.offer.place a.offer.no [] r promise
rides_first g graph old a new r w direct promise t s waits asked way is = subst (λ (p : Promise). IsRiding new a.offer.place a.offer.no [] r p) (sym is)
    (subst (λ (d : ℕ). IsRiding new a.offer.place a.offer.no [] r (promise_of old.fleet.rates r d (price_in a.offer))) far
    (subst (λ (x : Request). IsRiding new a.offer.place a.offer.no [] x (promise_of old.fleet.rates x t.direct (price_in a.offer))) same
    (subst (λ (b : Board). IsRiding b a.offer.place a.offer.no [] t.waits.request (promise_of old.fleet.rates t.waits.request t.direct (price_in a.offer))) (sym t.leads_to) taken)))
  where
    same : t.waits.request ≡ r
    same = ap (λ (x : Waiting). x.request) (same_Some _ _ (sym t.waiting ∙ waits)) ∙ asked

    far : t.direct ≡ direct
    far = dist_unique (subst (λ (x : Request). IsDist g x.pickup x.dropoff t.direct) same t.direct_way) way

    number : t.car.no ≡ a.offer.no
    number = let o = t.best.feasible in ap (λ (c : Car). c.no) (same_Some _ _ (sym t.stands ∙ o.stands)) ∙ o.numbered

    taken : IsRiding (with_car (answered old r.no (IsAssigned a)) a.offer.place (taken_on old t.car t.waits.request t.direct a)) a.offer.place a.offer.no [] t.waits.request (promise_of old.fleet.rates t.waits.request t.direct (price_in a.offer))
    taken = let k = taken_good g graph old r.no a new t s in (
      taken_on old t.car t.waits.request t.direct a,
      set_here old.fleet.cars a.offer.place t.car _ t.stands,
      number,
      rider_starts old.fleet.rates (taken_on old t.car t.waits.request t.direct a).plan t.car.plan.stops a.offer.at t.waits.request (promise_of old.fleet.rates t.waits.request t.direct (price_in a.offer)) k.0.sound.kept k.1 k.2 refl,
    )

-- every legal history keeps its promises
pub law : RemovalsKeepPromises → LegalHistoriesKeepPromises
law removals g rates vehicles history last graph fleet legal done rest board is l = record {
  schedules = λ place car e. sound_is g board.fleet.rates car.plan (sound.cars place car e).plan.sound;
  riders = λ a r promise after w stays. on a r promise after w stays;
}
  where
    opening : IsSoundBoard g (opening_board g.nodes rates vehicles)
    opening = opening_sound g rates vehicles fleet

    sound : IsSoundBoard g board
    sound = legal_sound removals g graph (opening_board g.nodes rates vehicles) done board l opening

    on : (a : Assigned) (r : Request) (promise : Promise) (after : List Entry) → WasAssigned g (opening_board g.nodes rates vehicles) done a r promise after → have_cancelled r.no after ≡ false
        → IsRiding board a.offer.place a.offer.no (served_through a.offer.no after) r promise
    on a r promise after w stays = let x = legal_split g (opening_board g.nodes rates vehicles) w.before (Commit r.no (IsAssigned a) ∷ after) board (subst (λ (h : List Entry). Legal g (opening_board g.nodes rates vehicles) h board) w.stands l) in
        let same : x.0 ≡ w.board = legal_unique g (opening_board g.nodes rates vehicles) w.before x.0 w.board x.1 w.legal in
        let t : IsTaken g w.board r.no a x.2.0 = subst (λ (b : Board). IsTaken g b r.no a x.2.0) same x.2.1 in
        let s = legal_sound removals g graph (opening_board g.nodes rates vehicles) w.before w.board w.legal opening in
        rides_along removals g graph x.2.0 after board x.2.2 (step_sound removals g graph w.board (Commit r.no (IsAssigned a)) x.2.0 t s) a.offer.place a.offer.no [] r promise stays
        (rides_first g graph w.board a x.2.0 r w.waits w.direct promise t s w.waiting w.asked w.direct_way w.promised)
