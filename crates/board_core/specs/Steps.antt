use Rattle.std.specs.Prelude.{◌≡◌, ℕ, ◌+◌, ◌<◌, ◌≤◌, ◌==◌, ◌&&◌, ◌||◌, not, nat_lt, true, false, Bool, cond, List, [], ◌∷◌, ◌++◌, map, flat_map, Option, Some, None, is_some, slice_get, slice_set, IsSome}
use Rattle.std.specs.BTreeMap.{insert_entry}
use Rattle.std.specs.BTreeSet.{insert_key}
use Rattle.std.specs.List.{list_any}
use Rattle.ride_base.specs.declared.numbers.RequestNo.{RequestNo}
use Rattle.ride_base.specs.declared.numbers.VehicleNo.{VehicleNo}
use Rattle.road_graph.specs.Roads.{Roads, is_node}
use Rattle.road_graph.specs.Walks.{IsDist}
use Rattle.stop_schedule.specs.declared.request.Request.{Request}
use Rattle.stop_schedule.specs.Fleets.{Car, Cars}
use Rattle.stop_schedule.specs.Fronts.{front_of}
use Rattle.stop_schedule.specs.Keeping.{picks_up}
use Rattle.stop_schedule.specs.Limits.{latest_moment}
use Rattle.stop_schedule.specs.Lists.{inserted_in, changed_ends}
use Rattle.stop_schedule.specs.Rates.{Rates}
use Rattle.stop_advance.specs.declared.served.Served.{Served}
use Rattle.stop_advance.specs.Advance.{reached_by, served_by, advanced_in}
use Rattle.stop_removal.specs.declared.removal.Removal.{Removal}
use Rattle.stop_removal.specs.Removals.{AreStopsOf, joint_ends, removed_in}
use Rattle.insertion_cost.specs.declared.decision.Assigned.{Assigned}
use Rattle.insertion_cost.specs.declared.decision.Decision.{Decision}
use Rattle.insertion_cost.specs.declared.decision.Decision.TheVariants.{Assigned as IsAssigned, Nobody}
use Rattle.stop_schedule.specs.Distances.{AreLeastWalks}
use Rattle.insertion_cost.specs.Offers.{IsBest, NoOffer, price_in}
use Rattle.insertion_cost.specs.Prices.{promise_of}
use Rattle.board_core.specs.declared.entry.Reason.{Reason}
use Rattle.board_core.specs.declared.entry.Reason.TheVariants.{Closed, Place, Riders, Moment, Repeated}
use Rattle.board_core.specs.declared.entry.Submitted.TheVariants.{Accepted, Refused}
use Rattle.board_core.specs.declared.entry.Advanced.TheVariants.{Moved, Back as Behind}
use Rattle.board_core.specs.declared.entry.CancelReason.{CancelReason}
use Rattle.board_core.specs.declared.entry.CancelReason.TheVariants as why
use Rattle.board_core.specs.declared.entry.Cancelled.TheVariants.{Removed, Refused as Declined}
use Rattle.board_core.specs.declared.entry.Entry.{Entry}
use Rattle.board_core.specs.declared.entry.Entry.TheVariants.{Submit, Claim, Back, Commit, Advance, Cancel, Shut}
use Rattle.board_core.specs.Boards.{Board, Waiting, as_waiting, by_number, waiting_of, answer_of, is_cancelled, was_accepted, oldest_unheld, with_holder, without, with_next_version}

-- the first reason for which a board refuses a request
abbrev pub refusal : Board → Request → Option Reason
refusal b r =
    cond b.closed (Some Closed)
    (cond (not (is_node b.nodes r.pickup && is_node b.nodes r.dropoff)) (Some Place)
    (cond (nat_lt 16 r.riders || nat_lt 16 r.spaces || ((r.riders == 0) && (r.spaces == 0))) (Some Riders)
    (cond (nat_lt r.moment b.fleet.clock || nat_lt latest_moment r.moment) (Some Moment)
    (cond (was_accepted b r.no) (Some Repeated) None))))

-- the board with this answer, where the number waits no more
abbrev pub answered : Board → RequestNo → Decision → Board
answered b number decision = record (with_next_version b) { waiting = without number b.waiting; answers = insert_entry by_number b.answers number decision }

-- the vehicle's schedule with the request put in, its limits as promised; its stamp is the new version
abbrev pub taken_on : Board → Car → Request → ℕ → Assigned → Car
taken_on b car r direct a = record car {
  plan = inserted_in car.plan (front_of car.plan b.fleet.clock) r a.offer.at (promise_of b.fleet.rates r direct (price_in a.offer)) a.walks;
  stamp = b.fleet.version + 1;
}

-- the board with another vehicle in one place
abbrev pub with_car : Board → ℕ → Car → Board
with_car b place car = record b { fleet = record b.fleet { cars = slice_set b.fleet.cars place car } }

-- The assignment is lawful and leads to the new board: the number waits, the offer is the best insertion of the fleet as it is, the
-- walks are least walks of the changed legs, and the schedule takes the request in with the trip limit of the direct distance.
pub record IsTaken (g : Roads) (old : Board) (number : RequestNo) (a : Assigned) (new : Board) : Type 0 where
  pub waits : Waiting
  pub direct : ℕ
  pub car : Car
  pub waiting : waiting_of old number ≡ Some waits
  pub best : IsBest g old.fleet waits.request a.offer
  pub direct_way : IsDist g waits.request.pickup waits.request.dropoff direct
  pub stands : slice_get old.fleet.cars a.offer.place ≡ Some car
  pub walks : AreLeastWalks g (changed_ends car.plan.stops (front_of car.plan old.fleet.clock) waits.request a.offer.at) a.walks
  pub leads_to : new ≡ with_car (answered old number (IsAssigned a)) a.offer.place (taken_on old car waits.request direct a)

-- no insertion is feasible, and the new board has that answer
pub record IsTurnedDown (g : Roads) (old : Board) (number : RequestNo) (new : Board) : Type 0 where
  pub waits : Waiting
  pub waiting : waiting_of old number ≡ Some waits
  pub none : NoOffer g old.fleet waits.request
  pub leads_to : new ≡ answered old number Nobody

-- whether one of a vehicle's stops picks up the riders of a number
abbrev pub is_to_pick_up : RequestNo → Option Car → Bool
is_to_pick_up number None = false
is_to_pick_up number (Some car) = list_any (picks_up number) car.plan.stops

-- why the riders of a request with this answer, or with none, can't cancel
abbrev pub cancel_refusal_by : Board → RequestNo → Option Decision → Option CancelReason
cancel_refusal_by b number None = Some why.Unknown
cancel_refusal_by b number (Some Nobody) = Some why.Nobody
cancel_refusal_by b number (Some (IsAssigned a)) =
    cond (is_cancelled b number) (Some why.Cancelled)
    (cond (is_to_pick_up number (slice_get b.fleet.cars a.offer.place)) None (Some why.Served))

-- the reason for which a board refuses a cancellation
abbrev pub cancel_refusal : Board → RequestNo → Option CancelReason
cancel_refusal b number = cond (is_some (waiting_of b number)) (Some why.Waiting) (cancel_refusal_by b number (answer_of b number))

-- the board on which the number is cancelled; its answer stays
abbrev pub with_cancelled : Board → RequestNo → Board
with_cancelled b number = record (with_next_version b) { cancelled = insert_key by_number b.cancelled number }

-- the vehicle's schedule without the riders' stops; its stamp is the new version
abbrev pub taken_off : Board → Car → Removal → Car
taken_off b car x = record car {
  plan = removed_in car.plan (front_of car.plan b.fleet.clock) x.pickup x.dropoff x.walks;
  stamp = b.fleet.version + 1;
}

-- The removal is lawful and leads to the new board: there is no reason against it, the stops at its positions are the number's in the
-- list of the vehicle that it was given, and the walks are least walks of the joined legs.
pub record IsRemoved (g : Roads) (old : Board) (number : RequestNo) (x : Removal) (new : Board) : Type 0 where
  pub assigned : Assigned
  pub car : Car
  pub not_refused : cancel_refusal old number ≡ None
  pub answer : answer_of old number ≡ Some (IsAssigned assigned)
  pub stands : slice_get old.fleet.cars assigned.offer.place ≡ Some car
  pub numbered : car.no ≡ x.no
  pub stops : AreStopsOf number car.plan.stops x.pickup x.dropoff
  pub walks : AreLeastWalks g (joint_ends car.plan.stops (front_of car.plan old.fleet.clock) x.pickup x.dropoff) x.walks
  pub leads_to : new ≡ with_car (with_cancelled old number) assigned.offer.place (taken_off old car x)

-- the vehicle at a later clock; where it reached a stop, its stamp is the new version
abbrev pub moved_car : Rates → ℕ → ℕ → Car → Car
moved_car rates version now car = cond (reached_by rates car.plan now == 0) car (record car { plan = advanced_in rates car.plan now; stamp = version })

abbrev pub served_with : VehicleNo → List Served → List (VehicleNo × Served)
served_with number served = map {B = VehicleNo × Served} (λ (s : Served). (number, s)) served

-- all stops that are reached by then, vehicle by vehicle
abbrev pub served_in : Cars → ℕ → List (VehicleNo × Served)
served_in fleet now = flat_map (λ (car : Car). served_with car.no (served_by fleet.rates car.plan now)) fleet.cars

-- the board at a later clock
abbrev pub at_clock : Board → ℕ → Board
at_clock b now = record b {
  fleet = record b.fleet { clock = now; version = b.fleet.version + 1; cars = map (moved_car b.fleet.rates (b.fleet.version + 1) now) b.fleet.cars };
}

-- The entry is lawful on the old board, and leads to the new one, over a graph with the board's number of nodes. Each entry raises the
-- version by one, and all that isn't named stays. Walks are free among least walks; all else is fixed by the board and by what was
-- asked.
abbrev pub Step : Roads → Board → Entry → Board → Type 0
Step g old (Submit r Accepted) new = (refusal old r ≡ None) × (new ≡ record (with_next_version old) { waiting = old.waiting ++ as_waiting r ∷ [] })
Step g old (Submit r (Refused reason)) new = (refusal old r ≡ Some reason) × (new ≡ with_next_version old)
Step g old (Claim number desk) new = (w : Waiting) × (oldest_unheld old ≡ Some w) × (w.request.no ≡ number) × (new ≡ record (with_next_version old) { waiting = with_holder number (Some desk) old.waiting })
Step g old (Back number) new = (w : Waiting) × (waiting_of old number ≡ Some w) × IsSome w.holder × (new ≡ record (with_next_version old) { waiting = with_holder number None old.waiting })
Step g old (Commit number (IsAssigned a)) new = IsTaken g old number a new
Step g old (Commit number Nobody) new = IsTurnedDown g old number new
Step g old (Advance now (Moved served)) new = (old.fleet.clock ≤ now) × (served ≡ served_in old.fleet now) × (new ≡ at_clock old now)
Step g old (Advance now (Behind clock)) new = (now < old.fleet.clock) × (clock ≡ old.fleet.clock) × (new ≡ with_next_version old)
Step g old (Cancel number (Removed x)) new = IsRemoved g old number x new
Step g old (Cancel number (Declined reason)) new = (cancel_refusal old number ≡ Some reason) × (new ≡ with_next_version old)
Step g old Shut new = (old.closed ≡ false) × (new ≡ record (with_next_version old) { closed = true })
