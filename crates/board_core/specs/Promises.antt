use Rattle.std.specs.Prelude.{◌≡◌, ℕ, suc, ◌<◌, ◌≤◌, ◌==◌, ◌⊎◌, ◌||◌, Bool, true, false, cond, List, [], ◌∷◌, ◌++◌, Some, slice_get}
use Rattle.ride_base.specs.declared.numbers.RequestNo.{RequestNo}
use Rattle.ride_base.specs.declared.numbers.VehicleNo.{VehicleNo}
use Rattle.road_graph.specs.declared.road.NodeNo.{NodeNo}
use Rattle.road_graph.specs.Roads.{Roads}
use Rattle.road_graph.specs.Walks.{IsDist}
use Rattle.stop_schedule.specs.declared.request.Request.{Request}
use Rattle.stop_schedule.specs.declared.stop.Promise.{Promise}
use Rattle.stop_schedule.specs.declared.stop.Stop.{Stop}
use Rattle.stop_schedule.specs.declared.stop.StopKind.{StopKind}
use Rattle.stop_schedule.specs.declared.stop.StopKind.TheVariants.{Pickup, Dropoff}
use Rattle.stop_schedule.specs.Fleets.{Car}
use Rattle.stop_schedule.specs.Keeping.{IsProper, keeps, HasLeastWalks}
use Rattle.stop_schedule.specs.Plans.{Plan, course_of}
use Rattle.stop_schedule.specs.Rates.{Rates}
use Rattle.stop_schedule.specs.Times.{promised_time}
use Rattle.stop_advance.specs.declared.served.Served.{Served}
use Rattle.insertion_cost.specs.declared.decision.Assigned.{Assigned}
use Rattle.insertion_cost.specs.declared.decision.Decision.TheVariants.{Assigned as IsAssigned}
use Rattle.insertion_cost.specs.Offers.{price_in}
use Rattle.insertion_cost.specs.Prices.{promise_of}
use Rattle.board_core.specs.declared.entry.Advanced.TheVariants.{Moved, Back as Behind}
use Rattle.board_core.specs.declared.entry.Cancelled.TheVariants.{Removed, Refused as Declined}
use Rattle.board_core.specs.declared.entry.Entry.{Entry}
use Rattle.board_core.specs.declared.entry.Entry.TheVariants.{Submit, Claim, Back, Commit, Advance, Cancel, Shut}
use Rattle.board_core.specs.Boards.{Board, Waiting, is_number, waiting_of}
use Rattle.board_core.specs.Histories.{Legal}

-- the stops of one vehicle in a list of served ones
abbrev pub served_by_vehicle : VehicleNo → List (VehicleNo × Served) → List Served
served_by_vehicle number [] = []
served_by_vehicle number (s ∷ more) = cond (s.0.0 == number.0) (s.1 ∷ served_by_vehicle number more) (served_by_vehicle number more)

-- the stops that one vehicle served in these entries, in order
abbrev pub served_through : VehicleNo → List Entry → List Served
served_through number [] = []
served_through number (Submit r submitted ∷ entries) = served_through number entries
served_through number (Claim n desk ∷ entries) = served_through number entries
served_through number (Back n ∷ entries) = served_through number entries
served_through number (Commit n decision ∷ entries) = served_through number entries
served_through number (Advance now (Moved served) ∷ entries) = served_by_vehicle number served ++ served_through number entries
served_through number (Advance now (Behind clock) ∷ entries) = served_through number entries
served_through number (Cancel n cancelled ∷ entries) = served_through number entries
served_through number (Shut ∷ entries) = served_through number entries

-- whether the entry takes the riders of a number out of their vehicle's list
abbrev pub takes_off : RequestNo → Entry → Bool
takes_off number (Submit r submitted) = false
takes_off number (Claim n desk) = false
takes_off number (Back n) = false
takes_off number (Commit n decision) = false
takes_off number (Advance now advanced) = false
takes_off number (Cancel n (Removed x)) = is_number n number
takes_off number (Cancel n (Declined reason)) = false
takes_off number Shut = false

-- whether the riders of a number cancelled in these entries
abbrev pub have_cancelled : RequestNo → List Entry → Bool
have_cancelled number [] = false
have_cancelled number (e ∷ entries) = takes_off number e || have_cancelled number entries

abbrev pub limit_of : Promise → StopKind → ℕ
limit_of promise Pickup = promise.pickup
limit_of promise Dropoff = promise.arrival

abbrev pub served_time : Served → StopKind → ℕ
served_time s Pickup = s.dep
served_time s Dropoff = s.arr

-- where the riders of a request get on, and where they get off
abbrev pub end_of : Request → StopKind → NodeNo
end_of r Pickup = r.pickup
end_of r Dropoff = r.dropoff

-- before when the vehicle doesn't leave: the request's moment at the pickup
abbrev pub ready_of : Request → StopKind → ℕ
ready_of r Pickup = r.moment
ready_of r Dropoff = 0

-- The k-th stop of a schedule, counted from 0, is the request's of this kind, has the promised limit and keeps it.
pub record IsPlannedStop (rates : Rates) (p : Plan) (k : ℕ) (kind : StopKind) (r : Request) (promise : Promise) : Type 0 where
  pub stop : Stop
  pub stands : slice_get p.stops k ≡ Some stop
  pub is_kind : stop.kind ≡ kind
  pub is_number : stop.no ≡ r.no
  pub is_there : stop.node ≡ end_of r kind
  pub riders : stop.riders ≡ r.riders
  pub spaces : stop.spaces ≡ r.spaces
  pub ready : stop.ready ≡ ready_of r kind
  pub limit : stop.limit ≡ limit_of promise kind
  pub in_time : promised_time rates.stop (course_of p) (suc k) kind ≤ limit_of promise kind

-- the k-th of the served stops is the request's of this kind, and its limit was kept
pub record IsServedStop (served : List Served) (k : ℕ) (kind : StopKind) (r : Request) (promise : Promise) : Type 0 where
  pub stop : Served
  pub stands : slice_get served k ≡ Some stop
  pub is_kind : stop.kind ≡ kind
  pub is_number : stop.no ≡ r.no
  pub is_there : stop.node ≡ end_of r kind
  pub not_before : ready_of r kind ≤ stop.dep
  pub in_time : served_time stop kind ≤ limit_of promise kind

-- The rider's pickup, and then the dropoff, are both planned, or the pickup is served and the dropoff planned, or both are served,
-- and the promise is kept.
abbrev pub HasRider : Rates → Plan → List Served → Request → Promise → Type 0
HasRider rates p served r promise =
    ((k : ℕ) × (l : ℕ) × (k < l) × IsPlannedStop rates p k Pickup r promise × IsPlannedStop rates p l Dropoff r promise)
    ⊎ (((k : ℕ) × (l : ℕ) × IsServedStop served k Pickup r promise × IsPlannedStop rates p l Dropoff r promise)
    ⊎ ((k : ℕ) × (l : ℕ) × (k < l) × IsServedStop served k Pickup r promise × IsServedStop served l Dropoff r promise))

-- An assignment that was made in a history, with the promise that was fixed by it and the entries that came after it.
pub record WasAssigned (g : Roads) (first : Board) (history : List Entry) (a : Assigned) (r : Request) (promise : Promise) (after : List Entry) : Type 0 where
  pub before : List Entry
  pub board : Board
  pub waits : Waiting
  pub direct : ℕ
  pub stands : history ≡ before ++ Commit r.no (IsAssigned a) ∷ after
  pub legal : Legal g first before board
  pub waiting : waiting_of board r.no ≡ Some waits
  pub asked : waits.request ≡ r
  pub direct_way : IsDist g r.pickup r.dropoff direct
  pub promised : promise ≡ promise_of board.fleet.rates r direct (price_in a.offer)

-- On the board that a history leaves every schedule is proper, keeps its promises and has least walks as its legs, and every rider who
-- was assigned and didn't cancel is planned or served by the vehicle that he was given, as he was promised.
pub record ArePromisesKept (g : Roads) (first : Board) (history : List Entry) (last : Board) : Type 0 where
  pub schedules : (place : ℕ) (car : Car) → slice_get last.fleet.cars place ≡ Some car → IsProper car.plan × (keeps last.fleet.rates car.plan ≡ true) × HasLeastWalks g car.plan
  pub riders : (a : Assigned) (r : Request) (promise : Promise) (after : List Entry) → WasAssigned g first history a r promise after → have_cancelled r.no after ≡ false
      → (car : Car) × (slice_get last.fleet.cars a.offer.place ≡ Some car) × (car.no ≡ a.offer.no) × HasRider last.fleet.rates car.plan (served_through a.offer.no after) r promise

-- the promises are kept after every prefix of the history, over a graph with the first board's number of nodes
abbrev pub KeepsPromises : Roads → Board → List Entry → Type 0
KeepsPromises g first history = (done rest : List Entry) (last : Board) → history ≡ done ++ rest → Legal g first done last → ArePromisesKept g first done last
