use Rattle.std.specs.Prelude.{◌≡◌, ℕ, ◌<◌, ◌≤◌, ◌^◌, true, List, [], ◌∷◌, map, None, Some, slice_get}
use Rattle.ride_base.specs.declared.numbers.RequestNo.{RequestNo}
use Rattle.road_graph.specs.declared.road.NodeNo.{NodeNo}
use Rattle.road_graph.specs.Paths.{Path, length_of}
use Rattle.road_graph.specs.Roads.{Roads}
use Rattle.road_graph.specs.Walks.{Joins}
use Rattle.stop_schedule.specs.declared.request.Request.{Request}
use Rattle.stop_schedule.specs.declared.vehicle.Vehicle.{Vehicle}
use Rattle.stop_schedule.specs.Distances.{AreLeastWalks}
use Rattle.stop_schedule.specs.Fleets.{Car, Cars, Fitting, plans_of}
use Rattle.stop_schedule.specs.Fronts.{front_of}
use Rattle.stop_schedule.specs.Keeping.{keeps}
use Rattle.stop_schedule.specs.Lists.{changed_ends}
use Rattle.stop_schedule.specs.Plans.{opening_of}
use Rattle.stop_schedule.specs.Rates.{Rates}
use Rattle.stop_removal.specs.declared.removal.Removal.{Removal}
use Rattle.stop_removal.specs.Removals.{AreStopsOf, joint_ends, removed_in}
use Rattle.insertion_cost.specs.declared.decision.Assigned.{Assigned}
use Rattle.insertion_cost.specs.declared.decision.Decision.{Decision}
use Rattle.insertion_cost.specs.declared.decision.Decision.TheVariants.{Assigned as IsAssigned, Nobody}
use Rattle.insertion_cost.specs.Offers.{NoOffer}
use Rattle.insertion_cost.specs.Pricers.{IsAnswerOf, IsBestPlan}
use Rattle.insertion_cost.specs.Prices.{priced}
use Rattle.board_core.specs.declared.entry.Entry.TheVariants.{Commit, Cancel}
use Rattle.board_core.specs.declared.entry.Cancelled.TheVariants.{Removed}
use Rattle.board_core.specs.Boards.{Board, Waiting, waiting_of, answer_of}
use Rattle.board_core.specs.Steps.{Step, answered, taken_on, taken_off, with_car, with_cancelled, cancel_refusal}

-- What is handed to the calls of a board that change a schedule, and what they do. A board keeps its number of nodes and no roads, so
-- walks are handed in.

-- the numbers are those of nodes of a graph of so many nodes
abbrev pub AreWithin : ℕ → List NodeNo → Type 0
AreWithin nodes walk = (k : ℕ) (n : NodeNo) → slice_get walk k ≡ Some n → (1 ≤ n.0) × (n.0 ≤ nodes)

-- a walk from one node to another, of nodes that are there, and shorter than 2^53
pub record IsWayBetween (nodes : ℕ) (u v : NodeNo) (walk : Path) : Type 0 where
  pub joins : Joins u v walk.nodes
  pub within : AreWithin nodes walk.nodes
  pub short : length_of walk < 2 ^ 53

-- each walk joins its pair of nodes
abbrev pub AreWaysBetween : ℕ → List (NodeNo × NodeNo) → List Path → Type 0
AreWaysBetween nodes [] walks = walks ≡ []
AreWaysBetween nodes (ends ∷ more) [] = ⊥
AreWaysBetween nodes (ends ∷ more) (w ∷ walks) = IsWayBetween nodes ends.0 ends.1 w × AreWaysBetween nodes more walks

-- An assignment is possible for a request that waits: the offer names a vehicle by place and number, the walks join the ends of the
-- changed legs, and with their lengths the insertion is feasible from the vehicle's front and has the offer's times.
pub record IsPossible (b : Board) (r : Waiting) (a : Assigned) (direct : ℕ) : Type 0 where
  pub car : Car
  pub cost : ℕ
  pub stands : slice_get b.fleet.cars a.offer.place ≡ Some car
  pub numbered : car.no ≡ a.offer.no
  pub ways : AreWaysBetween b.nodes (changed_ends car.plan.stops (front_of car.plan b.fleet.clock) r.request a.offer.at) a.walks
  pub priced_so : priced b.fleet.rates car.plan (front_of car.plan b.fleet.clock) r.request a.offer.at direct (map length_of a.walks)
      ≡ Some (record { cost = cost; leave = a.offer.leave; arrive = a.offer.arrive })

abbrev pub IsPossibleFor : Board → Waiting → Decision → ℕ → Type 0
IsPossibleFor b r Nobody direct = Unit {0}
IsPossibleFor b r (IsAssigned a) direct = IsPossible b r a direct

-- the number waits, and the decision is possible for its request
abbrev pub MayApply : Board → RequestNo → Decision → ℕ → Type 0
MayApply b number decision direct = (w : Waiting) × (waiting_of b number ≡ Some w) × IsPossibleFor b w decision direct

-- the board that a decision leaves
abbrev pub AppliesTo : Board → RequestNo → Waiting → Decision → ℕ → Board → Type 0
AppliesTo old number w Nobody direct new = new ≡ answered old number Nobody
AppliesTo old number w (IsAssigned a) direct new = (car : Car) × (slice_get old.fleet.cars a.offer.place ≡ Some car)
    × (new ≡ with_car (answered old number (IsAssigned a)) a.offer.place (taken_on old car w.request direct a))

-- the waiting request of a number gets its answer: an assigned vehicle takes it in with its walks and the limits of a direct way of this
-- length
abbrev pub Applies : Board → RequestNo → Decision → ℕ → Board → Type 0
Applies old number decision direct new = (w : Waiting) × (waiting_of old number ≡ Some w) × AppliesTo old number w decision direct new

-- over a graph the decision is the answer to a request: the best insertion, with least walks and with its direct distance, or nobody
-- where none is feasible
abbrev pub IsAnswerTo : Roads → Board → Waiting → Decision → ℕ → Type 0
IsAnswerTo g b r Nobody direct = NoOffer g b.fleet r.request
IsAnswerTo g b r (IsAssigned a) direct = IsBestPlan g b.fleet r.request a direct

-- the request waits, whoever holds it
abbrev pub IsWaitingFor : Board → Request → Type 0
IsWaitingFor b r = (w : Waiting) × (waiting_of b r.no ≡ Some w) × (w.request ≡ r)

-- the answer of a fleet to a request, whatever the length of the direct way
abbrev pub IsDecisionFor : Roads → Cars → Request → Decision → Type 0
IsDecisionFor g fleet r d = (direct : ℕ) × IsAnswerOf g fleet r d direct

-- over each graph of so many nodes over which the decision is the answer, the step is the entry of that answer
abbrev pub Commits : Board → RequestNo → Decision → ℕ → Board → Type 0
Commits old number decision direct new = (g : Roads) (w : Waiting) → g.nodes ≡ old.nodes → waiting_of old number ≡ Some w → IsAnswerTo g old w decision direct
    → Step g old (Commit number decision) new

-- A removal is possible: no reason stands against it, the stops at its positions are the number's in the list of the vehicle that it was
-- given, the walks join the ends of the joined legs, and with them the new schedule keeps.
pub record MayRemove (b : Board) (number : RequestNo) (x : Removal) : Type 0 where
  pub assigned : Assigned
  pub car : Car
  pub not_refused : cancel_refusal b number ≡ None
  pub answer : answer_of b number ≡ Some (IsAssigned assigned)
  pub stands : slice_get b.fleet.cars assigned.offer.place ≡ Some car
  pub numbered : car.no ≡ x.no
  pub stops : AreStopsOf number car.plan.stops x.pickup x.dropoff
  pub ways : AreWaysBetween b.nodes (joint_ends car.plan.stops (front_of car.plan b.fleet.clock) x.pickup x.dropoff) x.walks
  pub kept : keeps b.fleet.rates (removed_in car.plan (front_of car.plan b.fleet.clock) x.pickup x.dropoff x.walks) ≡ true

-- the board that a removal leaves
abbrev pub Removes : Board → RequestNo → Removal → Board → Type 0
Removes old number x new = (a : Assigned) × (car : Car) × (answer_of old number ≡ Some (IsAssigned a)) × (slice_get old.fleet.cars a.offer.place ≡ Some car)
    × (new ≡ with_car (with_cancelled old number) a.offer.place (taken_off old car x))

-- the walks of a removal are least walks of the joined legs, in the list of the vehicle that the number was given
pub record HasLeastJoins (g : Roads) (b : Board) (number : RequestNo) (x : Removal) : Type 0 where
  pub assigned : Assigned
  pub car : Car
  pub answer : answer_of b number ≡ Some (IsAssigned assigned)
  pub stands : slice_get b.fleet.cars assigned.offer.place ≡ Some car
  pub walks : AreLeastWalks g (joint_ends car.plan.stops (front_of car.plan b.fleet.clock) x.pickup x.dropoff) x.walks

-- over each graph of so many nodes over which they are, the step is the entry of that cancellation
abbrev pub Cancels : Board → RequestNo → Removal → Board → Type 0
Cancels old number x new = (g : Roads) → g.nodes ≡ old.nodes → HasLeastJoins g old number x → Step g old (Cancel number (Removed x)) new

-- ---- the index of the fleet

-- the index fits the schedules of vehicles at their starts, over some graph of so many nodes
abbrev pub FitsStarts : Fitting → ℕ → Rates → List Vehicle → Type 0
FitsStarts Fits nodes rates vehicles = (g : Roads) × (g.nodes ≡ nodes) × Fits g rates (map opening_of vehicles)

-- over each graph of so many nodes over which the old index fits the old fleet's schedules, the new one fits the new fleet's
abbrev pub FitsOn : Fitting → Fitting → Board → Board → Type 0
FitsOn Before After old new = (g : Roads) → g.nodes ≡ old.nodes → Before g old.fleet.rates (plans_of old.fleet) → After g new.fleet.rates (plans_of new.fleet)
