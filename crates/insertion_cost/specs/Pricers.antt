use Rattle.std.specs.Prelude.{◌≡◌, ℕ, ◌≤◌, List, length, Option, Some, slice_get}
use Rattle.road_graph.specs.Graphs.{IsGraph}
use Rattle.road_graph.specs.Roads.{Roads, IsNode}
use Rattle.stop_schedule.specs.declared.request.Request.{Request}
use Rattle.road_graph.specs.Paths.{Path}
use Rattle.road_graph.specs.Walks.{IsDist}
use Rattle.stop_schedule.specs.Distances.{AreDistances, AreLeastWalks}
use Rattle.stop_schedule.specs.Lists.{changed_ends}
use Rattle.insertion_cost.specs.declared.offer.Offer.{Offer}
use Rattle.stop_schedule.specs.Fleets.{Car, Cars, IsGoodFleet, OfCar}
use Rattle.stop_schedule.specs.Fronts.{front_of}
use Rattle.stop_schedule.specs.Limits.{latest_moment}
use Rattle.road_graph.specs.declared.road.NodeNo.{NodeNo}
use Rattle.insertion_cost.specs.declared.candidates.Candidate.{Candidate}
use Rattle.insertion_cost.specs.declared.searches.Searches.{Searches}
use Rattle.insertion_cost.specs.declared.decision.Assigned.{Assigned}
use Rattle.insertion_cost.specs.declared.decision.Decision.{Decision}
use Rattle.insertion_cost.specs.declared.decision.Decision.TheVariants.{Assigned as IsAssigned, Nobody}
use Rattle.insertion_cost.specs.Offers.{IsBest, IsBestOrNone, IsFirst, IsOfferNow, NoOffer}
use Rattle.insertion_cost.specs.Searches.{AreSearchesOf}

-- both nodes of a request are in the graph, and its moment isn't too late
pub record IsRequestIn (g : Roads) (r : Request) : Type 0 where
  pub pickup : IsNode g r.pickup
  pub dropoff : IsNode g r.dropoff
  pub moment : r.moment ≤ latest_moment

-- a fleet is good over the graph of some searches for a request
pub record IsSearchedFor (fleet : Cars) (r : Request) (s : Searches) : Type 0 where
  pub graph : Roads
  pub lawful : IsGraph graph
  pub good : IsGoodFleet graph fleet
  pub searches : AreSearchesOf graph r s
  pub moment : r.moment ≤ latest_moment

-- the best offer of the vehicle in a place, or none
abbrev pub IsBestAt : Roads → Cars → Request → ℕ → Option Offer → Type 0
IsBestAt g fleet r place best = OfCar fleet place (λ (car : Car). IsFirst (IsOfferNow g fleet place car r) best)

-- the entry of a vehicle in its place: its front, and its best offer from there
pub record IsEntryOf (g : Roads) (fleet : Cars) (r : Request) (place : ℕ) (car : Car) (e : Candidate) : Type 0 where
  pub there : e.place ≡ place
  pub front : e.front ≡ front_of car.plan fleet.clock
  pub best : IsFirst (IsOfferNow g fleet place car r) e.best

abbrev pub IsEntryAt : Roads → Cars → Request → ℕ → Candidate → Type 0
IsEntryAt g fleet r place e = OfCar fleet place (λ (car : Car). IsEntryOf g fleet r place car e)

-- and its entry as the searches of a graph give it
abbrev pub IsEntryBySearches : Cars → Request → Searches → ℕ → Candidate → Type 0
IsEntryBySearches fleet r s place e = (g : Roads) → IsGraph g → AreSearchesOf g r s → IsEntryAt g fleet r place e

-- the best offer of a fleet, or none, as the searches of a graph give it
abbrev pub IsBestBySearches : Cars → Request → Searches → Option Offer → Type 0
IsBestBySearches fleet r s best = (g : Roads) → IsGraph g → AreSearchesOf g r s → IsBestOrNone g fleet r best

-- the entries of the first n vehicles, each in its place
pub record AreEntriesTo (g : Roads) (fleet : Cars) (r : Request) (n : ℕ) (entries : List Candidate) : Type 0 where
  pub many : length entries ≡ n
  pub each : (k : ℕ) (e : Candidate) → slice_get entries k ≡ Some e → IsEntryAt g fleet r k e

-- one node has a distance from another
abbrev pub HasDistance : Roads → NodeNo → NodeNo → Type 0
HasDistance g u v = (x : ℕ) × IsDist g u v x

-- pairs of nodes that all have a distance
pub record HaveDistances (g : Roads) (ends : List (NodeNo × NodeNo)) : Type 0 where
  pub lengths : List ℕ
  pub are : AreDistances g ends lengths

-- least walks of the legs that an offer changes
abbrev pub AreWalksOf : Roads → Cars → Request → Offer → List Path → Type 0
AreWalksOf g fleet r o walks = OfCar fleet o.place (λ (car : Car). AreLeastWalks g (changed_ends car.plan.stops (front_of car.plan fleet.clock) r o.at) walks)

-- the best insertion of a fleet, with least walks of the legs that it changes, and with the direct distance
pub record IsBestPlan (g : Roads) (fleet : Cars) (r : Request) (a : Assigned) (direct : ℕ) : Type 0 where
  pub best : IsBest g fleet r a.offer
  pub direct_way : IsDist g r.pickup r.dropoff direct
  pub walks : AreWalksOf g fleet r a.offer a.walks

-- the answer of a fleet to a request: that, or nobody and no length where there is no feasible insertion
abbrev pub IsAnswerOf : Roads → Cars → Request → Decision → (direct : ℕ) → Type 0
IsAnswerOf g fleet r Nobody direct = (direct ≡ 0) × NoOffer g fleet r
IsAnswerOf g fleet r (IsAssigned a) direct = IsBestPlan g fleet r a direct
