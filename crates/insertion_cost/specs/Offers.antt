use Rattle.std.specs.Prelude.{◌≡◌, ℕ, List, Option, Some, None, slice_get}
use Rattle.std.specs.Ordering.{nat_cmp, ordering_then}
use Rattle.std.specs.declared.cmp.Ordering.{Ordering}
use Rattle.std.specs.declared.cmp.Ordering.TheVariants.{Less}
use Rattle.road_graph.specs.Roads.{Roads}
use Rattle.road_graph.specs.Walks.{IsDist}
use Rattle.stop_schedule.specs.declared.request.Request.{Request}
use Rattle.stop_schedule.specs.declared.stop.Front.{Front}
use Rattle.stop_schedule.specs.declared.stop.Insertion.{Insertion}
use Rattle.stop_schedule.specs.Plans.{Plan}
use Rattle.stop_schedule.specs.Rates.{Rates}
use Rattle.stop_schedule.specs.Fronts.{front_of}
use Rattle.stop_schedule.specs.Lists.{changed_ends}
use Rattle.stop_schedule.specs.Fleets.{Car, Cars}
use Rattle.insertion_cost.specs.declared.offer.Offer.{Offer}
use Rattle.insertion_cost.specs.Prices.{Price, priced}
use Rattle.stop_schedule.specs.Distances.{AreDistances}

-- the insertion into a schedule from a front has this price over a graph: the changed legs and the direct way have a distance, and
-- with these the insertion is feasible
pub record HasPrice (g : Roads) (rates : Rates) (front : Front) (p : Plan) (r : Request) (at : Insertion) (price : Price) : Type 0 where
  pub direct : ℕ
  pub lengths : List ℕ
  pub direct_way : IsDist g r.pickup r.dropoff direct
  pub changed_legs : AreDistances g (changed_ends p.stops front r at) lengths
  pub priced_so : priced rates p front r at direct lengths ≡ Some price

abbrev pub price_in : Offer → Price
price_in o = record { cost = o.cost; leave = o.leave; arrive = o.arrive }

-- the offer is a feasible insertion into the schedule of a vehicle in its place, from this front
pub record IsOfferFrom (g : Roads) (rates : Rates) (place : ℕ) (car : Car) (front : Front) (r : Request) (o : Offer) : Type 0 where
  pub there : o.place ≡ place
  pub numbered : car.no ≡ o.no
  pub price : HasPrice g rates front car.plan r o.at (price_in o)

-- from where the vehicle can turn now
abbrev pub IsOfferNow : Roads → Cars → ℕ → Car → Request → Offer → Type 0
IsOfferNow g fleet place car r o = IsOfferFrom g fleet.rates place car (front_of car.plan fleet.clock) r o

-- the offer is a feasible insertion into the schedule of the vehicle that stands at its place, from where it can turn now
pub record IsOffer (g : Roads) (fleet : Cars) (r : Request) (o : Offer) : Type 0 where
  pub car : Car
  pub stands : slice_get fleet.cars o.place ≡ Some car
  pub numbered : car.no ≡ o.no
  pub price : HasPrice g fleet.rates (front_of car.plan fleet.clock) car.plan r o.at (price_in o)

-- offers go by cost, then vehicle number, then the place of the pickup, then that of the dropoff
abbrev pub offer_cmp : Offer → Offer → Ordering
offer_cmp a b = ordering_then (nat_cmp a.cost b.cost) (ordering_then (nat_cmp a.no.0 b.no.0) (ordering_then (nat_cmp a.at.i b.at.i) (nat_cmp a.at.j b.at.j)))

-- one of some offers before which none of them goes, or none where there are none
abbrev pub IsFirst : (Offer → Type 0) → Option Offer → Type 0
IsFirst among None = (o : Offer) → among o → ⊥
IsFirst among (Some o) = among o × ((other : Offer) → among other → offer_cmp other o ≡ Less → ⊥)

-- The best insertion: a feasible one, and no feasible one of any vehicle and any pair of places goes before it.
pub record IsBest (g : Roads) (fleet : Cars) (r : Request) (o : Offer) : Type 0 where
  pub feasible : IsOffer g fleet r o
  pub least : (other : Offer) → IsOffer g fleet r other → offer_cmp other o ≡ Less → ⊥

-- no insertion is feasible
abbrev pub NoOffer : Roads → Cars → Request → Type 0
NoOffer g fleet r = (o : Offer) → IsOffer g fleet r o → ⊥

-- the best insertion, or none where none is feasible
abbrev pub IsBestOrNone : Roads → Cars → Request → Option Offer → Type 0
IsBestOrNone g fleet r None = NoOffer g fleet r
IsBestOrNone g fleet r (Some o) = IsBest g fleet r o

-- the best insertion into the schedule of the vehicle at one place alone
pub record IsBestOf (g : Roads) (fleet : Cars) (r : Request) (place : ℕ) (o : Offer) : Type 0 where
  pub feasible : IsOffer g fleet r o
  pub there : o.place ≡ place
  pub least : (other : Offer) → IsOffer g fleet r other → other.place ≡ place → offer_cmp other o ≡ Less → ⊥

abbrev pub NoOfferOf : Roads → Cars → Request → ℕ → Type 0
NoOfferOf g fleet r place = (o : Offer) → IsOffer g fleet r o → o.place ≡ place → ⊥
