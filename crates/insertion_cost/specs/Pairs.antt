use Rattle.std.specs.Prelude.{◌≡◌, ℕ, ◌<◌, ◌⊎◌, Option}
use Rattle.road_graph.specs.Roads.{Roads}
use Rattle.stop_schedule.specs.declared.request.Request.{Request}
use Rattle.stop_schedule.specs.declared.stop.Front.{Front}
use Rattle.stop_schedule.specs.declared.stop.Insertion.{Insertion}
use Rattle.stop_schedule.specs.Fleets.{Car}
use Rattle.stop_schedule.specs.Plans.{Plan}
use Rattle.stop_schedule.specs.Rates.{Rates}
use Rattle.insertion_cost.specs.declared.offer.Offer.{Offer}
use Rattle.insertion_cost.specs.declared.pairs.PlacedVehicle.{PlacedVehicle}
use Rattle.insertion_cost.specs.declared.pricing.Priced.{Priced}
use Rattle.insertion_cost.specs.Offers.{IsOfferFrom, IsFirst}

-- the offer of a vehicle for a pair that has a price
abbrev pub offer_by : PlacedVehicle → Insertion → Priced → Offer
offer_by v at p = record { cost = p.cost; no = v.no; place = v.place; at = at; leave = p.leave; arrive = p.arrive }

-- the vehicle has this number and this schedule
pub record IsCarOf (v : PlacedVehicle) (p : Plan) (car : Car) : Type 0 where
  pub number : car.no ≡ v.no
  pub plan : car.plan ≡ p

-- a pair of places comes before these, by i and then by j
abbrev pub IsPairBefore : ℕ → ℕ → Insertion → Type 0
IsPairBefore i j at = (at.i < i) ⊎ ((at.i ≡ i) × (at.j < j))

-- an offer of a vehicle for a pair before these
pub record IsTried (g : Roads) (rates : Rates) (place : ℕ) (car : Car) (front : Front) (r : Request) (i j : ℕ) (o : Offer) : Type 0 where
  pub offer : IsOfferFrom g rates place car front r o
  pub before : IsPairBefore i j o.at

-- the best of them, or none
abbrev pub IsBestOfTried : Roads → Rates → ℕ → Car → Front → Request → ℕ → ℕ → Option Offer → Type 0
IsBestOfTried g rates place car front r i j best = IsFirst (IsTried g rates place car front r i j) best

-- the best offer of a vehicle from a front, or none
abbrev pub IsBestFrom : Roads → Rates → ℕ → Car → Front → Request → Option Offer → Type 0
IsBestFrom g rates place car front r best = IsFirst (IsOfferFrom g rates place car front r) best
