use Rattle.std.proofs.Common.{◌≡◌, ℕ, ◌<◌, [], length, get_or, Option, Some, true, false, sym, ap, ◌∙◌, subst}
use Rattle.std.specs.Prelude.{slice_get}
use Rattle.std.proofs.lemmas.Option.{slice_get-get_or}
use Rattle.road_graph.specs.Graphs.{IsGraph}
use Rattle.road_graph.specs.Roads.{Roads}
use Rattle.stop_schedule.specs.declared.request.Request.{Request}
use Rattle.stop_schedule.specs.declared.stop.Front.{Front}
use Rattle.stop_schedule.specs.Fleets.{Car, Cars, OfCar, IsGoodFleet}
use Rattle.stop_schedule.specs.Fronts.{front_of, IsAhead}
use Rattle.stop_schedule.specs.Keeping.{HasLeastWalks, IsOverAGraph, keeps}
use Rattle.stop_schedule.specs.Plans.{Plan}
use Rattle.stop_schedule.specs.Rates.{Rates}
use Rattle.insertion_cost.specs.declared.offer.Offer.{Offer}
use Rattle.insertion_cost.specs.declared.pairs.PlacedVehicle.{PlacedVehicle}
use Rattle.insertion_cost.specs.Offers.{IsOfferFrom, IsFirst}
use Rattle.insertion_cost.specs.Pairs.{IsCarOf, IsBestFrom}
use Rattle.insertion_cost.specs.Pricers.{IsEntryAt}

-- what is read past the end of a fleet
no_car : Car
no_car = record { no = record { 0 = 0 }; plan = record { seats = 0; spaces = 0; until = 0; place = record { 0 = 0 }; departure = 0; halt = false; stops = []; legs = [] }; stamp = 0 }

-- a vehicle stands in each place
pub car_at : (fleet : Cars) (place : ℕ) → place < length fleet.cars → (car : Car) × (slice_get fleet.cars place ≡ Some car)
car_at fleet place l = (get_or fleet.cars place no_car, slice_get-get_or fleet.cars place no_car l)

module _ (fleet : Cars) (place : ℕ) (p : Plan) (clock : ℕ) (within : place < length fleet.cars) (plan : OfCar fleet place (λ (car : Car). p ≡ car.plan)) (time : clock ≡ fleet.clock) where
  -- its next stop isn't reached yet
  pub is_ahead : (g : Roads) → IsGoodFleet g fleet → IsAhead p clock
  is_ahead g good =
      let c = car_at fleet place within in
      subst (λ (q : Plan). IsAhead q clock) (sym (plan c.0 c.1)) (subst (λ (now : ℕ). IsAhead c.0.plan now) (sym time) (good.each place c.0 c.1).ahead)

  -- its legs are least walks of a graph
  pub is_over_graph : (g : Roads) → IsGraph g → IsGoodFleet g fleet → IsOverAGraph p
  is_over_graph g lawful good =
      let c = car_at fleet place within in
      (g, lawful, subst (λ (q : Plan). HasLeastWalks g q) (sym (plan c.0 c.1)) (good.each place c.0 c.1).least_walks)

  -- and it keeps
  pub is_kept : (g : Roads) → IsGoodFleet g fleet → (rates : Rates) → rates ≡ fleet.rates → keeps rates p ≡ true
  is_kept g good rates same =
      let c = car_at fleet place within in
      subst (λ (q : Plan). keeps rates q ≡ true) (sym (plan c.0 c.1)) (subst (λ (x : Rates). keeps x c.0.plan ≡ true) (sym same) (good.each place c.0 c.1).kept)

  -- its entry is that of the vehicle
  pub is_entry : (g : Roads) (r : Request) (v : PlacedVehicle) (rates : Rates) (front : Front) (best : Option Offer) → v.place ≡ place → OfCar fleet place (λ (car : Car). v.no ≡ car.no) → rates ≡ fleet.rates → front ≡ front_of p clock
      → ((car : Car) → IsCarOf v p car → IsBestFrom g rates v.place car front r best) → IsEntryAt g fleet r place (record { place = place; front = front; best = best })
  is_entry g r v rates front best there number same ahead all = λ car h. record {
    there = ap (λ (n : ℕ). n) (there_is);
    front = ahead ∙ ap (λ (q : Plan). front_of q clock) (plan car h) ∙ ap (λ (now : ℕ). front_of car.plan now) time;
    best = subst (λ (f : Front). IsFirst (IsOfferFrom g fleet.rates place car f r) best) (ahead ∙ ap (λ (q : Plan). front_of q clock) (plan car h) ∙ ap (λ (now : ℕ). front_of car.plan now) time)
        (subst (λ (x : Rates). IsFirst (IsOfferFrom g x place car front r) best) same
        (subst (λ (n : ℕ). IsFirst (IsOfferFrom g rates n car front r) best) there (all car (record { number = sym (number car h); plan = sym (plan car h) }))));
  }
    where
      there_is : place ≡ place
      there_is = sym there ∙ there
