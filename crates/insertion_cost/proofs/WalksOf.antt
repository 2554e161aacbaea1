use Rattle.std.proofs.Common.{◌≡◌, ℕ, ◌<◌, ◌≤◌, List, length, Some, Result, Ok, Err, sym, ap, ◌∙◌, subst}
use Rattle.std.specs.Prelude.{slice_get, IfOk}
use Rattle.std.proofs.lemmas.Option.{slice_get_within}
use Rattle.road_graph.specs.Paths.{Path}
use Rattle.road_graph.specs.Roads.{Roads}
use Rattle.stop_schedule.specs.declared.request.Request.{Request}
use Rattle.stop_schedule.specs.declared.stop.Front.{Front}
use Rattle.stop_schedule.specs.declared.stop.Stop.{Stop}
use Rattle.stop_schedule.specs.Distances.{AreDistances, AreLeastWalks}
use Rattle.stop_schedule.specs.Fleets.{Car, Cars, OfCar}
use Rattle.stop_schedule.specs.Fronts.{front_of}
use Rattle.stop_schedule.specs.Lists.{IsInsertionInto, changed_ends}
use Rattle.stop_schedule.specs.Plans.{Plan}
use Rattle.insertion_cost.specs.declared.offer.Offer.{Offer}
use Rattle.insertion_cost.specs.Offers.{IsOffer, price_in}
use Rattle.insertion_cost.specs.Pricers.{AreWalksOf, HaveDistances}
use Rattle.insertion_cost.proofs.IsFeasible.{priced_parts, feasible_places}

module _ (g : Roads) (fleet : Cars) (r : Request) (o : Offer) (f : IsOffer g fleet r o) where
  -- the vehicle of an offer stands in the fleet
  pub offer_stands : o.place < length fleet.cars
  offer_stands = slice_get_within fleet.cars o.place f.car f.stands

  places : (o.at.i ≤ o.at.j) × (o.at.j ≤ length f.car.plan.stops)
  places =
      let front = front_of f.car.plan fleet.clock in
      let parts = priced_parts fleet.rates f.car.plan front r o.at f.price.direct f.price.lengths (price_in o) f.price.priced_so in
      let all = feasible_places fleet.rates f.car.plan front r o.at f.price.lengths parts.0 in
      (all.0, all.1)

  module _ (p : Plan) (stops : List Stop) (front : Front) (clock : ℕ) (plan : OfCar fleet o.place (λ (car : Car). p ≡ car.plan)) (list : stops ≡ p.stops) (time : clock ≡ fleet.clock) (ahead : front ≡ front_of p clock) where
    -- the stops and the front of a vehicle, as they were read
    stops_are : (car : Car) → slice_get fleet.cars o.place ≡ Some car → stops ≡ car.plan.stops
    stops_are car h = list ∙ ap (λ (q : Plan). q.stops) (plan car h)

    front_is : (car : Car) → slice_get fleet.cars o.place ≡ Some car → front ≡ front_of car.plan fleet.clock
    front_is car h = ahead ∙ ap (λ (now : ℕ). front_of p now) time ∙ ap (λ (q : Plan). front_of q fleet.clock) (plan car h)

    -- its places are in the list
    pub offer_is_insertion : IsInsertionInto o.at (length stops)
    offer_is_insertion = (places.0, subst (λ (xs : List Stop). o.at.j ≤ length xs) (sym (stops_are f.car f.stands)) places.1)

    -- each leg that it changes has a distance
    pub offer_has : HaveDistances g (changed_ends stops front r o.at)
    offer_has = record {
      lengths = f.price.lengths;
      are = subst (λ (xs : List Stop). AreDistances g (changed_ends xs front r o.at) f.price.lengths) (sym (stops_are f.car f.stands))
          (subst (λ (h : Front). AreDistances g (changed_ends f.car.plan.stops h r o.at) f.price.lengths) (sym (front_is f.car f.stands)) f.price.changed_legs);
    }

    -- and least walks of these are those of the offer
    pub offer_walks : {E : Type 0} (result : Result (List Path) E) → IfOk result (AreLeastWalks g (changed_ends stops front r o.at)) → IfOk result (AreWalksOf g fleet r o)
    offer_walks (Ok walks) w = λ car h. subst (λ (xs : List Stop). AreLeastWalks g (changed_ends xs (front_of car.plan fleet.clock) r o.at) walks) (stops_are car h)
        (subst (λ (q : Front). AreLeastWalks g (changed_ends stops q r o.at) walks) (front_is car h) w)
    offer_walks (Err e) w = tt
