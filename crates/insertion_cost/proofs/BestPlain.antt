use Rattle.std.proofs.Common.{◌≡◌, ℕ, zero, suc, ◌+◌, ◌-◌, ◌<◌, ◌≤◌, ◌==◌, ◌⊎◌, inl, inr, ⊎_elim, false, List, [], ◌∷◌, ◌++◌, length, get_or, Option, Some, None, refl, sym, ap, ◌∙◌, subst, arith, length-append}
use Rattle.std.specs.Prelude.{slice_get}
use Rattle.std.proofs.lemmas.Bool.{ne_eqb, cases_lt}
use Rattle.std.proofs.lemmas.Option.{slice_get-get_or, slice_get_within, same_Some}
use Rattle.road_graph.specs.declared.road.NodeNo.{NodeNo}
use Rattle.road_graph.specs.Graphs.{IsGraph}
use Rattle.road_graph.specs.Roads.{Roads, IsNode}
use Rattle.road_graph.specs.Walks.{IsDist, NoWalk}
use Rattle.stop_schedule.specs.declared.request.Request.{Request}
use Rattle.stop_schedule.specs.declared.stop.Front.{Front}
use Rattle.stop_schedule.specs.declared.stop.Stop.{Stop}
use Rattle.stop_schedule.specs.Fleets.{Car, Cars, OfCar, IsGoodFleet}
use Rattle.stop_schedule.specs.Fronts.{front_of}
use Rattle.stop_schedule.specs.Lists.{node_at}
use Rattle.stop_schedule.specs.Plans.{Plan}
use Rattle.insertion_cost.specs.declared.node_ways.NodeWays.{NodeWays}
use Rattle.insertion_cost.specs.declared.offer.Offer.{Offer}
use Rattle.insertion_cost.specs.NodeWays.{AreNodesOf, AreWaysOf, AreWaysTo, AreWaysAlong, IsDistOrNone}
use Rattle.insertion_cost.specs.OfferOrder.{IsFirstOfTwo}
use Rattle.insertion_cost.specs.Offers.{IsFirst, IsOffer, IsOfferNow, IsBestOrNone, NoOffer}
use Rattle.insertion_cost.specs.Pricers.{IsBestAt}
use Rattle.insertion_cost.proofs.InFleet.{car_at}
use Rattle.insertion_cost.proofs.InGraph.{nodes_of}
use Rattle.insertion_cost.proofs.Pushed.{push_cases}
use Rattle.insertion_cost.proofs.Settles.{offer_of, offer_now, first_of_both, best_or_none}

module _ (g : Roads) (r : Request) (front : Front) (stops : List Stop) where
  -- the node after stop k is that of the next one
  node_next : (k : ℕ) (d : Stop) → k < length stops → node_at front stops (k + 1) ≡ (get_or stops k d).node
  node_next k d l =
      let first : (k + 1 == 0) ≡ false = ne_eqb (k + 1) 0 (λ z. omega arith) in
      let before : k + 1 - 1 ≡ k = omega arith in
      rw (first, before, slice_get-get_or stops k d l) refl

  pub next_is_node : (k : ℕ) (d : Stop) → k < length stops → AreNodesOf g front stops → IsNode g (get_or stops k d).node
  next_is_node k d l nodes = subst (IsNode g) (node_next k d l) (nodes (k + 1) (omega arith))

  -- nothing is known at first
  pub ways_none : (ways : List NodeWays) → ways ≡ [] → AreWaysTo g r front stops 0 ways
  ways_none ways e = subst (λ (ws : List NodeWays). AreWaysTo g r front stops 0 ws) (sym e) (record { many = refl; each = λ k w h. cc })

  -- the front's first
  pub ways_first : (ways : List NodeWays) (w : NodeWays) → AreWaysOf g r front.node w → ways ≡ w ∷ [] → AreWaysTo g r front stops 1 ways
  ways_first ways w is e = subst (λ (ws : List NodeWays). AreWaysTo g r front stops 1 ws) (sym e) (record { many = refl; each = each }) where
    each : (k : ℕ) (v : NodeWays) → slice_get (w ∷ []) k ≡ Some v → AreWaysOf g r (node_at front stops k) v
    each zero v h = subst (λ (x : NodeWays). AreWaysOf g r front.node x) (same_Some w v h) is
    each (suc k) v h = cc

  -- and those of one stop more
  pub ways_more : (k : ℕ) (d : Stop) (old new : List NodeWays) (w : NodeWays) (h : Roads) → k < length stops → AreWaysTo g r front stops (k + 1) old → h ≡ g → AreWaysOf h r (get_or stops k d).node w → new ≡ old ++ w ∷ []
      → AreWaysTo g r front stops (k + 1 + 1) new
  ways_more k d old new w h l are same is e = subst (λ (ws : List NodeWays). AreWaysTo g r front stops (k + 1 + 1) ws) (sym e) (record {
    many = (let n = length-append old (w ∷ []) in let m = are.many in omega arith);
    each = λ m v i. ⊎_elim (λ before. are.each m v before)
        (λ last. subst (λ (x : NodeWays). AreWaysOf g r (node_at front stops m) x) last.1
        (subst (λ (n : ℕ). AreWaysOf g r (node_at front stops n) w) (let i = last.0 in let j = are.many in let z : k + 1 ≡ m = omega arith in z) (subst (λ (n : NodeNo). AreWaysOf g r n w) (sym (node_next k d l)) (subst (λ (q : Roads). AreWaysOf q r (get_or stops k d).node w) same is))))
        (push_cases old w v m i);
  })

  -- all of them are what a vehicle is priced by, by lists that were read
  pub ways_all : (read : List Stop) (direct : ℕ) (items ways : List NodeWays) → IsGraph g → IsDist g r.pickup r.dropoff direct → read ≡ stops → AreWaysTo g r front read (length read + 1) items → ways ≡ items → AreWaysAlong g r front stops direct ways
  ways_all read direct items ways lawful d e are f = subst (λ (ws : List NodeWays). AreWaysAlong g r front stops direct ws) (sym f)
      (subst (λ (ss : List Stop). AreWaysAlong g r front ss direct items) e (record { graph = lawful; direct_way = d; many = are.many; each = are.each }))

module _ (g : Roads) (fleet : Cars) (r : Request) where
  -- the offers of the first n vehicles
  abbrev pub IsOfferBelow : ℕ → Offer → Type 0
  IsOfferBelow n o = IsOffer g fleet r o × (o.place < n)

  pub none_below : IsFirst (IsOfferBelow 0) None
  none_below = λ o h. (let l = h.1 in absurd (omega arith))

  -- of one vehicle more
  pub below_more : (n : ℕ) (best at next : Option Offer) → n < length fleet.cars → IsFirst (IsOfferBelow n) best → IsBestAt g fleet r n at → IsFirstOfTwo best at next → IsFirst (IsOfferBelow (n + 1)) next
  below_more n best at next l f k s =
      let c = car_at fleet n l in
      first_of_both (IsOfferBelow n) (IsOfferNow g fleet n c.0 r) (IsOfferBelow (n + 1)) best at next (λ o h. split c.0 c.1 o h.0 h.1 (cases_lt o.place n)) (λ o h. (h.0, let p = h.1 in omega arith))
      (λ o h. (offer_of g fleet r n c.0 o c.1 h, let p = h.there in omega arith)) f (k c.0 c.1) s
    where
      split : (car : Car) → slice_get fleet.cars n ≡ Some car → (o : Offer) → IsOffer g fleet r o → o.place < n + 1 → (o.place < n) ⊎ (n ≤ o.place) → IsOfferBelow n o ⊎ IsOfferNow g fleet n car r o
      split car h o f p (inl b) = inl (f, b)
      split car h o f p (inr b) =
          let same : o.place ≡ n = omega arith in
          let it : f.car ≡ car = same_Some f.car car (sym f.stands ∙ ap (slice_get fleet.cars) same ∙ h) in
          inr (subst (λ (x : Car). IsOfferNow g fleet n x r o) it (subst (λ (m : ℕ). IsOfferNow g fleet m f.car r o) same (offer_now g fleet r o f)))

  -- and of all
  pub below_all : (n : ℕ) (best : Option Offer) → length fleet.cars ≤ n → IsFirst (IsOfferBelow n) best → IsBestOrNone g fleet r best
  below_all n best l f = best_or_none g fleet r best (go best f) where
    there : (o : Offer) → IsOffer g fleet r o → o.place < n
    there o h = let p = slice_get_within fleet.cars o.place h.car h.stands in omega arith

    go : (best : Option Offer) → IsFirst (IsOfferBelow n) best → IsFirst (IsOffer g fleet r) best
    go None f = λ o h. f o (h, there o h)
    go (Some b) f = (f.0.0, λ other h. f.1 other (h, there other h))

  -- without a direct way there is no offer
  pub none_direct : NoWalk g r.pickup r.dropoff → NoOffer g fleet r
  none_direct none = λ o h. none h.price.direct_way.reached.0 h.price.direct h.price.direct_way.reached.1

-- the front of a vehicle of a good fleet and its stops stand at nodes
pub nodes_at : (g : Roads) → IsGraph g → (fleet : Cars) → IsGoodFleet g fleet → (place : ℕ) (p : Plan) (clock : ℕ) (front : Front) (stops : List Stop) → place < length fleet.cars
    → OfCar fleet place (λ (car : Car). p ≡ car.plan) → clock ≡ fleet.clock → front ≡ front_of p clock → stops ≡ p.stops → AreNodesOf g front stops
nodes_at g lawful fleet good place p clock front stops l plan time ahead read =
    let c = car_at fleet place l in
    let same = plan c.0 c.1 in
    subst (λ (f : Front). AreNodesOf g f stops) (sym (ahead ∙ ap (λ (q : Plan). front_of q clock) same ∙ ap (λ (now : ℕ). front_of c.0.plan now) time))
    (subst (λ (ss : List Stop). AreNodesOf g (front_of c.0.plan fleet.clock) ss) (sym (read ∙ ap (λ (q : Plan). q.stops) same)) (nodes_of g lawful fleet.rates fleet.clock fleet.version c.0 (good.each place c.0 c.1)))

-- where no distance is told there is no walk
pub no_way : (g : Roads) (u v : NodeNo) (o : Option ℕ) → o ≡ None → IsDistOrNone g u v o → NoWalk g u v
no_way g u v o e h = subst (IsDistOrNone g u v) e h
