use Rattle.std.proofs.Common.{◌≡◌, ℕ, ◌+◌, ◌<◌, ◌≤◌, ◌⊎◌, inl, inr, ⊎_elim, List, [], ◌∷◌, Option, Some, None, length, refl, sym, ap, ◌∙◌, subst, arith}
use Rattle.std.specs.Prelude.{option_map}
use Rattle.std.specs.declared.cmp.Ordering.TheVariants.{Less}
use Rattle.std.proofs.lemmas.Bool.{cases_lt}
use Rattle.ride_base.specs.declared.numbers.VehicleNo.{VehicleNo}
use Rattle.road_graph.specs.declared.road.NodeNo.{NodeNo}
use Rattle.road_graph.specs.Roads.{Roads}
use Rattle.road_graph.specs.Walks.{IsDist}
use Rattle.road_graph.proofs.WalkLaws.{one_distance}
use Rattle.stop_schedule.specs.declared.request.Request.{Request}
use Rattle.stop_schedule.specs.declared.stop.Front.{Front}
use Rattle.stop_schedule.specs.declared.stop.Insertion.{Insertion}
use Rattle.stop_schedule.specs.Fleets.{Car}
use Rattle.stop_schedule.specs.Limits.{most_stops}
use Rattle.stop_schedule.specs.Lists.{changed_ends}
use Rattle.stop_schedule.specs.Plans.{Plan}
use Rattle.stop_schedule.specs.Rates.{Rates}
use Rattle.insertion_cost.specs.declared.offer.Offer.{Offer}
use Rattle.insertion_cost.specs.declared.pairs.PlacedVehicle.{PlacedVehicle}
use Rattle.insertion_cost.specs.declared.pricing.Priced.{Priced}
use Rattle.stop_schedule.specs.Distances.{AreDistances}
use Rattle.insertion_cost.specs.NodeWays.{IsOnlyPrice}
use Rattle.insertion_cost.specs.OnWays.{HasNoneFrom}
use Rattle.insertion_cost.specs.OfferOrder.{IsFirstOfTwo}
use Rattle.insertion_cost.specs.Offers.{HasPrice, IsOfferFrom, IsFirst, price_in, offer_cmp}
use Rattle.insertion_cost.specs.Pairs.{offer_by, IsCarOf, IsPairBefore, IsTried, IsBestOfTried, IsBestFrom}
use Rattle.insertion_cost.specs.Prices.{Price, priced}
use Rattle.insertion_cost.specs.Spans.{price_from}
use Rattle.insertion_cost.proofs.IsFeasible.{priced_parts, feasible_places}
use Rattle.insertion_cost.proofs.OfferCmp.{offer_cmp-self}
use Rattle.insertion_cost.proofs.Settles.{first_of_both}

-- pairs of nodes have one list of distances
pub one_list : (g : Roads) (ends : List (NodeNo × NodeNo)) (xs ys : List ℕ) → AreDistances g ends xs → AreDistances g ends ys → xs ≡ ys
one_list g [] xs ys a b = a ∙ sym b
one_list g (e ∷ ends) [] ys a b = absurd a
one_list g (e ∷ ends) (x ∷ xs) [] a b = absurd b
one_list g (e ∷ ends) (x ∷ xs) (y ∷ ys) a b =
    ap (λ (n : ℕ). n ∷ xs) (one_distance g e.0 e.1 x y a.0 b.0) ∙ ap (λ (ns : List ℕ). y ∷ ns) (one_list g ends xs ys a.1 b.1)

-- a price is that by the distances which were found
price_found : (g : Roads) (rates : Rates) (front : Front) (p : Plan) (r : Request) (at : Insertion) (price : Price) (direct : ℕ) (lengths : List ℕ)
    → IsDist g r.pickup r.dropoff direct → AreDistances g (changed_ends p.stops front r at) lengths → HasPrice g rates front p r at price → priced rates p front r at direct lengths ≡ Some price
price_found g rates front p r at price direct lengths way legs h =
    subst (λ (x : ℕ). priced rates p front r at x lengths ≡ Some price) (one_distance g r.pickup r.dropoff h.direct direct h.direct_way way)
    (subst (λ (xs : List ℕ). priced rates p front r at h.direct xs ≡ Some price) (one_list g (changed_ends p.stops front r at) h.lengths lengths h.changed_legs legs) h.priced_so)

-- without distances there is no price
pub no_lengths : (g : Roads) (rates : Rates) (front : Front) (p : Plan) (r : Request) (at : Insertion) → ((lengths : List ℕ) → AreDistances g (changed_ends p.stops front r at) lengths → ⊥)
    → IsOnlyPrice g rates front p r at None
no_lengths g rates front p r at lacks = λ price h. lacks h.lengths h.changed_legs

-- with them it is what they come to
pub only_price : (g : Roads) (rates : Rates) (front : Front) (p : Plan) (r : Request) (at : Insertion) (direct : ℕ) (lengths : List ℕ) (found : Option Priced)
    → IsDist g r.pickup r.dropoff direct → AreDistances g (changed_ends p.stops front r at) lengths → option_map price_from found ≡ priced rates p front r at direct lengths
    → IsOnlyPrice g rates front p r at found
only_price g rates front p r at direct lengths None way legs e = λ price h. none_some price (e ∙ price_found g rates front p r at price direct lengths way legs h) where
  none_some : (q : Price) → None ≡ Some q → ⊥
  none_some q h = cc
only_price g rates front p r at direct lengths (Some x) way legs e = (
  record { direct = direct; lengths = lengths; direct_way = way; changed_legs = legs; priced_so = sym e },
  λ price h. same price (price_from x) (sym (price_found g rates front p r at price direct lengths way legs h) ∙ sym e),
)
  where
    same : (a b : Price) → Some a ≡ Some b → a ≡ b
    same a b h = cc

-- an offer by its parts
offer_is : (o : Offer) (cost : ℕ) (number : VehicleNo) (place : ℕ) (at : Insertion) (leave arrive : ℕ) → o.cost ≡ cost → o.no ≡ number → o.place ≡ place → o.at ≡ at → o.leave ≡ leave → o.arrive ≡ arrive
    → o ≡ record { cost = cost; no = number; place = place; at = at; leave = leave; arrive = arrive }
offer_is o cost number place at leave arrive ec en ep ea el er =
    ap {B = Offer} (λ (x : ℕ). record { cost = x; no = o.no; place = o.place; at = o.at; leave = o.leave; arrive = o.arrive }) ec
    ∙ ap {B = Offer} (λ (x : VehicleNo). record { cost = cost; no = x; place = o.place; at = o.at; leave = o.leave; arrive = o.arrive }) en
    ∙ ap {B = Offer} (λ (x : ℕ). record { cost = cost; no = number; place = x; at = o.at; leave = o.leave; arrive = o.arrive }) ep
    ∙ ap {B = Offer} (λ (x : Insertion). record { cost = cost; no = number; place = place; at = x; leave = o.leave; arrive = o.arrive }) ea
    ∙ ap {B = Offer} (λ (x : ℕ). record { cost = cost; no = number; place = place; at = at; leave = x; arrive = o.arrive }) el
    ∙ ap {B = Offer} (λ (x : ℕ). record { cost = cost; no = number; place = place; at = at; leave = leave; arrive = x }) er

pub pair_is : (at : Insertion) (i j : ℕ) → at.i ≡ i → at.j ≡ j → at ≡ record { i = i; j = j }
pair_is at i j ei ej = ap {B = Insertion} (λ (x : ℕ). record { i = x; j = at.j }) ei ∙ ap {B = Insertion} (λ (x : ℕ). record { i = i; j = x }) ej

module _ (g : Roads) (rates : Rates) (v : PlacedVehicle) (p : Plan) (car : Car) (front : Front) (r : Request) (is : IsCarOf v p car) where
  -- an offer of the vehicle for one pair
  record IsAt (at : Insertion) (o : Offer) : Type 0 where
    offer : IsOfferFrom g rates v.place car front r o
    pair : o.at ≡ at

  -- its price is that of the pair
  price_at : (at : Insertion) (o : Offer) → IsAt at o → HasPrice g rates front p r at (price_in o)
  price_at at o h =
      subst (λ (q : Plan). HasPrice g rates front q r at (price_in o)) is.plan
      (subst (λ (b : Insertion). HasPrice g rates front car.plan r b (price_in o)) h.pair h.offer.price)

  -- the one offer of a pair is its first
  first_at : (at : Insertion) (found : Option Priced) → IsOnlyPrice g rates front p r at found → IsFirst (IsAt at) (option_map (offer_by v at) found)
  first_at at None only = λ o h. only (price_in o) (price_at at o h)
  first_at at (Some x) only = (
    record {
      offer = record { there = refl; numbered = is.number; price = subst (λ (q : Plan). HasPrice g rates front q r at (price_from x)) (sym is.plan) only.0 };
      pair = refl;
    },
    λ other h before. offer_cmp-self (offer_by v at x) (subst (λ (o : Offer). offer_cmp o (offer_by v at x) ≡ Less) (same other h) before),
  )
    where
      same : (o : Offer) → IsAt at o → o ≡ offer_by v at x
      same o h =
          let e = only.1 (price_in o) (price_at at o h) in
          offer_is o x.cost v.no v.place at x.leave x.arrive (ap (λ (q : Price). q.cost) e) (sym h.offer.numbered ∙ is.number) h.offer.there h.pair (ap (λ (q : Price). q.leave) e) (ap (λ (q : Price). q.arrive) e)

  -- one more pair is tried
  pub one_tried : (i j : ℕ) (best new : Option Offer) (found : Option Priced) → IsBestOfTried g rates v.place car front r i j best → IsOnlyPrice g rates front p r (record { i = i; j = j }) found
      → IsFirstOfTwo best (option_map (offer_by v (record { i = i; j = j })) found) new → IsBestOfTried g rates v.place car front r i (j + 1) new
  one_tried i j best new found t only s =
      first_of_both (IsTried g rates v.place car front r i j) (IsAt (record { i = i; j = j })) (IsTried g rates v.place car front r i (j + 1)) best (option_map (offer_by v (record { i = i; j = j })) found) new
      (λ o h. splits o h h.before) (λ o h. record { offer = h.offer; before = more o h.before }) (λ o h. record { offer = h.offer; before = here o h }) t (first_at (record { i = i; j = j }) found only) s
    where
      splits : (o : Offer) → IsTried g rates v.place car front r i (j + 1) o → IsPairBefore i (j + 1) o.at → IsTried g rates v.place car front r i j o ⊎ IsAt (record { i = i; j = j }) o
      splits o h (inl b) = inl (record { offer = h.offer; before = inl b })
      splits o h (inr b) = ⊎_elim (λ l. inl (record { offer = h.offer; before = inr (b.0, l) })) (λ e. inr (record { offer = h.offer; pair = pair_is o.at i j b.0 e })) (below_or_at o.at.j j b.1)
        where
          below_or_at : (x y : ℕ) → x < y + 1 → (x < y) ⊎ (x ≡ y)
          below_or_at x y lt = grind arith

      more : (o : Offer) → IsPairBefore i j o.at → IsPairBefore i (j + 1) o.at
      more o (inl b) = inl b
      more o (inr b) = inr (b.0, let l = b.1 in omega arith)

      here : (o : Offer) → IsAt (record { i = i; j = j }) o → IsPairBefore i (j + 1) o.at
      here o h = inr (ap (λ (at : Insertion). at.i) h.pair, let e = ap (λ (at : Insertion). at.j) h.pair in omega arith)

  -- the pair of an offer is one of its vehicle's list
  offer_pair : (o : Offer) → IsOfferFrom g rates v.place car front r o → (o.at.i ≤ o.at.j) × (o.at.j ≤ length p.stops)
  offer_pair o h =
      let q = price_at o.at o (record { offer = h; pair = refl }) in
      let parts = priced_parts rates p front r o.at q.direct q.lengths (price_in o) q.priced_so in
      let places = feasible_places rates p front r o.at q.lengths parts.0 in
      (places.0, places.1)

  -- of two tests that the same offers pass the first is one
  same_first : (one two : Offer → Type 0) (best : Option Offer) → ((o : Offer) → one o → two o) → ((o : Offer) → two o → one o) → IsFirst one best → IsFirst two best
  same_first one two None to back f = λ o h. f o (back o h)
  same_first one two (Some b) to back f = (to b f.0, λ o h. f.1 o (back o h))

  -- no pair of stop i is left past the last stop
  pub stop_tried : (i last : ℕ) (best : Option Offer) → length p.stops < last → IsBestOfTried g rates v.place car front r i last best → IsBestOfTried g rates v.place car front r (i + 1) (i + 1) best
  stop_tried i last best past t =
      same_first (IsTried g rates v.place car front r i last) (IsTried g rates v.place car front r (i + 1) (i + 1)) best
      (λ o h. record { offer = h.offer; before = on o (offer_pair o h.offer) h.before }) (λ o h. record { offer = h.offer; before = back o (offer_pair o h.offer) h.before }) t
    where
      on : (o : Offer) → (o.at.i ≤ o.at.j) × (o.at.j ≤ length p.stops) → IsPairBefore i last o.at → IsPairBefore (i + 1) (i + 1) o.at
      on o places (inl b) = inl (omega arith)
      on o places (inr b) = inl (let e = b.0 in omega arith)

      back : (o : Offer) → (o.at.i ≤ o.at.j) × (o.at.j ≤ length p.stops) → IsPairBefore (i + 1) (i + 1) o.at → IsPairBefore i last o.at
      back o places (inl b) = ⊎_elim (λ l. inl l) (λ e. inr (e, let m = places.1 in omega arith)) (below_or_at o.at.i i b) where
        below_or_at : (x y : ℕ) → x < y + 1 → (x < y) ⊎ (x ≡ y)
        below_or_at x y lt = grind arith
      back o places (inr b) = absurd (let m = places.0 in let e = b.0 in let l = b.1 in omega arith)

  -- nor where no later pair of stop i has a price
  pub rest_none : (i j : ℕ) (best : Option Offer) → HasNoneFrom g rates front p r i j → IsBestOfTried g rates v.place car front r i j best → IsBestOfTried g rates v.place car front r (i + 1) (i + 1) best
  rest_none i j best none t =
      same_first (IsTried g rates v.place car front r i j) (IsTried g rates v.place car front r (i + 1) (i + 1)) best
      (λ o h. record { offer = h.offer; before = on o h.before }) (λ o h. record { offer = h.offer; before = back o h.offer (offer_pair o h.offer) h.before }) t
    where
      on : (o : Offer) → IsPairBefore i j o.at → IsPairBefore (i + 1) (i + 1) o.at
      on o (inl b) = inl (omega arith)
      on o (inr b) = inl (let e = b.0 in omega arith)

      here : (o : Offer) → IsOfferFrom g rates v.place car front r o → o.at.i ≡ i → IsPairBefore i j o.at
      here o h e = ⊎_elim (λ l. inr (e, l)) (λ m. absurd (none o.at (price_in o) e m (price_at o.at o (record { offer = h; pair = refl })))) (cases_lt o.at.j j)

      back : (o : Offer) → IsOfferFrom g rates v.place car front r o → (o.at.i ≤ o.at.j) × (o.at.j ≤ length p.stops) → IsPairBefore (i + 1) (i + 1) o.at → IsPairBefore i j o.at
      back o h places (inl b) = ⊎_elim (λ l. inl l) (λ e. here o h e) (below_or_at o.at.i i b) where
        below_or_at : (x y : ℕ) → x < y + 1 → (x < y) ⊎ (x ≡ y)
        below_or_at x y lt = grind arith
      back o h places (inr b) = absurd (let m = places.0 in let e = b.0 in let l = b.1 in omega arith)

  -- a list without room for two more stops has no offer
  pub too_many : most_stops < length p.stops + 2 → IsBestFrom g rates v.place car front r None
  too_many many = λ o h.
      let q = price_at o.at o (record { offer = h; pair = refl }) in
      let parts = priced_parts rates p front r o.at q.direct q.lengths (price_in o) q.priced_so in
      let places = feasible_places rates p front r o.at q.lengths parts.0 in
      let few = places.2 in
      omega arith

  -- before anything is tried there is nothing
  pub none_tried : IsBestOfTried g rates v.place car front r 0 0 None
  none_tried = λ o h. nothing o h.before where
    nothing : (o : Offer) → IsPairBefore 0 0 o.at → ⊥
    nothing o (inl b) = omega arith
    nothing o (inr b) = let l = b.1 in omega arith

  -- with all pairs tried it is the best of the vehicle
  pub all_tried : (last : ℕ) (best : Option Offer) → length p.stops < last → IsBestOfTried g rates v.place car front r last last best → IsBestFrom g rates v.place car front r best
  all_tried last best past t =
      same_first (IsTried g rates v.place car front r last last) (IsOfferFrom g rates v.place car front r) best (λ o h. h.offer)
      (λ o h. record { offer = h; before = inl (let places = offer_pair o h in let a = places.0 in let b = places.1 in omega arith) }) t
