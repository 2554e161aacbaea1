use Rattle.std.proofs.Common.{◌≡◌, ℕ, zero, suc, ◌-◌, ◌==◌, false, List, Option, Some, None, refl, sym, ap, ◌∙◌, subst, arith}
use Rattle.std.specs.Prelude.{slice_get, option_map, MatchOption}
use Rattle.std.proofs.lemmas.Bool.{ne_eqb}
use Rattle.std.proofs.lemmas.List.{length-map}
use Rattle.std.proofs.lemmas.Option.{slice_get-map, same_Some}
use Rattle.road_graph.specs.declared.road.NodeNo.{NodeNo}
use Rattle.road_graph.specs.Graphs.{IsGraph}
use Rattle.road_graph.specs.Roads.{Roads}
use Rattle.road_graph.specs.Walks.{IsDist, NoWalk}
use Rattle.plain_search.specs.declared.reached.Way.{Way}
use Rattle.plain_search.specs.declared.reached.Way.TheVariants.{From, To}
use Rattle.plain_search.specs.Reaching.{Listing, IsBeyond, IsDistBy, distance_of}
use Rattle.stop_schedule.specs.declared.request.Request.{Request}
use Rattle.stop_schedule.specs.declared.stop.Front.{Front}
use Rattle.stop_schedule.specs.declared.stop.Stop.{Stop}
use Rattle.stop_schedule.specs.Fleets.{Car}
use Rattle.stop_schedule.specs.Lists.{node_at}
use Rattle.stop_schedule.specs.Rates.{Rates}
use Rattle.insertion_cost.specs.declared.node_ways.NodeWays.{NodeWays}
use Rattle.insertion_cost.specs.declared.searches.Searches.{Searches}
use Rattle.insertion_cost.specs.NodeWays.{IsDistOrNone, AreWaysOf, AreWaysAlong}
use Rattle.insertion_cost.specs.Pairs.{IsBestFrom}
use Rattle.insertion_cost.specs.Searches.{IsWholeReach, AreSearchesOf, ways_at, ways_along}

-- what a whole reach lists for a node
whole : (g : Roads) (way : Way) (start n : NodeNo) (s : Listing) → IsWholeReach g way start s → MatchOption (distance_of s.listed n) (IsBeyond way g start None n) (IsDistBy way g start n)
whole g way start n s w =
    subst (λ (k : Way). MatchOption (distance_of s.listed n) (IsBeyond k g start None n) (IsDistBy k g start n)) w.its_way
    (subst (λ (m : NodeNo). MatchOption (distance_of s.listed n) (IsBeyond s.way g m None n) (IsDistBy s.way g m n)) w.its_start
    (subst (λ (radius : Option ℕ). MatchOption (distance_of s.listed n) (IsBeyond s.way g s.start radius n) (IsDistBy s.way g s.start n)) w.unbounded (listed (distance_of s.listed n) refl)))
  where
    listed : (o : Option ℕ) → distance_of s.listed n ≡ o → MatchOption o (IsBeyond s.way g s.start s.radius n) (IsDistBy s.way g s.start n)
    listed None e = w.is_reach.others n e
    listed (Some x) e = w.is_reach.reached.exact n x e

-- is the distance to its start
to_start : (g : Roads) (start n : NodeNo) (s : Listing) → IsWholeReach g To start s → IsDistOrNone g n start (distance_of s.listed n)
to_start g start n s w = go (distance_of s.listed n) (whole g To start n s w) where
  go : (o : Option ℕ) → MatchOption o (IsBeyond To g start None n) (IsDistBy To g start n) → IsDistOrNone g n start o
  go None h = h
  go (Some x) h = h

-- or from it
from_start : (g : Roads) (start n : NodeNo) (s : Listing) → IsWholeReach g From start s → IsDistOrNone g start n (distance_of s.listed n)
from_start g start n s w = go (distance_of s.listed n) (whole g From start n s w) where
  go : (o : Option ℕ) → MatchOption o (IsBeyond From g start None n) (IsDistBy From g start n) → IsDistOrNone g start n o
  go None h = h
  go (Some x) h = h

module _ (g : Roads) (r : Request) (s : Searches) (are : AreSearchesOf g r s) where
  -- the distances between a node and the two nodes of the request
  ways_are : (n : NodeNo) → AreWaysOf g r n (ways_at s n)
  ways_are n = record {
    to_pickup = to_start g r.pickup n s.to_pickup are.to_pickup;
    from_pickup = from_start g r.pickup n s.from_pickup are.from_pickup;
    to_dropoff = to_start g r.dropoff n s.to_dropoff are.to_dropoff;
    from_dropoff = from_start g r.dropoff n s.from_dropoff are.from_dropoff;
  }

  -- the direct way
  pub direct_is : IsDistOrNone g r.pickup r.dropoff (distance_of s.from_pickup.listed r.dropoff)
  direct_is = from_start g r.pickup r.dropoff s.from_pickup are.from_pickup

  each_way : (front : Front) (stops : List Stop) (k : ℕ) (w : NodeWays) → slice_get (ways_along s front stops) k ≡ Some w → AreWaysOf g r (node_at front stops k) w
  each_way front stops zero w e = subst (λ (v : NodeWays). AreWaysOf g r front.node v) (same_Some _ w e) (ways_are front.node)
  each_way front stops (suc k) w e = go (slice_get stops k) refl (sym (slice_get-map (λ (t : Stop). ways_at s t.node) stops k) ∙ e) where
    go : (o : Option Stop) → slice_get stops k ≡ o → option_map (λ (t : Stop). ways_at s t.node) o ≡ Some w → AreWaysOf g r (node_at front stops (suc k)) w
    go None h f = cc
    go (Some t) h f =
        let first : (suc k == 0) ≡ false = ne_eqb (suc k) 0 (λ z. omega arith) in
        let before : suc k - 1 ≡ k = omega arith in
        rw (first, before, h) (subst (λ (v : NodeWays). AreWaysOf g r t.node v) (same_Some _ w f) (ways_are t.node))

  -- what a vehicle is priced by
  pub along_is : (front : Front) (stops : List Stop) (direct : ℕ) → IsGraph g → IsDist g r.pickup r.dropoff direct → AreWaysAlong g r front stops direct (ways_along s front stops)
  along_is front stops direct lawful d = record {
    graph = lawful;
    direct_way = d;
    many = (let n = length-map stops (λ (t : Stop). ways_at s t.node) in omega arith);
    each = each_way front stops;
  }

  -- by lists that were read
  pub along_read : (front : Front) (stops read : List Stop) (items ways : List NodeWays) (direct : ℕ) → IsGraph g → Some direct ≡ distance_of s.from_pickup.listed r.dropoff → read ≡ stops → items ≡ ways_along s front read → ways ≡ items
      → AreWaysAlong g r front stops direct ways
  along_read front stops read items ways direct lawful d e f h =
      subst (λ (ws : List NodeWays). AreWaysAlong g r front stops direct ws) (sym (h ∙ f ∙ ap (ways_along s front) e))
      (along_is front stops direct lawful (subst (λ (o : Option ℕ). IsDistOrNone g r.pickup r.dropoff o) (sym d) direct_is))

  -- without a direct way a vehicle has no offer
  pub no_direct : (rates : Rates) (place : ℕ) (car : Car) (front : Front) → None ≡ distance_of s.from_pickup.listed r.dropoff → IsBestFrom g rates place car front r None
  no_direct rates place car front d = λ o h. (let none : NoWalk g r.pickup r.dropoff = subst (λ (x : Option ℕ). IsDistOrNone g r.pickup r.dropoff x) (sym d) direct_is in
      none h.price.direct_way.reached.0 h.price.direct h.price.direct_way.reached.1)
