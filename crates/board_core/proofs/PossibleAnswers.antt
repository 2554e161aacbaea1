use Rattle.std.proofs.Common.{◌≡◌, ℕ, ◌≤◌, List, [], ◌∷◌, map, Some, sym, ◌∙◌, subst}
use Rattle.std.specs.Prelude.{slice_get}
use Rattle.std.proofs.lemmas.Option.{same_Some}
use Rattle.road_graph.specs.declared.road.NodeNo.{NodeNo}
use Rattle.road_graph.specs.Graphs.{IsGraph}
use Rattle.road_graph.specs.Paths.{Path, length_of}
use Rattle.road_graph.specs.Roads.{Roads}
use Rattle.road_graph.specs.Walks.{IsLeastWalk}
use Rattle.road_graph.proofs.WalkLaws.{each_is_node, dist_short}
use Rattle.stop_schedule.specs.Distances.{AreLeastWalks}
use Rattle.stop_schedule.specs.Fleets.{Car}
use Rattle.stop_schedule.specs.Fronts.{front_of}
use Rattle.stop_schedule.specs.Lists.{changed_ends}
use Rattle.stop_removal.specs.Laws.{IsGoodPlan}
use Rattle.stop_removal.specs.Removals.{joint_ends}
use Rattle.stop_removal.proofs.RemovalLaws.{removals_keep_promises}
use Rattle.insertion_cost.specs.declared.decision.Assigned.{Assigned}
use Rattle.insertion_cost.specs.declared.decision.Decision.{Decision}
use Rattle.insertion_cost.specs.declared.decision.Decision.TheVariants.{Assigned as IsAssigned, Nobody}
use Rattle.insertion_cost.specs.Offers.{HasPrice, IsOffer, price_in}
use Rattle.insertion_cost.specs.Pricers.{IsBestPlan}
use Rattle.insertion_cost.specs.Prices.{priced}
use Rattle.board_core.specs.BoardCalls.{IsWayBetween, AreWaysBetween, IsPossible, IsPossibleFor, IsAnswerTo}
use Rattle.board_core.specs.Boards.{Board, Waiting}
use Rattle.board_core.specs.Laws.{AnswersArePossible, IsShortWay, RemovalsArePossible}
use Rattle.board_core.proofs.NewLegs.{dist_unique, lengths_unique}

-- a least walk is a way between its ends
way : (g : Roads) → IsGraph g → (nodes : ℕ) → g.nodes ≡ nodes → (u v : NodeNo) (w : Path) → IsLeastWalk g u v w → IsWayBetween nodes u v w
way g graph nodes same u v w l = record {
  joins = l.joins;
  within = λ k n stands. subst (λ (m : ℕ). (1 ≤ n.0) × (n.0 ≤ m)) same (each_is_node g graph w.nodes (length_of w) k n l.measured.whole stands);
  short = dist_short g graph u v (length_of w) l.least;
}

-- and so are least walks of pairs of nodes
ways : (g : Roads) → IsGraph g → (nodes : ℕ) → g.nodes ≡ nodes → (ends : List (NodeNo × NodeNo)) (walks : List Path) → AreLeastWalks g ends walks → AreWaysBetween nodes ends walks
ways g graph nodes same [] walks l = l
ways g graph nodes same (e ∷ ends) [] l = absurd l
ways g graph nodes same (e ∷ ends) (w ∷ walks) l = (way g graph nodes same e.0 e.1 w l.0, ways g graph nodes same ends walks l.1)

-- one vehicle stands in a place
one_car : (cars : List Car) (place : ℕ) (car other : Car) → slice_get cars place ≡ Some car → slice_get cars place ≡ Some other → car ≡ other
one_car cars place car other stands too = same_Some car other (sym stands ∙ too)

-- the best insertion over a graph is possible
possible : (g : Roads) (b : Board) (w : Waiting) (a : Assigned) (direct : ℕ) → IsGraph g → g.nodes ≡ b.nodes → IsBestPlan g b.fleet w.request a direct → IsPossible b w a direct
possible g b w a direct graph same h = record {
  car = is.car;
  cost = a.offer.cost;
  stands = is.stands;
  numbered = is.numbered;
  ways = ways g graph b.nodes same (changed_ends is.car.plan.stops (front_of is.car.plan b.fleet.clock) w.request a.offer.at) a.walks walks;
  priced_so = of_price is.price;
}
  where
    is : IsOffer g b.fleet w.request a.offer
    is = h.best.feasible

    walks : AreLeastWalks g (changed_ends is.car.plan.stops (front_of is.car.plan b.fleet.clock) w.request a.offer.at) a.walks
    walks = h.walks is.car is.stands

    of_price : HasPrice g b.fleet.rates (front_of is.car.plan b.fleet.clock) is.car.plan w.request a.offer.at (price_in a.offer)
        → priced b.fleet.rates is.car.plan (front_of is.car.plan b.fleet.clock) w.request a.offer.at direct (map length_of a.walks) ≡ Some (price_in a.offer)
    of_price p =
        subst (λ (x : ℕ). priced b.fleet.rates is.car.plan (front_of is.car.plan b.fleet.clock) w.request a.offer.at x (map length_of a.walks) ≡ Some (price_in a.offer)) (dist_unique p.direct_way h.direct_way)
        (subst (λ (lengths : List ℕ). priced b.fleet.rates is.car.plan (front_of is.car.plan b.fleet.clock) w.request a.offer.at p.direct lengths ≡ Some (price_in a.offer))
        (lengths_unique g (changed_ends is.car.plan.stops (front_of is.car.plan b.fleet.clock) w.request a.offer.at) p.lengths a.walks p.changed_legs walks) p.priced_so)

-- each answer over a graph is possible
pub possible_answers : AnswersArePossible
possible_answers g b w d direct graph same h = on d h
  where
    on : (d : Decision) → IsAnswerTo g b w d direct → IsPossibleFor b w d direct × IsShortWay d direct
    on Nobody h = (tt, tt)
    on (IsAssigned a) h = (possible g b w a direct graph same h, dist_short g graph w.request.pickup w.request.dropoff direct h.direct_way)

-- a removal is possible with least walks of the joined legs
pub possible_removals : RemovalsArePossible
possible_removals g b number x graph same fleet h can = record {
  assigned = can.assigned;
  car = can.car;
  not_refused = can.not_refused;
  answer = can.answer;
  stands = can.stands;
  numbered = can.numbered;
  stops = can.stops;
  ways = ways g graph b.nodes same (joint_ends can.car.plan.stops (front_of can.car.plan b.fleet.clock) x.pickup x.dropoff) x.walks joins;
  kept = (removals_keep_promises g b.fleet.rates b.fleet.clock can.car.plan number x.pickup x.dropoff x.walks graph good can.stops joins).0.kept;
}
  where
    assigned : h.assigned ≡ can.assigned
    assigned = given (same_Some _ _ (sym h.answer ∙ can.answer))
      where
        given : IsAssigned h.assigned ≡ IsAssigned can.assigned → h.assigned ≡ can.assigned
        given e = cc

    is : h.car ≡ can.car
    is = one_car b.fleet.cars can.assigned.offer.place h.car can.car (subst (λ (a : Assigned). slice_get b.fleet.cars a.offer.place ≡ Some h.car) assigned h.stands) can.stands

    joins : AreLeastWalks g (joint_ends can.car.plan.stops (front_of can.car.plan b.fleet.clock) x.pickup x.dropoff) x.walks
    joins = subst (λ (car : Car). AreLeastWalks g (joint_ends car.plan.stops (front_of car.plan b.fleet.clock) x.pickup x.dropoff) x.walks) is h.walks

    good : IsGoodPlan g b.fleet.rates b.fleet.clock can.car.plan
    good = let c = fleet.each can.assigned.offer.place can.car can.stands in
        record { placed = c.placed; proper = c.proper; kept = c.kept; least_walks = c.least_walks; ahead = c.ahead }
