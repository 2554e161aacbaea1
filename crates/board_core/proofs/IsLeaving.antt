use Rattle.std.proofs.Common.{◌≡◌, ℕ, Bool, true, false, cond, List, [], ◌∷◌, Option, Some, None, is_some, sym, refl, ap, ◌∙◌, subst}
use Rattle.std.specs.Prelude.{slice_get}
use Rattle.std.specs.List.{list_any}
use Rattle.ride_base.specs.declared.numbers.RequestNo.{RequestNo}
use Rattle.road_graph.specs.declared.road.NodeNo.{NodeNo}
use Rattle.road_graph.specs.Paths.{Path}
use Rattle.road_graph.specs.Roads.{Roads}
use Rattle.stop_schedule.specs.declared.stop.Front.{Front}
use Rattle.stop_schedule.specs.declared.stop.Stop.{Stop}
use Rattle.stop_schedule.specs.Distances.{AreLeastWalks}
use Rattle.stop_schedule.specs.Fleets.{Car, IsGoodCar, IsGoodFleet, Fitting}
use Rattle.stop_schedule.specs.Fronts.{front_of}
use Rattle.stop_schedule.specs.Keeping.{keeps, picks_up}
use Rattle.stop_schedule.specs.Rates.{Rates}
use Rattle.stop_removal.specs.declared.removal.Removal.{Removal}
use Rattle.stop_removal.specs.Removals.{AreStopsOf, joint_ends, removed_in}
use Rattle.stop_removal.proofs.RemovalLaws.{removals_keep_promises}
use Rattle.insertion_cost.specs.declared.decision.Assigned.{Assigned}
use Rattle.insertion_cost.specs.declared.decision.Decision.{Decision}
use Rattle.insertion_cost.specs.declared.decision.Decision.TheVariants.{Assigned as IsAssigned, Nobody}
use Rattle.board_core.specs.declared.entry.CancelReason.TheVariants as why
use Rattle.board_core.specs.BoardCalls.{AreWaysBetween, MayRemove, HasLeastJoins}
use Rattle.board_core.specs.BoardKept.{IsAmong, IsKeptBoard, IsKeptPlan}
use Rattle.board_core.specs.Boards.{Board, answer_of, waiting_of}
use Rattle.board_core.specs.Changes.{AreJoinable, IsGraphOf}
use Rattle.board_core.specs.Steps.{cancel_refusal, cancel_refusal_by, is_to_pick_up}
use Rattle.board_core.proofs.Joints.{IsDriven, joints_joinable, ways_of}
use Rattle.board_core.proofs.KeptBoards.{not_cancelled}
use Rattle.board_core.proofs.KeptPlans.{front_among}
use Rattle.board_core.proofs.LastStops.{last_keeps}

-- Riders who may cancel, over a graph: the vehicle that they were given and its schedule, which is good.
pub record IsLeaving (g : Roads) (b : Board) (number : RequestNo) : Type 0 where
  pub assigned : Assigned
  pub car : Car
  pub answer : answer_of b number ≡ Some (IsAssigned assigned)
  pub stands : slice_get b.fleet.cars assigned.offer.place ≡ Some car
  pub picks : list_any (picks_up number) car.plan.stops ≡ true
  pub good : IsGoodCar g b.fleet.rates b.fleet.clock b.fleet.version car

was_given : (b : Board) (number : RequestNo) → cancel_refusal b number ≡ None → (a : Assigned) × (answer_of b number ≡ Some (IsAssigned a))
was_given b number h = on (is_some (waiting_of b number)) (answer_of b number) refl h
  where
    on : (w : Bool) (o : Option Decision) → answer_of b number ≡ o → cond w (Some why.Waiting) (cancel_refusal_by b number o) ≡ None → (a : Assigned) × (answer_of b number ≡ Some (IsAssigned a))
    on true o e q = absurd (let bad : Some why.Waiting ≡ None = q in cc)
    on false None e q = absurd (let bad : Some why.Unknown ≡ None = q in cc)
    on false (Some Nobody) e q = absurd (let bad : Some why.Nobody ≡ None = q in cc)
    on false (Some (IsAssigned a)) e q = (a, e)

to_pick_up : (number : RequestNo) (o : Option Car) → is_to_pick_up number o ≡ true → (car : Car) × (o ≡ Some car) × (list_any (picks_up number) car.plan.stops ≡ true)
to_pick_up number None h = absurd (let bad : false ≡ true = h in cc)
to_pick_up number (Some car) h = (car, refl, h)

pub leaving : (g : Roads) (b : Board) (number : RequestNo) → IsGoodFleet g b.fleet → cancel_refusal b number ≡ None → IsLeaving g b number
leaving g b number good h = let a = was_given b number h in let n = not_cancelled b number a.0 h a.1 in let c = to_pick_up number (slice_get b.fleet.cars a.0.offer.place) n.1 in
    record { assigned = a.0; car = c.0; answer = a.1; stands = c.1; picks = c.2; good = good.each a.0.offer.place c.0 c.1 }

driven : (g : Roads) (rates : Rates) (clock version : ℕ) (car : Car) → IsGoodCar g rates clock version car → IsDriven g clock car.plan
driven g rates clock version car h = record { proper = h.proper; least = h.least_walks; ahead = h.ahead }

-- the legs around their stops can be joined
pub may_join : (Fits : Fitting) (g : Roads) (b : Board) (arrivals : List ℕ) (number : RequestNo) (l : IsLeaving g b number) → IsKeptBoard Fits b arrivals → g.nodes ≡ b.nodes → (i j : ℕ) → AreStopsOf number l.car.plan.stops i j
    → (stops : List Stop) (front : Front) (ends : List (NodeNo × NodeNo)) → stops ≡ l.car.plan.stops → front ≡ front_of l.car.plan b.fleet.clock → ends ≡ joint_ends stops front i j → AreJoinable g ends
may_join Fits g b arrivals number l kept many i j at stops front ends hs hf he = subst (AreJoinable g) (sym (he ∙ ap (λ (s : List Stop). joint_ends s front i j) hs ∙ ap (λ (f : Front). joint_ends l.car.plan.stops f i j) hf))
    (joints_joinable g b.fleet.clock l.car.plan i j (driven g b.fleet.rates b.fleet.clock b.fleet.version l.car l.good)
    (subst (λ (n : ℕ). IsAmong n (front_of l.car.plan b.fleet.clock).node) (sym many) (front_among b.nodes l.car.plan b.fleet.clock k.place k.legs))
    (λ m s e. subst (λ (n : ℕ). IsAmong n s.node) (sym many) (k.stops m s e)) at.from_first at.order)
  where
    k : IsKeptPlan b.nodes b.fleet.rates b.fleet.clock l.car.plan
    k = kept.fleet.plans l.assigned.offer.place l.car l.stands

-- what is left keeps
still_keeps : (g : Roads) (rates : Rates) (clock version : ℕ) (car : Car) (number : RequestNo) (i j : ℕ) (walks : List Path) → IsGoodCar g rates clock version car → AreStopsOf number car.plan.stops i j
    → AreLeastWalks g (joint_ends car.plan.stops (front_of car.plan clock) i j) walks → IsGraphOf g (joint_ends car.plan.stops (front_of car.plan clock) i j) → keeps rates (removed_in car.plan (front_of car.plan clock) i j walks) ≡ true
still_keeps g rates clock version car number i j walks h at least graph = on (joint_ends car.plan.stops (front_of car.plan clock) i j) refl graph least
  where
    on : (ends : List (NodeNo × NodeNo)) → joint_ends car.plan.stops (front_of car.plan clock) i j ≡ ends → IsGraphOf g ends → AreLeastWalks g ends walks → keeps rates (removed_in car.plan (front_of car.plan clock) i j walks) ≡ true
    on [] e graph w = last_keeps rates car.plan (front_of car.plan clock) number i j walks h.proper h.kept at e w
    on (x ∷ ends) e graph w = (removals_keep_promises g rates clock car.plan number i j walks graph (record { placed = h.placed; proper = h.proper; kept = h.kept; least_walks = h.least_walks; ahead = h.ahead }) at least).0.kept

-- the removal is possible
pub may_leave : (g : Roads) (b : Board) (number : RequestNo) (l : IsLeaving g b number) (x : Removal) → g.nodes ≡ b.nodes → cancel_refusal b number ≡ None → x.no ≡ l.car.no → AreStopsOf number l.car.plan.stops x.pickup x.dropoff
    → AreLeastWalks g (joint_ends l.car.plan.stops (front_of l.car.plan b.fleet.clock) x.pickup x.dropoff) x.walks → IsGraphOf g (joint_ends l.car.plan.stops (front_of l.car.plan b.fleet.clock) x.pickup x.dropoff) → MayRemove b number x
may_leave g b number l x many h numbered at least graph = record {
  assigned = l.assigned;
  car = l.car;
  not_refused = h;
  answer = l.answer;
  stands = l.stands;
  numbered = sym numbered;
  stops = at;
  ways = subst (λ (n : ℕ). AreWaysBetween n (joint_ends l.car.plan.stops (front_of l.car.plan b.fleet.clock) x.pickup x.dropoff) x.walks) many
      (ways_of g (joint_ends l.car.plan.stops (front_of l.car.plan b.fleet.clock) x.pickup x.dropoff) x.walks graph least);
  kept = still_keeps g b.fleet.rates b.fleet.clock b.fleet.version l.car number x.pickup x.dropoff x.walks l.good at least graph;
}

pub leaves_least : (g : Roads) (b : Board) (number : RequestNo) (l : IsLeaving g b number) (x : Removal) → AreLeastWalks g (joint_ends l.car.plan.stops (front_of l.car.plan b.fleet.clock) x.pickup x.dropoff) x.walks → HasLeastJoins g b number x
leaves_least g b number l x least = record { assigned = l.assigned; car = l.car; answer = l.answer; stands = l.stands; walks = least }
