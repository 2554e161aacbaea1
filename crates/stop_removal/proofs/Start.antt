use Rattle.std.proofs.Common.{◌≡◌, ℕ, zero, suc, ◌+◌, ◌<◌, ◌≤◌, ◌==◌, ◌&&◌, Bool, true, false, cond, List, [], ◌∷◌, length, Option, Some, None, refl, sym, ap, arith, subst}
use Rattle.std.specs.Prelude.{slice_get, slice_index}
use Rattle.std.proofs.lemmas.Bool.{ne_eqb, eqb-true, eqb-false}
use Rattle.std.proofs.lemmas.Option.{slice_get_within}
use Rattle.road_graph.specs.declared.road.NodeNo.{NodeNo}
use Rattle.road_graph.specs.Graphs.{IsGraph}
use Rattle.road_graph.specs.Paths.{Path, length_of}
use Rattle.road_graph.specs.Roads.{Roads, IsNode}
use Rattle.road_graph.specs.Walks.{IsDist, IsWalk, IsLeastWalk}
use Rattle.road_graph.proofs.WalkLaws.{triangle, has_distance, first_is_node}
use Rattle.stop_schedule.specs.declared.stop.Front.{Front}
use Rattle.stop_schedule.specs.declared.stop.Stop.{Stop}
use Rattle.stop_schedule.specs.Fronts.{front_of}
use Rattle.stop_schedule.specs.Lists.{node_or}
use Rattle.stop_schedule.specs.Plans.{Plan, halting, still_halts}
use Rattle.stop_schedule.specs.Rates.{Rates}
use Rattle.stop_schedule.specs.Times.{halt_time}
use Rattle.stop_schedule.proofs.TimeLaws.{halt_time-detour}
use Rattle.stop_schedule.proofs.ListLaws.{StartsAt}
use Rattle.stop_schedule.proofs.FrontLaws.{IsOnLeg, on_leg}
use Rattle.stop_removal.specs.Laws.{IsGoodPlan}
use Rattle.stop_removal.proofs.Chained.{Chained, node_from, node_from_is, chained_from, chained_at, chained_dist}
use Rattle.stop_removal.proofs.Ways.{ways}

-- a first node of a distance is a node
pub from_node : (g : Roads) → IsGraph g → (u v : NodeNo) (x : ℕ) → IsDist g u v x → IsNode g u
from_node g lawful u v x d = go d.reached.0 d.reached.1 where
  go : (nodes : List NodeNo) → IsWalk g u v nodes x → IsNode g u
  go [] w = absurd w.0
  go (n ∷ nodes) w = subst (λ (m : NodeNo). IsNode g m) w.0.0 (first_is_node g lawful n nodes x w.1)

uncons : {X : Type 0} (xs : List X) → 0 < length xs → (x : X) × (rest : List X) × (xs ≡ x ∷ rest)
uncons [] l = absurd (omega arith)
uncons (x ∷ rest) l = (x, rest, refl)

module _ (g : Roads) (lawful : IsGraph g) (rates : Rates) (clock : ℕ) (p : Plan) (good : IsGoodPlan g rates clock p) where
  abbrev front : Front
  front = front_of p clock

  -- the schedule's legs, one after another
  pub chain : Chained g p.place p.stops p.legs
  chain = chained_from g p.place p.place p.stops p.legs good.proper.as_many_legs
      (λ k leg h. subst (λ (n : NodeNo). IsLeastWalk g n (node_or p.place (slice_get p.stops k)) leg) (node_from_is p.place p.place p.stops k) (good.least_walks k leg h))

  -- From where the new list starts, whose first stop from stop i on is left out: the way to that stop is there, over which it is reached
  -- no later than in the old list.
  pub record IsStart (i : ℕ) (s : Stop) (place : NodeNo) (departure : ℕ) (halt : Bool) : Type 0 where
    pub starts : StartsAt rates.stop i s.node (cond halt (Some place) None) (halting p) departure p.departure
    pub rest : ℕ
    pub way : IsDist g (node_from place place p.stops i) s.node rest
    pub sooner : departure + rest ≤ p.departure + slice_index (ways p.legs) i
    pub placed : IsNode g place
    pub late : i ≡ 0 → clock ≤ departure

  -- a first stop is left out: from the front
  start_first : (s : Stop) → slice_get p.stops 0 ≡ Some s → IsStart 0 s front.node front.time (still_halts front p)
  start_first s h = from (uncons p.legs (let l = slice_get_within p.stops 0 s h in let e = good.proper.as_many_legs in omega arith)) where
    from : (leg : Path) × (rest : List Path) × (p.legs ≡ leg ∷ rest) → IsStart 0 s front.node front.time (still_halts front p)
    from (leg, rest, are) = record {
      starts = record { halts = λ l. absurd (omega arith); leaves = λ l. absurd (omega arith); first = λ e n. halts p.halt (front.time == p.departure) (eqb-true front.time p.departure) (eqb-false front.time p.departure) n };
      rest = on.rest;
      way = on.ahead;
      sooner = (let t = on.time in let d = on.driven in omega (arith, first_way, t, d));
      placed = from_node g lawful front.node s.node on.rest on.ahead;
      late = λ e. on.late;
    } where
      first_way : slice_index (ways p.legs) 0 ≡ length_of leg
      first_way = ap (λ (legs : List Path). slice_index (ways legs) 0) are

      least : IsLeastWalk g p.place s.node leg
      least = subst (λ (o : Option Stop). IsLeastWalk g p.place (node_or p.place o) leg) h (chained_at g p.place p.place p.stops p.legs chain 0 leg (ap (λ (legs : List Path). slice_get legs 0) are))

      soon : clock ≤ p.departure + length_of leg
      soon = let a = good.ahead (slice_get_within p.stops 0 s h) in omega (arith, first_way, a)

      on : IsOnLeg g p s.node leg clock front
      on = on_leg g (triangle g lawful) (has_distance g lawful) p s.node leg rest clock are least soon

      halts : (halt now : Bool) → (now ≡ true → front.time ≡ p.departure) → (now ≡ false → front.time ≡ p.departure → ⊥) → (n : NodeNo)
          → halt_time rates.stop (cond (halt && now) (Some front.node) None) n ≤ halt_time rates.stop (cond halt (Some p.place) None) s.node + halt_time rates.stop (Some s.node) n
      halts false now here gone n = omega arith
      halts true true here gone n = rw (on.place (here refl)) (halt_time-detour rates.stop (Some p.place) s.node n)
      halts true false here gone n =
          let apart : (p.place.0 == s.node.0) ≡ false = ne_eqb p.place.0 s.node.0 (λ e. gone refl (on.rests (sym e))) in
          rw apart (omega arith)

  -- a later one is: from the place
  start_later : (i : ℕ) (s : Stop) → 0 < i → slice_get p.stops i ≡ Some s → IsStart i s p.place p.departure p.halt
  start_later i s l h = record {
    starts = record { halts = λ k. refl; leaves = λ k. refl; first = λ e. absurd (omega arith) };
    rest = slice_index (ways p.legs) i;
    way = chained_dist g p.place p.place p.stops p.legs chain i s h;
    sooner = omega arith;
    placed = good.placed;
    late = λ e. absurd (omega arith);
  }

  -- both in the form in which a new list says it
  pub start_at : (i : ℕ) (s : Stop) → slice_get p.stops i ≡ Some s → IsStart i s (cond (i == 0) front.node p.place) (cond (i == 0) front.time p.departure) (cond (i == 0) (still_halts front p) p.halt)
  start_at zero s h = start_first s h
  start_at (suc i) s h = let e : (suc i == 0) ≡ false = ne_eqb (suc i) 0 (λ z. omega arith) in rw e (start_later (suc i) s (omega arith) h)
