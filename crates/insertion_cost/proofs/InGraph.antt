use Rattle.std.proofs.Common.{◌≡◌, ℕ, zero, suc, ◌+◌, ◌-◌, ◌<◌, ◌==◌, Bool, true, false, cond, List, [], ◌∷◌, length, get_or, Some, refl, subst, arith}
use Rattle.std.specs.Prelude.{slice_get, nat_le, nat_lt}
use Rattle.std.proofs.lemmas.Bool.{ne_eqb}
use Rattle.std.proofs.lemmas.Option.{slice_get-get_or}
use Rattle.road_graph.specs.declared.road.NodeNo.{NodeNo}
use Rattle.road_graph.specs.Graphs.{IsGraph}
use Rattle.road_graph.specs.Paths.{Path, length_of}
use Rattle.road_graph.specs.Roads.{Roads, IsNode}
use Rattle.road_graph.specs.Walks.{Joins, IsLeastWalk, last_of, walk_length}
use Rattle.road_graph.proofs.WalkLaws.{each_is_node}
use Rattle.stop_schedule.specs.declared.stop.Front.{Front}
use Rattle.stop_schedule.specs.declared.stop.Stop.{Stop}
use Rattle.stop_schedule.specs.Fleets.{Car, IsGoodCar}
use Rattle.stop_schedule.specs.Fronts.{first_reached, front_on, front_of}
use Rattle.stop_schedule.specs.Keeping.{HasLeastWalks}
use Rattle.stop_schedule.specs.Lists.{node_or}
use Rattle.stop_schedule.specs.Plans.{Plan}
use Rattle.stop_schedule.specs.Rates.{Rates}
use Rattle.insertion_cost.specs.NodeWays.{AreNodesOf}

no_leg : Path
no_leg = record { nodes = []; offsets = [] }

last_there : (u : NodeNo) (more : List NodeNo) → slice_get (u ∷ more) (length more) ≡ Some (last_of u more)
last_there u [] = refl
last_there u (v ∷ more) = last_there v more

module _ (g : Roads) (lawful : IsGraph g) where
  -- each node of a least walk is one of the graph
  on_walk : (u v : NodeNo) (leg : Path) (k : ℕ) (n : NodeNo) → IsLeastWalk g u v leg → slice_get leg.nodes k ≡ Some n → IsNode g n
  on_walk u v leg k n w e = each_is_node g lawful leg.nodes (length_of leg) k n w.measured.whole e

  -- and so is its end
  walk_end : (u v : NodeNo) (leg : Path) → IsLeastWalk g u v leg → IsNode g v
  walk_end u v leg w = on leg.nodes w.joins w.measured.whole where
    on : (nodes : List NodeNo) → Joins u v nodes → walk_length g nodes ≡ Some (length_of leg) → IsNode g v
    on [] j e = absurd j
    on (x ∷ more) j e = subst (IsNode g) j.1 (each_is_node g lawful (x ∷ more) (length_of leg) (length more) (last_of x more) e (last_there x more))

  reached_there : (place : NodeNo) (departure now : ℕ) (nodes : List NodeNo) (offsets : List ℕ) → IsNode g place → ((k : ℕ) (n : NodeNo) → slice_get nodes k ≡ Some n → IsNode g n)
      → IsNode g (first_reached place departure now nodes offsets).node
  reached_there place departure now [] offsets h all = h
  reached_there place departure now (n ∷ nodes) [] h all = h
  reached_there place departure now (n ∷ nodes) (o ∷ offsets) h all = on (nat_le now (departure + o)) (reached_there place departure now nodes offsets h (λ k m e. all (suc k) m e)) where
    on : (b : Bool) → IsNode g (first_reached place departure now nodes offsets).node
        → IsNode g (cond b (let f : Front = record { node = n; time = departure + o; offset = o } in f) (first_reached place departure now nodes offsets)).node
    on true rest = all 0 n refl
    on false rest = rest

  -- the front of a schedule stands at a node
  front_there : (p : Plan) (now : ℕ) → IsNode g p.place → HasLeastWalks g p → IsNode g (front_of p now).node
  front_there p now h walks = on p.legs (λ leg k n e i. on_walk _ _ leg k n (walks 0 leg e) i) where
    on : (legs : List Path) → ((leg : Path) (k : ℕ) (n : NodeNo) → slice_get legs 0 ≡ Some leg → slice_get leg.nodes k ≡ Some n → IsNode g n) → IsNode g (front_on p.place p.departure now legs).node
    on [] all = h
    on (leg ∷ legs) all = turn (nat_lt now p.departure) where
      turn : (b : Bool) → IsNode g (cond b (let f : Front = record { node = p.place; time = p.departure; offset = 0 } in f) (first_reached p.place p.departure now leg.nodes leg.offsets)).node
      turn true = h
      turn false = reached_there p.place p.departure now leg.nodes leg.offsets h (λ k n e. all leg k n refl e)

  -- the front of a good vehicle and its stops stand at nodes
  pub nodes_of : (rates : Rates) (clock version : ℕ) (car : Car) → IsGoodCar g rates clock version car → AreNodesOf g (front_of car.plan clock) car.plan.stops
  nodes_of rates clock version car good zero l = front_there car.plan clock good.placed good.least_walks
  nodes_of rates clock version car good (suc k) l =
      let first : (suc k == 0) ≡ false = ne_eqb (suc k) 0 (λ z. omega arith) in
      let before : suc k - 1 ≡ k = omega arith in
      rw (first, before) (same_end car.plan.place (front_of car.plan clock).node car.plan.stops k (omega arith)
      (walk_end _ _ (get_or car.plan.legs k no_leg) (good.least_walks k (get_or car.plan.legs k no_leg) (slice_get-get_or car.plan.legs k no_leg (let m = good.proper.as_many_legs in omega arith)))))
    where
      same_end : (a b : NodeNo) (stops : List Stop) (k : ℕ) → k < length stops → IsNode g (node_or a (slice_get stops k)) → IsNode g (node_or b (slice_get stops k))
      same_end a b [] k l h = absurd (omega arith)
      same_end a b (s ∷ stops) zero l h = h
      same_end a b (s ∷ stops) (suc k) l h = same_end a b stops k (omega arith) h
