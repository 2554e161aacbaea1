use Rattle.std.proofs.Common.{◌≡◌, ℕ, zero, suc, ◌+◌, ◌==◌, Bool, true, false, cond, List, [], ◌∷◌, length, Some, sym, refl, subst}
use Rattle.std.specs.Prelude.{slice_get, nat_le, nat_lt}
use Rattle.ride_base.specs.declared.numbers.RequestNo.{RequestNo}
use Rattle.road_graph.specs.declared.road.NodeNo.{NodeNo}
use Rattle.road_graph.specs.Graphs.{IsGraph}
use Rattle.road_graph.specs.Paths.{Path, length_of}
use Rattle.road_graph.specs.Roads.{Roads, IsNode}
use Rattle.road_graph.specs.Walks.{Joins, IsLeastWalk, last_of, walk_length}
use Rattle.road_graph.proofs.WalkLaws.{each_is_node}
use Rattle.stop_schedule.specs.declared.stop.Front.{Front}
use Rattle.stop_schedule.specs.declared.stop.Insertion.{Insertion}
use Rattle.stop_schedule.specs.declared.stop.Stop.{Stop}
use Rattle.stop_schedule.specs.Fronts.{IsAhead, first_reached, front_on, front_of}
use Rattle.stop_schedule.specs.Lists.{start_of}
use Rattle.stop_schedule.specs.Plans.{Plan, course_of}
use Rattle.stop_schedule.specs.Rates.{Rates}
use Rattle.stop_advance.specs.Advance.{reached_by, advanced_in}
use Rattle.stop_removal.specs.Laws.{IsGoodPlan, RemovalsKeepPromises}
use Rattle.stop_schedule.specs.Distances.{AreLeastWalks}
use Rattle.stop_removal.specs.Removals.{AreStopsOf, joint_ends, removed_in}
use Rattle.board_core.proofs.Advances.{reached-le, rest_sound}
use Rattle.board_core.proofs.Ahead.{rest_ahead}
use Rattle.board_core.proofs.Chains.{Chained, node_from, node_from-cons, node_from_is}
use Rattle.board_core.proofs.SoundPlans.{IsSound, sound_is, sound_from}

-- what each schedule of a board meets at a clock: it is sound, it stands in the graph, and no stop is reached before the clock
pub record IsGood (g : Roads) (rates : Rates) (clock : ℕ) (p : Plan) : Type 0 where
  pub sound : IsSound g rates p
  pub placed : IsNode g p.place
  pub ahead : IsAhead p clock

pub good_plan : (g : Roads) (rates : Rates) (clock : ℕ) (p : Plan) → IsGood g rates clock p → IsGoodPlan g rates clock p
good_plan g rates clock p h = let s = sound_is g rates p h.sound in record { placed = h.placed; proper = s.0; kept = s.1; least_walks = s.2; ahead = h.ahead }

pub good_from : (g : Roads) (rates : Rates) (clock : ℕ) (p : Plan) → IsGoodPlan g rates clock p → IsGood g rates clock p
good_from g rates clock p h = record { sound = sound_from g rates p h.proper h.kept h.least_walks; placed = h.placed; ahead = h.ahead }

last_there : (u : NodeNo) (more : List NodeNo) → slice_get (u ∷ more) (length more) ≡ Some (last_of u more)
last_there u [] = refl
last_there u (v ∷ more) = last_there v more

-- the end of a leg is a node
leg_end : (g : Roads) → IsGraph g → (u v : NodeNo) (leg : Path) → IsLeastWalk g u v leg → IsNode g v
leg_end g graph u v leg w = on leg.nodes w.joins w.measured.whole
  where
    on : (nodes : List NodeNo) → Joins u v nodes → walk_length g nodes ≡ Some (length_of leg) → IsNode g v
    on [] j e = absurd j
    on (x ∷ more) j e = subst (IsNode g) j.1 (each_is_node g graph (x ∷ more) (length_of leg) (length more) (last_of x more) e (last_there x more))

-- each place of a chain is a node
stop_placed : (g : Roads) → IsGraph g → (d u : NodeNo) (stops : List Stop) (legs : List Path) → IsNode g d → IsNode g u → Chained g u stops legs → (k : ℕ) → IsNode g (node_from d u stops k)
stop_placed g graph d u stops legs hd hu c zero = hu
stop_placed g graph d u [] legs hd hu c (suc k) = hd
stop_placed g graph d u (s ∷ stops) [] hd hu c (suc k) = absurd c
stop_placed g graph d u (s ∷ stops) (leg ∷ legs) hd hu c (suc k) =
    subst (IsNode g) (sym (node_from-cons d u s stops k)) (stop_placed g graph d s.node stops legs hd (leg_end g graph u s.node leg c.0) c.1 k)

-- so is a vehicle's front
reached_placed : (g : Roads) (place : NodeNo) (departure now : ℕ) (nodes : List NodeNo) (offsets : List ℕ) → IsNode g place → ((k : ℕ) (n : NodeNo) → slice_get nodes k ≡ Some n → IsNode g n)
    → IsNode g (first_reached place departure now nodes offsets).node
reached_placed g place departure now [] offsets h all = h
reached_placed g place departure now (n ∷ nodes) [] h all = h
reached_placed g place departure now (n ∷ nodes) (o ∷ offsets) h all = on (nat_le now (departure + o)) (reached_placed g place departure now nodes offsets h (λ k m e. all (suc k) m e))
  where
    on : (b : Bool) → IsNode g (first_reached place departure now nodes offsets).node
        → IsNode g (cond b (let f : Front = record { node = n; time = departure + o; offset = o } in f) (first_reached place departure now nodes offsets)).node
    on true rest = all 0 n refl
    on false rest = rest

front_placed : (g : Roads) → IsGraph g → (p : Plan) (now : ℕ) → IsNode g p.place → Chained g p.place p.stops p.legs → IsNode g (front_of p now).node
front_placed g graph p now h c = on p.stops p.legs c
  where
    on : (stops : List Stop) (legs : List Path) → Chained g p.place stops legs → IsNode g (front_on p.place p.departure now legs).node
    on [] [] c = h
    on [] (leg ∷ legs) c = absurd c
    on (s ∷ stops) [] c = absurd c
    on (s ∷ stops) (leg ∷ legs) c = turn (nat_lt now p.departure)
      where
        turn : (b : Bool) → IsNode g (cond b (let f : Front = record { node = p.place; time = p.departure; offset = 0 } in f) (first_reached p.place p.departure now leg.nodes leg.offsets)).node
        turn true = h
        turn false = reached_placed g p.place p.departure now leg.nodes leg.offsets h (λ k n e. each_is_node g graph leg.nodes (length_of leg) k n c.0.measured.whole e)

-- and where a new list starts
pub new_placed : (g : Roads) → IsGraph g → (p : Plan) (now : ℕ) (at : Insertion) → IsNode g p.place → Chained g p.place p.stops p.legs → IsNode g (start_of at (front_of p now).node p.place)
new_placed g graph p now at h c = on (at.i == 0)
  where
    on : (b : Bool) → IsNode g (cond b (front_of p now).node p.place)
    on true = front_placed g graph p now h c
    on false = h

-- a schedule at a later clock
pub advanced_good : (g : Roads) → IsGraph g → (rates : Rates) (clock now : ℕ) (p : Plan) → IsGood g rates clock p → IsGood g rates now (advanced_in rates p now)
advanced_good g graph rates clock now p h = record {
  sound = rest_sound g rates p (reached_by rates p now) (reached-le rates.stop (course_of p) now (length p.stops)) h.sound;
  placed = subst (IsNode g) (sym (node_from_is p.place p.place p.stops (reached_by rates p now))) (stop_placed g graph p.place p.place p.stops p.legs h.placed h.placed h.sound.chained (reached_by rates p now));
  ahead = rest_ahead rates p now;
}

-- a schedule without the stops of riders who cancelled
pub removed_good : RemovalsKeepPromises → (g : Roads) → IsGraph g → (rates : Rates) (clock : ℕ) (p : Plan) (number : RequestNo) (a b : ℕ) (walks : List Path) → IsGood g rates clock p
    → AreStopsOf number p.stops a b → AreLeastWalks g (joint_ends p.stops (front_of p clock) a b) walks → IsGood g rates clock (removed_in p (front_of p clock) a b walks)
removed_good removals g graph rates clock p number a b walks h stops joins =
    good_from g rates clock (removed_in p (front_of p clock) a b walks) (removals g rates clock p number a b walks graph (good_plan g rates clock p h) stops joins).0
