use Rattle.std.proofs.Common.{◌≡◌, ℕ, ◌+◌, ◌<◌, ◌≤◌, ◌&&◌, ◌==◌, ◌⊎◌, inl, inr, Bool, true, false, cond, List, [], ◌∷◌, ◌++◌, Option, Some, None, suc, sym, ap, ◌∙◌, arith, refl, min, add_assoc}
use Rattle.std.proofs.lemmas.Bool.{eqb-true, cases_lt}
use Rattle.std.proofs.lemmas.Bool.Decides.{nat_tests}
use Rattle.std.specs.Prelude.{nat_le}
use Rattle.road_graph.specs.declared.road.NodeNo.{NodeNo}
use Rattle.road_graph.specs.declared.road.Road.{Road}
use Rattle.road_graph.specs.Roads.{Roads, IsNode, is_node, least_weight, weight_on, lighter_of}
use Rattle.road_graph.specs.Graphs.{IsGraph}
use Rattle.road_graph.specs.Walks.{walk_length, both, last_of}
use Rattle.road_graph.specs.WalkLaws.{HasRoad}

pub both-assoc : (a b c : Option ℕ) → both (both a b) c ≡ both a (both b c)
both-assoc None b c = refl
both-assoc (Some x) None c = refl
both-assoc (Some x) (Some y) None = refl
both-assoc (Some x) (Some y) (Some z) = ap Some (add_assoc x y z)

pub both-none : (a : Option ℕ) → both a None ≡ None
both-none None = refl
both-none (Some x) = refl

-- a node that passes the test is a node
pub is_node-true : (n : ℕ) (u : NodeNo) → 1 ≤ u.0 → u.0 ≤ n → is_node n u ≡ true
is_node-true n u h k = both_le (nat_le 1 u.0) (nat_le u.0 n) (grind (arith, nat_tests)) (grind (arith, nat_tests))
  where
    both_le : (a b : Bool) → a ≡ true → b ≡ true → (a && b) ≡ true
    both_le true b ea eb = eb
    both_le false b ea eb = cc

further : (road : Road) (roads : List Road) (u v : NodeNo) (w : ℕ) → HasRoad roads u v w → HasRoad (road ∷ roads) u v w
further road roads u v w h = record { k = suc h.k; road = h.road; stands = h.stands; from = h.from; to = h.to; weight = h.weight }

on_road : (road : Road) (u v : NodeNo) (w : ℕ) → weight_on road u v ≡ Some w → (road.from.0 ≡ u.0) × (road.to.0 ≡ v.0) × (road.weight ≡ w)
on_road road u v w h = both_on (road.from.0 == u.0) (road.to.0 == v.0) refl refl h
  where
    both_on : (a b : Bool) → (road.from.0 == u.0) ≡ a → (road.to.0 == v.0) ≡ b → cond (a && b) (Some road.weight) None ≡ Some w → (road.from.0 ≡ u.0) × (road.to.0 ≡ v.0) × (road.weight ≡ w)
    both_on true true ea eb h = (eqb-true _ _ ea, eqb-true _ _ eb, cc)
    both_on true false ea eb h = cc
    both_on false b ea eb h = cc

either : (a b : Option ℕ) (w : ℕ) → lighter_of a b ≡ Some w → (a ≡ Some w) ⊎ (b ≡ Some w)
either None b w h = inr h
either (Some a) None w h = inl h
either (Some a) (Some b) w h = lesser (cases_lt a b)
  where
    lesser : (a < b) ⊎ (b ≤ a) → (Some a ≡ Some w) ⊎ (Some b ≡ Some w)
    lesser (inl lt) = let m : min a b ≡ a = omega arith in let n : min a b ≡ w = cc in inl (ap Some (sym m ∙ n))
    lesser (inr ge) = let m : min a b ≡ b = omega arith in let n : min a b ≡ w = cc in inr (ap Some (sym m ∙ n))

-- the least weight from u to v is that of a road from u to v
pub has_road : (roads : List Road) (u v : NodeNo) (w : ℕ) → least_weight roads u v ≡ Some w → HasRoad roads u v w
has_road [] u v w e = cc
has_road (road ∷ roads) u v w e = which (either (weight_on road u v) (least_weight roads u v) w e) (λ h. has_road roads u v w h)
  where
    which : (weight_on road u v ≡ Some w) ⊎ (least_weight roads u v ≡ Some w) → (least_weight roads u v ≡ Some w → HasRoad roads u v w) → HasRoad (road ∷ roads) u v w
    which (inl h) rest = let f = on_road road u v w h in record { k = 0; road = road; stands = refl; from = f.0; to = f.1; weight = f.2 }
    which (inr h) rest = further road roads u v w (rest h)

-- the ends of roads that join two nodes are nodes of the graph, and the weight fits 32 bits
pub record IsJoint (g : Roads) (u v : NodeNo) (w : ℕ) : Type 0 where
  pub from : IsNode g u
  pub to : IsNode g v
  pub light : w < 4294967296

pub joint : (g : Roads) (u v : NodeNo) (w : ℕ) → IsGraph g → least_weight g.roads u v ≡ Some w → IsJoint g u v w
joint g u v w h e =
    let r = has_road g.roads u v w e in
    let i = h.each r.k r.road r.stands in
    let f = r.from in let t = r.to in let l = r.weight in
    let f0 = i.from.0 in let f1 = i.from.1 in let t0 = i.to.0 in let t1 = i.to.1 in let lw = i.light in
    record { from = (omega arith, omega arith); to = (omega arith, omega arith); light = omega arith }

-- one node more at the end of a walk
pub walk_more : (g : Roads) → IsGraph g → (u : NodeNo) (more : List NodeNo) (w : NodeNo) → walk_length g (u ∷ (more ++ w ∷ [])) ≡ both (walk_length g (u ∷ more)) (least_weight g.roads (last_of u more) w)
walk_more g h u [] w = at_weight (least_weight g.roads u w) refl
  where
    at_weight : (o : Option ℕ) → least_weight g.roads u w ≡ o → both (least_weight g.roads u w) (cond (is_node g.nodes w) (Some 0) None) ≡ both (cond (is_node g.nodes u) (Some 0) None) (least_weight g.roads u w)
    at_weight None e = rw e (sym (both-none (cond (is_node g.nodes u) (Some 0) None)))
    at_weight (Some x) e =
        let j = joint g u w x h e in
        let a : is_node g.nodes w ≡ true = is_node-true g.nodes w j.to.0 j.to.1 in
        let b : is_node g.nodes u ≡ true = is_node-true g.nodes u j.from.0 j.from.1 in
        let s : x + 0 ≡ 0 + x = omega arith in
        rw (e, a, b) (ap Some s)
walk_more g h u (v ∷ vs) w = ap (both (least_weight g.roads u v)) (walk_more g h v vs w) ∙ sym (both-assoc (least_weight g.roads u v) (walk_length g (v ∷ vs)) (least_weight g.roads (last_of v vs) w))

-- the node that was put at the end is the last
pub last-push : (u : NodeNo) (more : List NodeNo) (w : NodeNo) → last_of u (more ++ w ∷ []) ≡ w
last-push u [] w = refl
last-push u (v ∷ vs) w = last-push v vs w
