use Rattle.std.proofs.Common.{◌≡◌, ℕ, zero, suc, ◌+◌, ◌<◌, ◌^◌, Bool, true, false, cond, List, [], ◌∷◌, ◌++◌, slice_get, Option, Some, None, sym, ap, ◌∙◌, arith, refl, subst}
use Rattle.road_graph.specs.declared.road.NodeNo.{NodeNo}
use Rattle.road_graph.specs.Roads.{Roads, IsNode, is_node, least_weight}
use Rattle.road_graph.specs.Graphs.{IsGraph}
use Rattle.road_graph.specs.Walks.{walk_length, both, IsWalk}
use Rattle.road_graph.specs.WalkLaws.{HasFirstStep}
use Rattle.road_graph.proofs.WalkLength.{joint, is_node-true}
use Rattle.road_graph.proofs.RoadEnds.{IsNode-true}

-- nodes of one number are one node
pub same_node : {u v : NodeNo} → u.0 ≡ v.0 → u ≡ v
same_node e = ap (λ (k : ℕ). let n : NodeNo = record { 0 = k } in n) e

-- both parts of a sum that is there
pub parts : (a b : Option ℕ) (x : ℕ) → both a b ≡ Some x → (w : ℕ) × (y : ℕ) × (a ≡ Some w) × (b ≡ Some y) × (w + y ≡ x)
parts None b x h = cc
parts (Some w) None x h = cc
parts (Some w) (Some y) x h = (w, y, refl, refl, cc)

pub step_of : (g : Roads) (u v : NodeNo) (more : List NodeNo) (x : ℕ) → walk_length g (u ∷ v ∷ more) ≡ Some x → HasFirstStep g u v more x
step_of g u v more x h =
    let p = parts (least_weight g.roads u v) (walk_length g (v ∷ more)) x h in
    record { weight = p.0; rest = p.1; road = p.2; walk = p.3; sum = p.4 }

pub step_to : (g : Roads) (u v : NodeNo) (more : List NodeNo) (w y : ℕ) → least_weight g.roads u v ≡ Some w → walk_length g (v ∷ more) ≡ Some y → walk_length g (u ∷ v ∷ more) ≡ Some (w + y)
step_to g u v more w y road walk = ap (λ o. both o (walk_length g (v ∷ more))) road ∙ ap (both (Some w)) walk

-- a node passes the test exactly where it is one
pub node_from_test : (g : Roads) (n : NodeNo) → is_node g.nodes n ≡ true → IsNode g n
node_from_test g n h = IsNode-true g n h

pub test_from_node : (g : Roads) (n : NodeNo) → IsNode g n → is_node g.nodes n ≡ true
test_from_node g n h = is_node-true g.nodes n h.0 h.1

-- both ends of a road are nodes, and its weight fits 32 bits
pub ends_are_nodes : (g : Roads) → IsGraph g → (u v : NodeNo) (w : ℕ) → least_weight g.roads u v ≡ Some w → IsNode g u × IsNode g v
ends_are_nodes g lawful u v w h = let j = joint g u v w lawful h in (j.from, j.to)

pub weight_is_light : (g : Roads) → IsGraph g → (u v : NodeNo) (w : ℕ) → least_weight g.roads u v ≡ Some w → w < 2 ^ 32
weight_is_light g lawful u v w h = let l = (joint g u v w lawful h).light in omega arith

-- a node alone, and what a walk of one node is
pub alone_is_walk : (g : Roads) (u : NodeNo) → IsNode g u → walk_length g (u ∷ []) ≡ Some 0
alone_is_walk g u n = ap (λ t. cond t (Some 0) None) (test_from_node g u n)

pub alone_is_node : (g : Roads) (u : NodeNo) (x : ℕ) → walk_length g (u ∷ []) ≡ Some x → IsNode g u × (x ≡ 0)
alone_is_node g u x e = at (is_node g.nodes u) refl e
  where
    at : (b : Bool) → is_node g.nodes u ≡ b → cond b (Some 0) None ≡ Some x → IsNode g u × (x ≡ 0)
    at true h q = (node_from_test g u h, cc)
    at false h q = cc

-- the first of a walk is a node, and so is each
pub first_is_node : (g : Roads) → IsGraph g → (u : NodeNo) (more : List NodeNo) (x : ℕ) → walk_length g (u ∷ more) ≡ Some x → IsNode g u
first_is_node g lawful u [] x e = (alone_is_node g u x e).0
first_is_node g lawful u (v ∷ vs) x e = let s = step_of g u v vs x e in (ends_are_nodes g lawful u v s.weight s.road).0

pub each_is_node : (g : Roads) → IsGraph g → (nodes : List NodeNo) (x k : ℕ) (n : NodeNo) → walk_length g nodes ≡ Some x → slice_get nodes k ≡ Some n → IsNode g n
each_is_node g lawful [] x k n e at = cc
each_is_node g lawful (u ∷ more) x zero n e at = let is : u ≡ n = cc in subst (IsNode g) is (first_is_node g lawful u more x e)
each_is_node g lawful (u ∷ []) x (suc k) n e at = cc
each_is_node g lawful (u ∷ v ∷ more) x (suc k) n e at = let s = step_of g u v more x e in each_is_node g lawful (v ∷ more) s.rest k n s.walk at

-- a walk from a node that is joined to the first of one
pub walk_over : (g : Roads) (u v t : NodeNo) (w d : ℕ) → least_weight g.roads u v ≡ Some w → (nodes : List NodeNo) → IsWalk g v t nodes d → IsWalk g u t (u ∷ nodes) (w + d)
walk_over g u v t w d road [] walk = absurd walk.0
walk_over g u v t w d road (c ∷ more) walk =
    ((refl, walk.0.1), step_to g u c more w d (ap (least_weight g.roads u) walk.0.0 ∙ road) walk.1)

-- one walk after another
pub walk_after : (g : Roads) (nodes : List NodeNo) (u v w : NodeNo) (x : ℕ) → IsWalk g u v nodes x → (next : List NodeNo) (y : ℕ) → IsWalk g v w next y → (ns : List NodeNo) × IsWalk g u w ns (x + y)
walk_after g [] u v w x a next y b = absurd a.0
walk_after g (c ∷ []) u v w x a next y b =
    let z = (alone_is_node g c x a.1).1 in
    let is : v ≡ u = sym a.0.1 ∙ a.0.0 in
    let sum : y ≡ x + y = omega arith in
    (next, subst (λ (n : NodeNo). IsWalk g n w next (x + y)) is (subst (IsWalk g v w next) sum b))
walk_after g (c ∷ d ∷ more) u v w x a next y b =
    let s = step_of g c d more x a.1 in
    let r = walk_after g (d ∷ more) d v w s.rest ((refl, a.0.1), s.walk) next y b in
    let q = walk_over g c d w s.weight (s.rest + y) s.road r.0 r.1 in
    let sum : s.weight + (s.rest + y) ≡ x + y = (let t = s.sum in omega arith) in
    (c ∷ r.0, subst (λ (n : NodeNo). IsWalk g n w (c ∷ r.0) (x + y)) a.0.0 (q.0, q.1 ∙ ap Some sum))

-- a road at the end of a walk
pub walk_push : (g : Roads) (nodes : List NodeNo) (a b c : NodeNo) (x w : ℕ) → IsWalk g a b nodes x → least_weight g.roads b c ≡ Some w → IsNode g c → IsWalk g a c (nodes ++ c ∷ []) (x + w)
walk_push g [] a b c x w h road n = absurd h.0
walk_push g (u ∷ []) a b c x w h road n =
    let is : u ≡ b = h.0.1 in
    let zero_long = (alone_is_node g u x h.1).1 in
    let whole = step_to g u c [] w 0 (ap (λ (m : NodeNo). least_weight g.roads m c) is ∙ road) (alone_is_walk g c n) in
    ((h.0.0, refl), whole ∙ ap Some (omega arith))
walk_push g (u ∷ v ∷ more) a b c x w h road n =
    let s = step_of g u v more x h.1 in
    let rest = walk_push g (v ∷ more) v b c s.rest w ((refl, h.0.1), s.walk) road n in
    let sum = s.sum in
    ((h.0.0, rest.0.1), step_to g u v (more ++ c ∷ []) s.weight (s.rest + w) s.road rest.1 ∙ ap Some (omega arith))
