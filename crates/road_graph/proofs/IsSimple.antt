use Rattle.std.proofs.Common.{◌≡◌, ℕ, ◌+◌, ◌-◌, ◌*◌, ◌^◌, ◌<◌, ◌≤◌, ◌⊎◌, inl, inr, ⊎_elim, ◌==◌, ◌||◌, nat_eq, eqb, ne_eqb, Bool, true, false, List, [], ◌∷◌, length, Some, sym, arith, refl, subst}
use Rattle.std.specs.List.{IsDistinct, AllByRecursion, list_any}
use Rattle.std.proofs.lemmas.Bool.{eqb-true}
use Rattle.std.proofs.lemmas.List.{length-map}
use Rattle.std.proofs.lemmas.Map.Steps.{length-le_from_distinct_below}
use Rattle.road_graph.specs.declared.road.NodeNo.{NodeNo}
use Rattle.road_graph.specs.Roads.{Roads, least_weight}
use Rattle.road_graph.specs.Graphs.{IsGraph}
use Rattle.road_graph.specs.Walks.{walk_length, last_of, numbers, IsWalk, IsDist, IsSimple}
use Rattle.road_graph.specs.Limits.{far}
use Rattle.road_graph.proofs.IsWalk.{same_node, step_of, step_to, weight_is_light, alone_is_node, first_is_node}

-- a walk no longer than x, with no node twice
pub record Short (g : Roads) (u t : NodeNo) (x : ℕ) : Type 0 where
  pub more : List NodeNo
  pub length : ℕ
  pub last : last_of u more ≡ t
  pub walk : walk_length g (u ∷ more) ≡ Some length
  pub less : length ≤ x
  pub distinct : IsSimple (u ∷ more)

longer : {g : Roads} {u t : NodeNo} {x y : ℕ} → Short g u t x → x ≤ y → Short g u t y
longer s h = record { more = s.more; length = s.length; last = s.last; walk = s.walk; less = (let l = s.less in omega arith); distinct = s.distinct }

abbrev Differs : NodeNo → List NodeNo → Type 0
Differs u ns = AllByRecursion (λ k. nat_eq u.0 k ≡ false) (numbers ns)

-- either the walk goes through u, and from there on it is one from u, or it doesn't
occurs : (g : Roads) (t u v : NodeNo) (vs : List NodeNo) (y : ℕ) → last_of v vs ≡ t → walk_length g (v ∷ vs) ≡ Some y → IsSimple (v ∷ vs)
    → Short g u t y ⊎ Differs u (v ∷ vs)
unfolding IsDistinct
occurs g t u v [] y l e d = alone (u.0 == v.0) refl
  where
    alone : (b : Bool) → (u.0 == v.0) ≡ b → Short g u t y ⊎ Differs u (v ∷ [])
    alone true h = let is : v ≡ u = same_node (sym (eqb-true _ _ h)) in
        inl (subst (λ (n : NodeNo). Short g n t y) is (record { more = []; length = y; last = l; walk = e; less = omega arith; distinct = (tt, tt) }))
    alone false h = inr (h, tt)
occurs g t u v (w ∷ ws) y l e d = let s = step_of g v w ws y e in further (u.0 == v.0) refl s.rest (let q = s.sum in omega arith) (occurs g t u w ws s.rest l s.walk d.1)
  where
    further : (b : Bool) → (u.0 == v.0) ≡ b → (y' : ℕ) → y' ≤ y → Short g u t y' ⊎ Differs u (w ∷ ws) → Short g u t y ⊎ Differs u (v ∷ w ∷ ws)
    further true h y' le rest = let is : v ≡ u = same_node (sym (eqb-true _ _ h)) in
        inl (subst (λ (n : NodeNo). Short g n t y) is (record { more = w ∷ ws; length = y; last = l; walk = e; less = omega arith; distinct = d }))
    further false h y' le (inl s) = inl (longer s le)
    further false h y' le (inr x) = inr (h, x)

-- every walk can be shortened to one with no node twice
pub shorten : (g : Roads) (t u : NodeNo) (more : List NodeNo) (x : ℕ) → last_of u more ≡ t → walk_length g (u ∷ more) ≡ Some x → Short g u t x
unfolding IsDistinct
shorten g t u [] x l e = record { more = []; length = x; last = l; walk = e; less = omega arith; distinct = (tt, tt) }
shorten g t u (v ∷ vs) x l e =
    let p = step_of g u v vs x e in
    let s = shorten g t v vs p.rest l p.walk in
    join p.weight p.rest p.road p.sum s (occurs g t u v s.more s.length s.last s.walk s.distinct)
  where
    join : (w y : ℕ) → least_weight g.roads u v ≡ Some w → w + y ≡ x → (s : Short g v t y) → Short g u t s.length ⊎ Differs u (v ∷ s.more) → Short g u t x
    join w y ew sum s (inl short) = longer short (let a = s.less in omega arith)
    join w y ew sum s (inr d) = record {
      more = v ∷ s.more;
      length = w + s.length;
      last = s.last;
      walk = step_to g u v s.more w s.length ew s.walk;
      less = (let a = s.less in omega arith);
      distinct = (d, s.distinct);
    }

-- the nodes of a walk are nodes of the graph
or_cases : (a b : Bool) → (a || b) ≡ true → (a ≡ true) ⊎ (b ≡ true)
or_cases true b h = inl refl
or_cases false b h = inr h

head_below : (g : Roads) → IsGraph g → (u : NodeNo) (more : List NodeNo) (x : ℕ) → walk_length g (u ∷ more) ≡ Some x → (q : ℕ) → eqb q u.0 ≡ true → q < g.nodes + 1
head_below g lawful u more x e q is = let same = eqb-true q u.0 is in let l = (first_is_node g lawful u more x e).1 in omega arith

walk_below : (g : Roads) → IsGraph g → (u : NodeNo) (more : List NodeNo) (x : ℕ) → walk_length g (u ∷ more) ≡ Some x → (q : ℕ) → list_any (eqb q) (numbers (u ∷ more)) ≡ true → q < g.nodes + 1
walk_below g lawful u [] x e q h = head_below g lawful u [] x e q (elim (or_cases (eqb q u.0) false h) as (λ _. eqb q u.0 ≡ true) [ inl is ↦ is | inr never ↦ cc ])
walk_below g lawful u (v ∷ vs) x e q h =
    let s = step_of g u v vs x e in
    ⊎_elim (head_below g lawful u (v ∷ vs) x e q) (walk_below g lawful v vs s.rest s.walk q) (or_cases (eqb q u.0) (list_any (eqb q) (numbers (v ∷ vs))) h)

-- a walk is as long as its roads at most
walk_light : (g : Roads) → IsGraph g → (u : NodeNo) (more : List NodeNo) (x : ℕ) → walk_length g (u ∷ more) ≡ Some x → x ≤ length more * (2 ^ 32 - 1)
walk_light g lawful u [] x e = let z = (alone_is_node g u x e).1 in omega arith
walk_light g lawful u (v ∷ vs) x e =
    let s = step_of g u v vs x e in
    let w = weight_is_light g lawful u v s.weight s.road in
    let r = walk_light g lawful v vs s.rest s.walk in
    let sum = s.sum in
    omega arith

-- no number of a walk's nodes is 0
no_zero : (g : Roads) → IsGraph g → (u : NodeNo) (more : List NodeNo) (x : ℕ) → walk_length g (u ∷ more) ≡ Some x → AllByRecursion (λ k. nat_eq 0 k ≡ false) (numbers (u ∷ more))
no_zero g lawful u [] x e = let some = (first_is_node g lawful u [] x e).0 in (ne_eqb 0 u.0 (λ z. absurd (omega arith)), tt)
no_zero g lawful u (v ∷ vs) x e =
    let some = (first_is_node g lawful u (v ∷ vs) x e).0 in
    let s = step_of g u v vs x e in
    (ne_eqb 0 u.0 (λ z. absurd (omega arith)), no_zero g lawful v vs s.rest s.walk)

-- a walk with no node twice has no more nodes than the graph, and is shorter than the limit
pub simple_few : (g : Roads) → IsGraph g → (u : NodeNo) (more : List NodeNo) (x : ℕ) → walk_length g (u ∷ more) ≡ Some x → IsSimple (u ∷ more) → length more < g.nodes
unfolding IsDistinct
simple_few g lawful u more x e d =
    let few = length-le_from_distinct_below (0 ∷ numbers (u ∷ more)) (g.nodes + 1) (no_zero g lawful u more x e, d) (λ q h. ⊎_elim (λ z. let is = eqb-true q 0 z in omega arith) (walk_below g lawful u more x e q) (or_cases (eqb q 0) (list_any (eqb q) (numbers (u ∷ more))) h)) in
    let same = length-map (u ∷ more) (λ (n : NodeNo). n.0) in
    omega arith

pub simple_short : (g : Roads) → IsGraph g → (u : NodeNo) (more : List NodeNo) (x : ℕ) → walk_length g (u ∷ more) ≡ Some x → IsSimple (u ∷ more) → x < far
simple_short g lawful u more x e d =
    let few = simple_few g lawful u more x e d in
    let light = walk_light g lawful u more x e in
    let nodes = lawful.few_nodes in
    omega arith

-- a distance is shorter than 2^53
pub dist_short : (g : Roads) → IsGraph g → (u v : NodeNo) (x : ℕ) → IsDist g u v x → x < far
dist_short g lawful u v x d = of_walk d.reached.0 d.reached.1
  where
    of_walk : (nodes : List NodeNo) → IsWalk g u v nodes x → x < far
    of_walk [] w = absurd w.0
    of_walk (c ∷ more) w =
        let s = shorten g v c more x w.0.1 w.1 in
        let b = simple_short g lawful c s.more s.length s.walk s.distinct in
        let l = d.least (c ∷ s.more) s.length ((w.0.0, s.last), s.walk) in
        omega arith
