-- A small graph and a hierarchy that fits it.
use Rattle.std.proofs.Common.{◌≡◌, ℕ, zero, suc, ◌+◌, ◌<◌, ◌≤◌, ◌⊎◌, inl, inr, List, [], ◌∷◌, Some, None, sym, ap, ◌∙◌, arith, refl, subst}
use Rattle.std.specs.Prelude.{slice_get, Contains}
use Rattle.std.proofs.lemmas.Bool.{cases_lt}
use Rattle.road_graph.specs.declared.road.NodeNo.{NodeNo}
use Rattle.road_graph.specs.declared.road.Road.{Road}
use Rattle.road_graph.specs.Roads.{Roads, IsNode, least_weight, node}
use Rattle.road_graph.specs.Walks.{walk_length, last_of, IsWalk}
use Rattle.road_graph.proofs.WalkLaws.{same_node, has_road, step_of, alone_is_node}
use Rattle.upward_search.specs.declared.arc.RankArc.{RankArc}
use Rattle.upward_search.specs.Chains.{total, IsChain, IsLeastChain, arc}
use Rattle.upward_search.specs.Fitting.{rank_of, IsFitting, Climbs, IsMade, Meets}
use Rattle.upward_search.proofs.RankingOf.{contains_in}

abbrev only_road : Road
only_road = record { from = node 1; to = node 2; weight = 7 }

abbrev one_way : Roads
one_way = record { nodes = 2; roads = only_road ∷ [] }

abbrev one_arc : List RankArc
one_arc = arc 1 2 7 None ∷ []

two_nodes : (u : NodeNo) → u ≡ node 1 → u ≡ node 2 → ⊥
two_nodes u a b = let x : u.0 ≡ 1 = ap (λ (n : NodeNo). n.0) a in let y : u.0 ≡ 2 = ap (λ (n : NodeNo). n.0) b in omega arith

the_road : (k : ℕ) (road : Road) → slice_get (only_road ∷ []) k ≡ Some road → road ≡ only_road
the_road zero road e = let is : only_road ≡ road = cc in sym is
the_road (suc k) road e = cc

the_arc : (a : RankArc) → Contains one_arc a → arc 1 2 7 None ≡ a
the_arc a c = let i = contains_in one_arc a c in at i.0 i.1
  where
    at : (k : ℕ) → slice_get one_arc k ≡ Some a → arc 1 2 7 None ≡ a
    at zero e = cc
    at (suc k) e = cc

joined : (u w : NodeNo) (x : ℕ) → least_weight one_way.roads u w ≡ Some x → (u ≡ node 1) × (w ≡ node 2) × (x ≡ 7)
joined u w x h =
    let r = has_road one_way.roads u w x h in
    let is = the_road r.k r.road r.stands in
    (same_node (sym r.from ∙ ap (λ (o : Road). o.from.0) is), same_node (sym r.to ∙ ap (λ (o : Road). o.to.0) is), sym r.weight ∙ ap (λ (o : Road). o.weight) is)

walks : (u : NodeNo) (more : List NodeNo) (v : NodeNo) (x : ℕ) → last_of u more ≡ v → walk_length one_way (u ∷ more) ≡ Some x → ((u ≡ v) × (x ≡ 0)) ⊎ ((u ≡ node 1) × (v ≡ node 2) × (x ≡ 7))
walks u [] v x l e = inl (l, (alone_is_node one_way u x e).1)
walks u (w ∷ more) v x l e =
    let s = step_of one_way u w more x e in
    let j = joined u w s.weight s.road in
    at j.0 j.1 j.2 s.rest s.sum (walks w more v s.rest l s.walk)
  where
    at : {weight : ℕ} → u ≡ node 1 → w ≡ node 2 → weight ≡ 7 → (rest : ℕ) → weight + rest ≡ x → ((w ≡ v) × (rest ≡ 0)) ⊎ ((w ≡ node 1) × (v ≡ node 2) × (rest ≡ 7)) → ((u ≡ v) × (x ≡ 0)) ⊎ ((u ≡ node 1) × (v ≡ node 2) × (x ≡ 7))
    at a b c rest sum (inl (same, none)) = inr (a, sym same ∙ b, omega arith)
    at a b c rest sum (inr (other, two, seven)) = absurd (two_nodes w other b)

stays : (arcs : List RankArc) (u v : NodeNo) → u ≡ v → IsLeastChain arcs u v 0
stays arcs u v e = record { chain = []; reached = record { leads = e; all = tt; sum = refl }; least = λ other y c. omega arith }

climbs : IsLeastChain one_arc (node 1) (node 2) 7
climbs = record { chain = one_arc; reached = record { leads = (refl, refl); all = ((0, omega arith, refl), tt); sum = refl }; least = λ other y c. low other y c }
  where
    low : (other : List RankArc) (y : ℕ) → IsChain (Contains one_arc) (node 1) (node 2) other y → 7 ≤ y
    low [] y c = absurd (two_nodes (node 1) refl c.leads)
    low (a ∷ more) y c =
        let long : 7 ≡ a.length = ap (λ (o : RankArc). o.length) (the_arc a c.all.0) in
        let sum : a.length + total more ≡ y = c.sum in
        omega arith

apart : (u v : NodeNo) → IsNode one_way u → IsNode one_way v → rank_of (0 ∷ 0 ∷ 1 ∷ []) u ≡ rank_of (0 ∷ 0 ∷ 1 ∷ []) v → u ≡ v
apart u v nu nv same = same_node (at (cases_lt u.0 2) (cases_lt v.0 2))
  where
    at : (u.0 < 2) ⊎ (2 ≤ u.0) → (v.0 < 2) ⊎ (2 ≤ v.0) → u.0 ≡ v.0
    at (inl a) (inl b) = let x = nu.0 in let y = nv.0 in omega arith
    at (inr a) (inr b) = let x = nu.1 in let y = nv.1 in omega arith
    at (inl a) (inr b) =
        let x = nu.0 in let y = nv.1 in
        let p : u.0 ≡ 1 = omega arith in let q : v.0 ≡ 2 = omega arith in
        let e = ap (λ (k : ℕ). rank_of (0 ∷ 0 ∷ 1 ∷ []) (node k)) p in
        let f = ap (λ (k : ℕ). rank_of (0 ∷ 0 ∷ 1 ∷ []) (node k)) q in
        absurd (omega arith)
    at (inr a) (inl b) =
        let x = nu.1 in let y = nv.0 in
        let p : u.0 ≡ 2 = omega arith in let q : v.0 ≡ 1 = omega arith in
        let e = ap (λ (k : ℕ). rank_of (0 ∷ 0 ∷ 1 ∷ []) (node k)) p in
        let f = ap (λ (k : ℕ). rank_of (0 ∷ 0 ∷ 1 ∷ []) (node k)) q in
        absurd (omega arith)

pub fits_one_way : IsFitting one_way (0 ∷ 0 ∷ 1 ∷ []) one_arc []
fits_one_way = record {
  ranked = record { many = refl; distinct = apart };
  arcs = record {
    climbs = λ a c. subst (Climbs one_way (0 ∷ 0 ∷ 1 ∷ [])) (the_arc a c) (record { from = (omega arith, omega arith); to = (omega arith, omega arith); higher = omega arith });
    falls = λ a c. absurd (let lt = c.1 in omega arith);
    climbing_made = λ a c. subst (IsMade one_way (0 ∷ 0 ∷ 1 ∷ []) one_arc []) (the_arc a c) refl;
    falling_made = λ a c. absurd (let lt = c.1 in omega arith);
  };
  meets = λ u v x d. meets u v x d.reached.0 d.reached.1;
}
  where
    meets : (u v : NodeNo) (x : ℕ) (nodes : List NodeNo) → IsWalk one_way u v nodes x → Meets one_arc [] u v x
    meets u v x [] w = absurd w.0
    meets u v x (c ∷ more) w = at (walks c more v x w.0.1 w.1)
      where
        at : ((c ≡ v) × (x ≡ 0)) ⊎ ((c ≡ node 1) × (v ≡ node 2) × (x ≡ 7)) → Meets one_arc [] u v x
        at (inl (same, none)) = record { top = u; up = 0; down = 0; climb = stays one_arc u u refl; fall = stays [] u v (sym w.0.0 ∙ same); sum = sym none }
        at (inr (one, two, seven)) = record {
          top = v;
          up = 7;
          down = 0;
          climb = subst (λ (n : NodeNo). IsLeastChain one_arc n v 7) (sym one ∙ w.0.0) (subst (λ (n : NodeNo). IsLeastChain one_arc (node 1) n 7) (sym two) climbs);
          fall = stays [] v v refl;
          sum = sym seven;
        }
