use Rattle.std.proofs.Common.{◌≡◌, ◌≢◌, ℕ, ◌+◌, ◌<◌, ◌≤◌, ◌^◌, ◌⊎◌, inl, inr, List, [], ◌∷◌, ◌++◌, length, slice_get, Option, Some, None, sym, ap, ◌∙◌, arith, refl, subst}
use Rattle.std.specs.Prelude.{Contains, option_to_list}
use Rattle.std.proofs.lemmas.List.Elements.{Contains-append_left, Contains-append_cases, Contains-push, Contains-push_cases}
use Rattle.std.proofs.lemmas.Bool.{cases_lt}
use Rattle.std.proofs.lemmas.Option.{slice_get_within}
use Rattle.road_graph.specs.declared.road.NodeNo.{NodeNo}
use Rattle.road_graph.specs.Roads.{Roads, IsNode, ins, least_weight}
use Rattle.road_graph.specs.Graphs.{IsGraph}
use Rattle.road_graph.specs.Walks.{IsWalk}
use Rattle.road_graph.proofs.WalkLaws.{same_node, step_of, ends_are_nodes, weight_is_light, in_ins}
use Rattle.upward_search.specs.declared.arc.RankArc.{RankArc}
use Rattle.upward_search.specs.Fitting.{rank_of, IsMadeOver}
use Rattle.contraction.specs.Removing.{HasChain, IsContracting}
use Rattle.contraction.specs.Starting.{road_arc, IsRoadArc, IsFirst, AreInto, AreFirst}
use Rattle.contraction.proofs.HasChain.{same_or_not, has_none, has_one, has_append}
use Rattle.contraction.proofs.AreBridges.{none_contained}

pub into_none : (g : Roads) (v : NodeNo) (old : List RankArc) → AreInto g v 0 old old
into_none g v old = record { kept = λ a h. h; made = λ a h. inl h; each = λ j u w lt at ne road. absurd (omega arith) }

pair_parts : (p q : NodeNo × ℕ) → Some p ≡ Some q → (p.0 ≡ q.0) × (p.1 ≡ q.1)
pair_parts p q h = let e : p ≡ q = cc in (ap (λ (t : NodeNo × ℕ). t.0) e, ap (λ (t : NodeNo × ℕ). t.1) e)

-- one road more
pub into_more : (g : Roads) (v : NodeNo) (many : ℕ) (old mid new : List RankArc) (u : NodeNo) (w : ℕ) (o : Option RankArc) → AreInto g v many old mid → slice_get (ins g v) many ≡ Some (u, w) → IsFirst g u v w o
    → new ≡ mid ++ option_to_list o → AreInto g v (many + 1) old new
into_more g v many old mid new u w o f at first e = subst (λ (ns : List RankArc). AreInto g v (many + 1) old ns) (sym e) (record { kept = λ a h. Contains-append_left mid (option_to_list o) a (f.kept a h); made = made; each = each })
  where
    only : (n a : RankArc) → Contains [] a ⊎ (n ≡ a) → n ≡ a
    only n a (inl q) = absurd (none_contained a q)
    only n a (inr q) = q

    new_one : (p : Option RankArc) → IsFirst g u v w p → (a : RankArc) → Contains (option_to_list p) a → IsRoadArc g a
    new_one None c a h = absurd (none_contained a h)
    new_one (Some n) c a h = subst (IsRoadArc g) (sym c.0 ∙ only n a (Contains-push_cases [] n a h)) (record { weight = c.2; apart = c.1; middle = refl })

    made : (a : RankArc) → Contains (mid ++ option_to_list o) a → Contains old a ⊎ IsRoadArc g a
    made a h = by (Contains-append_cases mid (option_to_list o) a h)
      where
        by : Contains mid a ⊎ Contains (option_to_list o) a → Contains old a ⊎ IsRoadArc g a
        by (inl q) = f.made a q
        by (inr q) = inr (new_one o first a q)

    last : (p : Option RankArc) → IsFirst g u v w p → u ≢ v → least_weight g.roads u v ≡ Some w → Contains (mid ++ option_to_list p) (road_arc u v w)
    last None (inl same) ne road = absurd (ne same)
    last None (inr other) ne road = absurd (other road)
    last (Some n) c ne road = subst (λ (a : RankArc). Contains (mid ++ n ∷ []) a) c.0 (Contains-push mid n)

    each : (j : ℕ) (u' : NodeNo) (w' : ℕ) → j < many + 1 → slice_get (ins g v) j ≡ Some (u', w') → u' ≢ v → least_weight g.roads u' v ≡ Some w' → Contains (mid ++ option_to_list o) (road_arc u' v w')
    each j u' w' lt there ne road = by (cases_lt j many)
      where
        by : (j < many) ⊎ (many ≤ j) → Contains (mid ++ option_to_list o) (road_arc u' v w')
        by (inl less) = Contains-append_left mid (option_to_list o) (road_arc u' v w') (f.each j u' w' less there ne road)
        by (inr ge) =
            let same : j ≡ many = omega arith in
            let pair = pair_parts (u, w) (u', w') (sym at ∙ ap (slice_get (ins g v)) (sym same) ∙ there) in
            let us : u ≡ u' = pair.0 in
            let ws : w ≡ w' = pair.1 in
            subst (λ (x : ℕ). Contains (mid ++ option_to_list o) (road_arc u' v x)) ws
            (subst (λ (n : NodeNo). Contains (mid ++ option_to_list o) (road_arc n v w)) us (last o first (subst (λ (n : NodeNo). n ≢ v) (sym us) ne) (ap (λ (n : NodeNo). least_weight g.roads n v) us ∙ road ∙ ap Some (sym ws))))

pub first_none : (g : Roads) → IsGraph g → AreFirst g 0 []
first_none g lawful = record { made = λ a h. absurd (none_contained a h); each = λ u v w le ne road. absurd (let n = (ends_are_nodes g lawful u v w road).1.0 in omega arith) }

-- the roads into one node more
pub first_more : (g : Roads) (i : ℕ) (v : NodeNo) (mid new : List RankArc) → v.0 ≡ i + 1 → AreFirst g i mid → AreInto g v (length (ins g v)) mid new → AreFirst g (i + 1) new
first_more g i v mid new is f h = record { made = λ a c. made a (h.made a c); each = each }
  where
    made : (a : RankArc) → Contains mid a ⊎ IsRoadArc g a → IsRoadArc g a
    made a (inl q) = f.made a q
    made a (inr q) = q

    each : (u n : NodeNo) (w : ℕ) → n.0 ≤ i + 1 → u ≢ n → least_weight g.roads u n ≡ Some w → Contains new (road_arc u n w)
    each u n w le ne road = by (cases_lt n.0 (i + 1))
      where
        by : (n.0 < i + 1) ⊎ (i + 1 ≤ n.0) → Contains new (road_arc u n w)
        by (inl lt) = h.kept (road_arc u n w) (f.each u n w (omega arith) ne road)
        by (inr ge) =
            let same : n ≡ v = same_node (omega arith) in
            let j = in_ins g u n w road in
            let there = subst (λ (m : NodeNo). slice_get (ins g m) j.0 ≡ Some (u, w)) same j.1 in
            let lt = slice_get_within (ins g v) j.0 (u, w) there in
            subst (λ (m : NodeNo). Contains new (road_arc u m w)) (sym same) (h.each j.0 u w lt there (subst (λ (m : NodeNo). u ≢ m) same ne) (subst (λ (m : NodeNo). least_weight g.roads u m ≡ Some w) same road))

module _ (g : Roads) (lawful : IsGraph g) (arcs : List RankArc) (f : AreFirst g g.nodes arcs) where
  -- each walk has arcs that are no longer
  walk_chain : (nodes : List NodeNo) (u v : NodeNo) (x : ℕ) → IsWalk g u v nodes x → HasChain (Contains arcs) u v x
  walk_chain [] u v x w = absurd w.0
  walk_chain (a ∷ []) u v x w = has_none u v x (sym w.0.0 ∙ w.0.1)
  walk_chain (a ∷ b ∷ more) u v x w =
      let s = step_of g a b more x w.1 in
      let rest = walk_chain (b ∷ more) b v s.rest ((refl, w.0.1), s.walk) in
      subst (λ (n : NodeNo). HasChain (Contains arcs) n v x) w.0.0 (at s.weight s.rest s.road s.sum rest (same_or_not a b))
    where
      at : (weight rest : ℕ) → least_weight g.roads a b ≡ Some weight → weight + rest ≡ x → HasChain (Contains arcs) b v rest → (a ≡ b) ⊎ (a ≢ b) → HasChain (Contains arcs) a v x
      at weight rest road sum c (inl e) = subst (λ (n : NodeNo). HasChain (Contains arcs) n v x) (sym e) (record { chain = c.chain; long = c.long; is = c.is; less = (let l = c.less in omega arith) })
      at weight rest road sum c (inr ne) =
          let n = (ends_are_nodes g lawful a b weight road).1 in
          let one = has_one {Kind = Contains arcs} (road_arc a b weight) a b weight (f.each a b weight n.1 ne road) refl refl (omega arith) in
          has_append a b v weight rest x one c (omega arith)

  -- before any node is removed
  pub begun : (far : ℕ) (ranks : List ℕ) → 2 ^ 32 ≤ far → length ranks ≡ g.nodes + 1 → ((n : NodeNo) → IsNode g n → rank_of ranks n ≡ g.nodes) → IsContracting g far ranks 0 [] (Contains arcs) []
  begun far ranks le many all = record {
    many = many;
    few = omega arith;
    ranked = λ n h. inr (all n h);
    distinct = λ u v hu hv lt e. absurd (omega arith);
    arcs = record {
      climbs = λ a h. absurd (none_contained a h);
      falls = λ a h. absurd (none_contained a h);
      climbing_made = λ a h. absurd (none_contained a h);
      falling_made = λ a h. absurd (none_contained a h);
    };
    climbing_done = λ a h. absurd (none_contained a h);
    falling_done = λ a h. absurd (none_contained a h);
    left_between = λ a h. (let r = f.made a h in let n = ends_are_nodes g lawful a.from a.to a.length r.weight in record { from = n.0; to = n.1; from_left = all a.from n.0; to_left = all a.to n.1; apart = r.apart });
    left_made = λ a h. (let r = f.made a h in subst (IsMadeOver g ranks [] [] a) (sym r.middle) r.weight);
    light = λ a h. (let r = f.made a h in let l = weight_is_light g lawful a.from a.to a.length r.weight in omega arith);
    spans = λ u v nodes x w lt. (let c = walk_chain nodes u v x w in record { top = u; turn = v; up = 0; over = x; down = 0; climb = has_none u u 0 refl; pass = c; fall = has_none v v 0 refl; sum = omega arith });
  }
