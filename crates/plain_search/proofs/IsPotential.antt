use Rattle.std.proofs.Common.{◌≡◌, ℕ, ◌+◌, ◌≤◌, cond, List, [], ◌∷◌, reverse, Option, Some, None, sym, ap, ◌∙◌, arith, refl, subst}
use Rattle.std.specs.Prelude.{slice_get}
use Rattle.std.specs.Option.{option_map}
use Rattle.road_graph.specs.declared.road.NodeNo.{NodeNo}
use Rattle.road_graph.specs.declared.road.Road.{Road}
use Rattle.road_graph.specs.Roads.{Roads, IsNode, least_weight}
use Rattle.road_graph.specs.Graphs.{IsGraph}
use Rattle.road_graph.specs.Walks.{IsWalk}
use Rattle.plain_search.specs.declared.potential.Potential.{Potential}
use Rattle.plain_search.specs.declared.reached.Way.{Way}
use Rattle.plain_search.specs.declared.reached.Way.TheVariants.{From, To}
use Rattle.plain_search.specs.Reaching.{Listing, IsReach, IsDistBy, IsWalkBy, IsInside, IsOutside, distance_of, in_way}
use Rattle.plain_search.specs.Searching.{faced}
use Rattle.plain_search.specs.Valuing.{listed_value, further_by, or_else, IsAtMost, MeetsRoad, IsBelow, IsNoLonger, IsPotential}
use Rattle.road_graph.proofs.WalkLaws.{test_from_node}
use Rattle.plain_search.proofs.Faced.{IsNode-faced, IsNode-from_faced, IsGraph-faced}
use Rattle.plain_search.proofs.IsReach.{walk_faced}
use Rattle.road_graph.proofs.WalkLaws.{least_at_most}
use Rattle.road_graph.proofs.WalkLaws.{walk_over}
use Rattle.road_graph.proofs.WalkLaws.{first_is_node}
use Rattle.road_graph.proofs.WalkLaws.{walk_from_turned, turned_weight}

-- a walk of the graph that is faced is one in the way of the search
walk_from_faced : (way : Way) (g : Roads) → IsGraph g → (start n : NodeNo) (ns : List NodeNo) (x : ℕ) → IsWalk (faced way g) n start ns x → IsWalkBy way g start n (in_way way ns) x
walk_from_faced From g lawful start n ns x w = walk_from_turned g lawful ns start n x w
walk_from_faced To g lawful start n ns x w = w

walk_of : (way : Way) (g : Roads) → IsGraph g → (start n : NodeNo) (x : ℕ) → IsDistBy way g start n x → (ns : List NodeNo) × IsWalk (faced way g) n start ns x
walk_of From g lawful start n x d = walk_faced From g lawful start n d.reached.0 x d.reached.1
walk_of To g lawful start n x d = d.reached

least_of : (way : Way) (g : Roads) → IsGraph g → (start n : NodeNo) (x : ℕ) → IsDistBy way g start n x → (ns : List NodeNo) (y : ℕ) → IsWalk (faced way g) n start ns y → x ≤ y
least_of From g lawful start n x d ns y w = d.least (reverse ns) y (walk_from_turned g lawful ns start n y w)
least_of To g lawful start n x d ns y w = d.least ns y w

stays : (h : Roads) (n : NodeNo) → IsNode h n → IsWalk h n n (n ∷ []) 0
stays h n its = ((refl, refl), ap (λ t. cond t (Some 0) None) (test_from_node h n its))

first_of_walk : (h : Roads) → IsGraph h → (n t : NodeNo) (ns : List NodeNo) (x : ℕ) → IsWalk h n t ns x → IsNode h n
first_of_walk h lawful n t [] x w = absurd w.0
first_of_walk h lawful n t (c ∷ more) x w = subst (IsNode h) w.0.0 (first_is_node h lawful c more x w.1)

module _ (g : Roads) (s : Listing) (p : Potential) (r : IsReach g s) (values : (n : NodeNo) → listed_value p.listed n ≡ distance_of s.listed n) (rest : p.rest ≡ option_map (λ x. x + 1) s.radius) where
  lawful : IsGraph g
  lawful = r.reached.graph

  abbrev h : Roads
  h = faced s.way g

  start_value : distance_of s.listed s.start ≡ Some 0
  start_value = at (distance_of s.listed s.start) refl
    where
      here : IsWalk (faced s.way g) s.start s.start (s.start ∷ []) 0
      here = stays (faced s.way g) s.start (IsNode-faced s.way g s.start r.reached.start)

      outside : (o : Option ℕ) → IsOutside o 0 → ⊥
      outside None q = q
      outside (Some x) q = absurd (omega arith)

      at : (o : Option ℕ) → distance_of s.listed s.start ≡ o → distance_of s.listed s.start ≡ Some 0
      at None e = absurd (outside s.radius (r.others s.start e (in_way s.way (s.start ∷ [])) 0 (walk_from_faced s.way g lawful s.start s.start (s.start ∷ []) 0 here)))
      at (Some x) e = let l = least_of s.way g lawful s.start s.start x (r.reached.exact s.start x e) (s.start ∷ []) 0 here in let z : x ≡ 0 = omega arith in e ∙ ap Some z

  -- what is beyond the radius is no shorter than the rest
  no_longer : (radius : Option ℕ) (x : ℕ) → IsOutside radius x → IsNoLonger (option_map (λ y. y + 1) radius) x
  no_longer None x out = out
  no_longer (Some y) x out = omega arith

  is_below : (radius : Option ℕ) (x : ℕ) → IsInside radius x → IsBelow x (option_map (λ y. y + 1) radius)
  is_below None x i = tt
  is_below (Some y) x i = omega arith

  -- the value of a node over the road to another
  met : (u v : NodeNo) (lw w : ℕ) → least_weight (faced s.way g).roads u v ≡ Some lw → lw ≤ w → IsAtMost (or_else (listed_value p.listed u) p.rest) (further_by (or_else (listed_value p.listed v) p.rest) w)
  met u v lw w road le = at (distance_of s.listed u) (distance_of s.listed v) refl refl (values u) (values v)
    where
      far_or_not : (radius : Option ℕ) (ru : Option ℕ) → ru ≡ option_map (λ y. y + 1) radius → (x : ℕ) → IsInside radius x → IsAtMost (Some x) (further_by ru w)
      far_or_not None ru e x i = subst (λ (o : Option ℕ). IsAtMost (Some x) (further_by o w)) (sym e) tt
      far_or_not (Some y) ru e x i = subst (λ (o : Option ℕ). IsAtMost (Some x) (further_by o w)) (sym e) (omega arith)

      both_far : (ru : Option ℕ) → IsAtMost ru (further_by ru w)
      both_far None = tt
      both_far (Some y) = omega arith

      one_far : (radius : Option ℕ) (ru : Option ℕ) → ru ≡ option_map (λ y. y + 1) radius → (y z : ℕ) → IsOutside radius z → z ≤ y + w → IsAtMost ru (Some (y + w))
      one_far None ru e y z out le = absurd out
      one_far (Some x) ru e y z out le = subst (λ (o : Option ℕ). IsAtMost o (Some (y + w))) (sym e) (omega arith)

      over : (y : ℕ) → distance_of s.listed v ≡ Some y → (ns : List NodeNo) × IsWalk (faced s.way g) u s.start ns (lw + y)
      over y e = let q = walk_of s.way g lawful s.start v y (r.reached.exact v y e) in (u ∷ q.0, walk_over (faced s.way g) u v s.start lw y road q.0 q.1)

      at : (a b : Option ℕ) → distance_of s.listed u ≡ a → distance_of s.listed v ≡ b → listed_value p.listed u ≡ distance_of s.listed u → listed_value p.listed v ≡ distance_of s.listed v
          → IsAtMost (or_else (listed_value p.listed u) p.rest) (further_by (or_else (listed_value p.listed v) p.rest) w)
      at a b ea eb vu vv = subst (λ (o : Option ℕ). IsAtMost (or_else o p.rest) (further_by (or_else (listed_value p.listed v) p.rest) w)) (sym (vu ∙ ea))
          (subst (λ (o : Option ℕ). IsAtMost (or_else a p.rest) (further_by (or_else o p.rest) w)) (sym (vv ∙ eb)) (cases a b ea eb))
        where
          cases : (a b : Option ℕ) → distance_of s.listed u ≡ a → distance_of s.listed v ≡ b → IsAtMost (or_else a p.rest) (further_by (or_else b p.rest) w)
          cases None None ea eb = both_far p.rest
          cases (Some x) None ea eb = far_or_not s.radius p.rest rest x (r.within u x ea)
          cases None (Some y) ea eb =
              let q = over y eb in
              let out = r.others u ea (in_way s.way q.0) (lw + y) (walk_from_faced s.way g lawful s.start u q.0 (lw + y) q.1) in
              one_far s.radius p.rest rest y (lw + y) out (omega arith)
          cases (Some x) (Some y) ea eb =
              let q = over y eb in
              let l = least_of s.way g lawful s.start u x (r.reached.exact u x ea) q.0 (lw + y) q.1 in
              omega arith

  road_met : (k : ℕ) (road : Road) → slice_get g.roads k ≡ Some road → MeetsRoad s.way p road
  road_met k road at = by_way s.way refl
    where
      by_way : (way : Way) → s.way ≡ way → MeetsRoad s.way p road
      by_way From e =
          let l = least_at_most g.roads k road at in
          let q : least_weight (faced s.way g).roads road.to road.from ≡ Some l.0 = subst (λ (y : Way). least_weight (faced y g).roads road.to road.from ≡ Some l.0) (sym e) (turned_weight g road.from road.to ∙ l.1) in
          subst (λ (y : Way). MeetsRoad y p road) (sym e) (met road.to road.from l.0 road.weight q l.2)
      by_way To e =
          let l = least_at_most g.roads k road at in
          let q : least_weight (faced s.way g).roads road.from road.to ≡ Some l.0 = subst (λ (y : Way). least_weight (faced y g).roads road.from road.to ≡ Some l.0) (sym e) l.1 in
          subst (λ (y : Way). MeetsRoad y p road) (sym e) (met road.from road.to l.0 road.weight q l.2)

  pub valid : IsPotential s.way g s.start p
  valid = record {
    start_at = values s.start ∙ start_value;
    nodes = λ n x e. (let w = walk_of s.way g lawful s.start n x (r.reached.exact n x (sym (values n) ∙ e)) in IsNode-from_faced s.way g n (first_of_walk (faced s.way g) (IsGraph-faced s.way g lawful) n s.start w.0 x w.1));
    below = λ n x e. subst (IsBelow x) (sym rest) (is_below s.radius x (r.within n x (sym (values n) ∙ e)));
    exact = λ n x e. r.reached.exact n x (sym (values n) ∙ e);
    others = λ n e nodes x w. subst (λ (o : Option ℕ). IsNoLonger o x) (sym rest) (no_longer s.radius x (r.others n (sym (values n) ∙ e) nodes x w));
    roads = road_met;
  }
