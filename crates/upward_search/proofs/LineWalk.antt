use Rattle.std.proofs.Common.{◌≡◌, ℕ, suc, ◌<◌, inl, inr, ⊎_elim, nat_eq, cond, false, List, [], ◌∷◌, map, Some, None, sym, ap, ◌∙◌, arith, refl, subst}
use Rattle.std.specs.Prelude.{slice_get}
use Rattle.std.specs.List.{IsDistinct, AllByRecursion}
use Rattle.std.proofs.lemmas.Bool.{ne_eqb}
use Rattle.std.proofs.lemmas.List.Sums.{sum_by-cons}
use Rattle.road_graph.specs.declared.road.NodeNo.{NodeNo}
use Rattle.road_graph.specs.Roads.{Roads, least_weight}
use Rattle.road_graph.specs.Walks.{IsWalk, IsSimple, walk_length, last_of}
use Rattle.road_graph.proofs.WalkLaws.{same_node, step_to, test_from_node}
use Rattle.upward_search.specs.declared.slope.Label.{Label}
use Rattle.upward_search.specs.declared.unpacking.Part.{Part}
use Rattle.upward_search.specs.Ladders.{Ladder, IsLadder, IsAt, IsRoadArc}
use Rattle.upward_search.specs.Hierarchies.{LadderFits}
use Rattle.upward_search.specs.Parts.{IsRoad, arc_of, IsPart, IsRoadPart, AreRoads, roads_length}
use Rattle.upward_search.specs.Lines.{AreLed}
use Rattle.upward_search.specs.Names.{AreNamed}

same_at : (h : Ladder) (p q : ℕ) (u v : NodeNo) → IsAt h p u → IsAt h q v → p ≡ q → u ≡ v
same_at h p q u v a b e = let s = ap (slice_get h.nodes) e in cc

-- a part with no middle is a road
road_of : (g : Roads) (h : Ladder) → LadderFits g h → IsLadder h → (x : Part) → IsPart h x → IsRoad x → IsRoadArc g h x.from x.to x.length
road_of g h f l x (inl i) e = f.climbing x.from (arc_of x.to x) i (let up = l.climbs_up.up x.from i.0 (arc_of x.to x) i.1 in let a = up.0 in ⊎_elim (λ q. q) (λ q. omega arith) e)
road_of g h f l x (inr i) e = f.falling x.to (arc_of x.from x) i (let up = l.falls_up.up x.to i.0 (arc_of x.from x) i.1 in let a = up.0 in ⊎_elim (λ q. omega arith) (λ q. q) e)

road_weight : (g : Roads) (h : Ladder) → LadderFits g h → IsLadder h → (p q w : ℕ) → IsRoadPart h p q w → (u v : NodeNo) → IsAt h p u → IsAt h q v → least_weight g.roads u v ≡ Some w
road_weight g h f l p q w r u v a b =
    let arc = road_of g h f l r.part r.is r.road in
    let e : arc.u ≡ u = same_at h r.part.from p arc.u u arc.starts a r.starts in
    let e' : arc.v ≡ v = same_at h r.part.to q arc.v v arc.ends b r.ends in
    subst (λ (n : NodeNo). least_weight g.roads u n ≡ Some w) e' (subst (λ (n : NodeNo). least_weight g.roads n arc.v ≡ Some w) e (arc.weight ∙ ap Some r.long))

-- roads one after another are a walk of their nodes
pub roads_walk : (g : Roads) (h : Ladder) → LadderFits g h → IsLadder h → (rs : List Label) (ns : List NodeNo) (p q : ℕ) (u v : NodeNo) → AreRoads h p rs q → AreNamed h.nodes rs ns → IsAt h p u → IsAt h q v → (last_of u ns ≡ v) × (walk_length g (u ∷ ns) ≡ Some (roads_length rs))
roads_walk g h f d [] [] p q u v l named a b = (same_at h p q u v a b l, ap (λ t. cond t (Some 0) None) (test_from_node g u (f.nodes p u a)))
roads_walk g h f d [] (n ∷ ns) p q u v l named a b = absurd named
roads_walk g h f d (r ∷ rs) [] p q u v l named a b = absurd named
roads_walk g h f d (r ∷ rs) (n ∷ ns) p q u v l named a b =
    let w = roads_walk g h f d rs ns r.place q n v l.1 named.1 named.0 b in
    let road = road_weight g h f d p r.place r.length l.0 u n a named.0 in
    let step = step_to g u n ns r.length (roads_length rs) road w.1 in
    (w.0, step ∙ ap Some (sym (sum_by-cons (λ (r : Label). r.length) r rs)))

pub line_walk : (g : Roads) (h : Ladder) → LadderFits g h → IsLadder h → (line : List Label) (nodes : List NodeNo) (p q : ℕ) (u v : NodeNo) → AreLed h p line q → AreNamed h.nodes line nodes → IsAt h p u → IsAt h q v → IsWalk g u v nodes (roads_length line)
line_walk g h f d [] nodes p q u v l named a b = absurd l
line_walk g h f d (r ∷ rs) [] p q u v l named a b = absurd named
line_walk g h f d (r ∷ rs) (n ∷ ns) p q u v l named a b =
    let first : n ≡ u = same_at h r.place p n u named.0 a l.0 in
    let w = roads_walk g h f d rs ns r.place q n v l.2 named.1 named.0 b in
    let sum = sum_by-cons (λ (r : Label). r.length) r rs in
    let none = l.1 in
    let total : roads_length rs ≡ roads_length (r ∷ rs) = omega arith in
    ((first, w.0), w.1 ∙ ap Some total)

-- nodes at different places are different
module _ (h : Ladder) (one_place : (p q : ℕ) (n : NodeNo) → IsAt h p n → IsAt h q n → p ≡ q) where
  differs : (p : ℕ) (n : NodeNo) → IsAt h p n → (rs : List Label) (ns : List NodeNo) → AreNamed h.nodes rs ns → ((k : ℕ) (s : Label) → slice_get rs k ≡ Some s → p ≡ s.place → ⊥) → AllByRecursion (λ k. nat_eq n.0 k ≡ false) (map (λ (m : NodeNo). m.0) ns)
  differs p n a [] [] named apart = tt
  differs p n a [] (m ∷ ns) named apart = absurd named
  differs p n a (r ∷ rs) [] named apart = absurd named
  differs p n a (r ∷ rs) (m ∷ ns) named apart =
      (ne_eqb _ _ (λ e. apart 0 r refl (one_place p r.place n a (subst (IsAt h r.place) (sym (same_node e)) named.0))), differs p n a rs ns named.1 (λ k s e. apart (suc k) s e))

  pub simple_nodes : (rs : List Label) (ns : List NodeNo) → AreNamed h.nodes rs ns → ((i j : ℕ) (r s : Label) → i < j → slice_get rs i ≡ Some r → slice_get rs j ≡ Some s → r.place ≡ s.place → ⊥) → IsSimple ns
  unfolding IsDistinct
  simple_nodes [] [] named apart = tt
  simple_nodes [] (n ∷ ns) named apart = absurd named
  simple_nodes (r ∷ rs) [] named apart = absurd named
  simple_nodes (r ∷ rs) (n ∷ ns) named apart = (
    differs r.place n named.0 rs ns named.1 (λ k s e q. apart 0 (suc k) r s (omega arith) refl e q),
    simple_nodes rs ns named.1 (λ i j t s lt a b e. apart (suc i) (suc j) t s (omega arith) a b e),
  )
