use Rattle.std.proofs.Common.{◌≡◌, ℕ, ◌+◌, ◌<◌, ◌≤◌, List, [], ◌∷◌, length, get_or, slice_index, take, Some, suc, sym, ap, ◌∙◌, arith, refl}
use Rattle.std.proofs.lemmas.List.{take_more}
use Rattle.road_graph.specs.declared.road.NodeNo.{NodeNo}
use Rattle.road_graph.specs.Roads.{Roads, least_weight}
use Rattle.road_graph.specs.Graphs.{IsGraph}
use Rattle.road_graph.specs.Paths.{Path, IsPath}
use Rattle.road_graph.specs.Walks.{walk_length, both, last_of, IsMeasured}
use Rattle.road_graph.proofs.WalkLength.{walk_more}
use Rattle.road_graph.proofs.IsWalk.{parts, alone_is_node}

rises : (g : Roads) → IsGraph g → (u : NodeNo) (more : List NodeNo) (k x y : ℕ) → k < length more → walk_length g (u ∷ take k more) ≡ Some x → walk_length g (u ∷ take (k + 1) more) ≡ Some y → x ≤ y
rises g h u more k x y lt ex ey =
    let d : NodeNo = record { 0 = 0 } in
    let next : NodeNo = get_or more k d in
    let whole : both (walk_length g (u ∷ take k more)) (least_weight g.roads (last_of u (take k more)) next) ≡ Some y =
    sym (walk_more g h u (take k more) next) ∙ ap (λ (ns : List NodeNo). walk_length g (u ∷ ns)) (sym (take_more more k d lt)) ∙ ey in
    let p = parts (walk_length g (u ∷ take k more)) (least_weight g.roads (last_of u (take k more)) next) y whole in
    let left = p.2 in
    let same : p.0 ≡ x = cc in
    let sum = p.4 in
    omega arith

-- the offsets of a walk begin at 0 and don't fall
pub measured_path : (g : Roads) → IsGraph g → (w : Path) → IsMeasured g w → IsPath w
measured_path g h w m = of_nodes w.nodes refl
  where
    of_nodes : (nodes : List NodeNo) → w.nodes ≡ nodes → IsPath w
    of_nodes [] e = let whole = ap (walk_length g) (sym e) ∙ m.whole in cc
    of_nodes (u ∷ more) e =
        let len : length w.nodes ≡ length (u ∷ more) = ap length e in
        let many = m.many in
        let at : (k : ℕ) → k < length w.nodes → walk_length g (u ∷ take k more) ≡ Some (slice_index w.offsets k) = λ k lt. ap (λ (ns : List NodeNo). walk_length g (take (suc k) ns)) (sym e) ∙ m.each k lt in
        record {
          many = m.many;
          some = omega arith;
          first = (alone_is_node g u (slice_index w.offsets 0) (at 0 (omega arith))).1;
          rising = λ k lt. rises g h u more k (slice_index w.offsets k) (slice_index w.offsets (k + 1)) (omega arith) (at k (omega arith)) (at (k + 1) (omega arith));
        }
