use Rattle.std.proofs.Common.{◌≡◌, ℕ, zero, suc, ◌≤◌, ◌&&◌, Bool, true, false, cond, List, [], ◌∷◌, map, min, Option, Some, None, sym, ap, ◌∙◌, arith, refl, subst, ◌==◌}
use Rattle.std.specs.Prelude.{slice_get}
use Rattle.std.specs.List.{filter}
use Rattle.std.proofs.lemmas.Bool.{eqb-true, eq-eqb}
use Rattle.road_graph.specs.declared.road.NodeNo.{NodeNo}
use Rattle.road_graph.specs.declared.road.Road.{Road}
use Rattle.road_graph.specs.Roads.{Roads, IsNode, ins, least_weight, weight_on, lighter_of}
use Rattle.road_graph.specs.Graphs.{IsGraph}
use Rattle.road_graph.specs.WalkLaws.{IsRoadInto, IsAtMost}
use Rattle.road_graph.proofs.WalkLength.{has_road}
use Rattle.road_graph.proofs.IsWalk.{same_node, ends_are_nodes}

abbrev as_in : Road → NodeNo × ℕ
as_in r = (r.from, r.weight)

abbrev into : List Road → NodeNo → List (NodeNo × ℕ)
into roads n = map as_in (filter (λ (r : Road). r.to.0 == n.0) roads)

-- a road of the graph is among those into its end
kept : (roads : List Road) (n : NodeNo) (k : ℕ) (road : Road) → slice_get roads k ≡ Some road → (road.to.0 == n.0) ≡ true → (j : ℕ) × (slice_get (into roads n) j ≡ Some (as_in road))
kept [] n k road at e = cc
kept (r ∷ roads) n zero road at e = (0, here (r.to.0 == n.0) (ap (λ (q : Road). q.to.0 == n.0) is ∙ e))
  where
    is : r ≡ road
    is = cc

    here : (b : Bool) → b ≡ true → slice_get (map as_in (cond b (r ∷ filter (λ (r : Road). r.to.0 == n.0) roads) (filter (λ (r : Road). r.to.0 == n.0) roads))) 0 ≡ Some (as_in road)
    here true e = ap (λ (q : Road). Some (as_in q)) is
    here false e = cc
kept (r ∷ roads) n (suc k) road at e = later (r.to.0 == n.0) (kept roads n k road at e)
  where
    later : (b : Bool) → (j : ℕ) × (slice_get (into roads n) j ≡ Some (as_in road)) → (j : ℕ) × (slice_get (map as_in (cond b (r ∷ filter (λ (r : Road). r.to.0 == n.0) roads) (filter (λ (r : Road). r.to.0 == n.0) roads))) j ≡ Some (as_in road))
    later true h = (suc h.0, h.1)
    later false h = h

pub in_ins : (g : Roads) (u n : NodeNo) (w : ℕ) → least_weight g.roads u n ≡ Some w → (j : ℕ) × (slice_get (ins g n) j ≡ Some (u, w))
in_ins g u n w h =
    let r = has_road g.roads u n w h in
    let k = kept g.roads n r.k r.road r.stands (eq-eqb _ _ r.to) in
    let pair : NodeNo × ℕ = (u, w) in
    let same : as_in r.road ≡ pair = ap (λ (v : NodeNo). let p : NodeNo × ℕ = (v, r.road.weight) in p) (same_node r.from) ∙ ap (λ (x : ℕ). let p : NodeNo × ℕ = (u, x) in p) r.weight in
    (k.0, k.1 ∙ ap Some same)

-- a road into a node is one of the graph
more_roads : (r : Road) (roads : List Road) (u n : NodeNo) (w : ℕ) → IsRoadInto roads u n w → IsRoadInto (r ∷ roads) u n w
more_roads r roads u n w h = record { k = suc h.k; road = h.road; stands = h.stands; from = h.from; to = h.to; weight = h.weight }

pub of_into : (roads : List Road) (n : NodeNo) (j : ℕ) (u : NodeNo) (w : ℕ) → slice_get (into roads n) j ≡ Some (u, w) → IsRoadInto roads u n w
of_into [] n j u w h = cc
of_into (r ∷ roads) n j u w h = at (r.to.0 == n.0) refl j h (λ i q. of_into roads n i u w q)
  where
    at : (b : Bool) → (r.to.0 == n.0) ≡ b → (i : ℕ) → slice_get (map as_in (cond b (r ∷ filter (λ (r : Road). r.to.0 == n.0) roads) (filter (λ (r : Road). r.to.0 == n.0) roads))) i ≡ Some (u, w)
        → ((i : ℕ) → slice_get (into roads n) i ≡ Some (u, w) → IsRoadInto roads u n w) → IsRoadInto (r ∷ roads) u n w
    at true e zero q rest =
        let p : as_in r ≡ (u, w) = cc in
        record { k = 0; road = r; stands = refl; from = ap (λ (t : NodeNo × ℕ). t.0) p; to = same_node (eqb-true _ _ e); weight = ap (λ (t : NodeNo × ℕ). t.1) p }
    at true e (suc i) q rest = more_roads r roads u n w (rest i q)
    at false e i q rest = more_roads r roads u n w (rest i q)

pub lighter_left : (a : ℕ) (b : Option ℕ) → IsAtMost (lighter_of (Some a) b) a
lighter_left a None = (a, refl, omega arith)
lighter_left a (Some b) = (min a b, refl, omega arith)

pub lighter_right : (a b : Option ℕ) (w : ℕ) → IsAtMost b w → IsAtMost (lighter_of a b) w
lighter_right None b w h = h
lighter_right (Some a) None w h = cc
lighter_right (Some a) (Some b) w h = let e : b ≡ h.0 = cc in let l : h.0 ≤ w = h.2 in (min a b, refl, omega arith)

on : (road : Road) → weight_on road road.from road.to ≡ Some road.weight
on road = ap (λ a. cond (a && (road.to.0 == road.to.0)) (Some road.weight) None) (eq-eqb _ _ refl) ∙ ap (λ b. cond b (Some road.weight) None) (eq-eqb _ _ refl)

-- a road of the list weighs no less than the least weight between its ends
pub least_at_most : (roads : List Road) (k : ℕ) (road : Road) → slice_get roads k ≡ Some road → IsAtMost (least_weight roads road.from road.to) road.weight
least_at_most [] k road at = cc
least_at_most (r ∷ rs) zero road at =
    let is : road ≡ r = cc in
    let w : weight_on r road.from road.to ≡ Some road.weight = subst (λ (q : Road). weight_on q road.from road.to ≡ Some road.weight) is (on road) in
    subst (λ (o : Option ℕ). IsAtMost (lighter_of o (least_weight rs road.from road.to)) road.weight) (sym w) (lighter_left road.weight (least_weight rs road.from road.to))
least_at_most (r ∷ rs) (suc k) road at = lighter_right (weight_on r road.from road.to) (least_weight rs road.from road.to) road.weight (least_at_most rs k road at)

pub weight_of_in : (g : Roads) (n : NodeNo) (j : ℕ) (u : NodeNo) (w : ℕ) → slice_get (ins g n) j ≡ Some (u, w) → IsAtMost (least_weight g.roads u n) w
weight_of_in g n j u w h =
    let r = of_into g.roads n j u w h in
    let l = least_at_most g.roads r.k r.road r.stands in
    let e : least_weight g.roads u n ≡ Some l.0 = ap (λ (v : NodeNo). least_weight g.roads v n) (sym r.from) ∙ ap (least_weight g.roads r.road.from) (sym r.to) ∙ l.1 in
    let a = r.weight in
    let b = l.2 in
    (l.0, e, omega arith)

pub node_of_in : (g : Roads) → IsGraph g → (n : NodeNo) (j : ℕ) (u : NodeNo) (w : ℕ) → slice_get (ins g n) j ≡ Some (u, w) → IsNode g u
node_of_in g lawful n j u w h =
    let l = weight_of_in g n j u w h in
    (ends_are_nodes g lawful u n l.0 l.1).0
