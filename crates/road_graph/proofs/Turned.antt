use Rattle.std.proofs.Common.{◌≡◌, ℕ, ◌+◌, Bool, true, false, cond, List, [], ◌∷◌, map, reverse, slice_get, Option, Some, None, sym, ap, ◌∙◌, arith, refl, subst, ◌==◌}
use Rattle.std.specs.List.{filter}
use Rattle.std.specs.Option.{option_map}
use Rattle.std.proofs.Math.Bool.{and_comm}
use Rattle.std.proofs.lemmas.List.{reverse-append, length-map}
use Rattle.std.proofs.lemmas.Option.{slice_get-map}
use Rattle.road_graph.specs.declared.road.NodeNo.{NodeNo}
use Rattle.road_graph.specs.declared.road.Road.{Road}
use Rattle.road_graph.specs.Roads.{Roads, ins, outs, least_weight, weight_on, lighter_of}
use Rattle.road_graph.specs.Graphs.{IsGraph, IsRoadOf}
use Rattle.road_graph.specs.Walks.{IsWalk, IsDist}
use Rattle.road_graph.specs.Turned.{turn, turned}
use Rattle.road_graph.proofs.IsWalk.{step_of, ends_are_nodes, walk_push}

turn-turn : (roads : List Road) → map turn (map turn roads) ≡ roads
turn-turn [] = refl
turn-turn (road ∷ roads) = ap (λ rs. road ∷ rs) (turn-turn roads)

pub turned-turned : (g : Roads) → turned (turned g) ≡ g
turned-turned g = ap (λ (rs : List Road). let h : Roads = record { nodes = g.nodes; roads = rs } in h) (turn-turn g.roads)

abbrev as_in : Road → NodeNo × ℕ
as_in r = (r.from, r.weight)

abbrev as_out : Road → NodeNo × ℕ
as_out r = (r.to, r.weight)

-- the roads into a node of the turned graph are those out of it
into_turned : (roads : List Road) (n : NodeNo) → map as_in (filter (λ (r : Road). r.to.0 == n.0) (map turn roads)) ≡ map as_out (filter (λ (r : Road). r.from.0 == n.0) roads)
into_turned [] n = refl
into_turned (road ∷ roads) n = at (road.from.0 == n.0) (into_turned roads n)
  where
    at : (b : Bool) → map as_in (filter (λ (r : Road). r.to.0 == n.0) (map turn roads)) ≡ map as_out (filter (λ (r : Road). r.from.0 == n.0) roads)
        → map as_in (cond b (turn road ∷ filter (λ (r : Road). r.to.0 == n.0) (map turn roads)) (filter (λ (r : Road). r.to.0 == n.0) (map turn roads)))
        ≡ map as_out (cond b (road ∷ filter (λ (r : Road). r.from.0 == n.0) roads) (filter (λ (r : Road). r.from.0 == n.0) roads))
    at true rest = ap (λ ps. as_out road ∷ ps) rest
    at false rest = rest

pub ins-turned : (g : Roads) (n : NodeNo) → ins (turned g) n ≡ outs g n
ins-turned g n = into_turned g.roads n

weight_on-turn : (road : Road) (u v : NodeNo) → weight_on (turn road) v u ≡ weight_on road u v
weight_on-turn road u v = ap (λ b. cond b (Some road.weight) None) (and_comm (road.to.0 == v.0) (road.from.0 == u.0))

pub least_weight-turned : (roads : List Road) (u v : NodeNo) → least_weight (map turn roads) v u ≡ least_weight roads u v
least_weight-turned [] u v = refl
least_weight-turned (road ∷ roads) u v = ap (λ o. lighter_of o (least_weight (map turn roads) v u)) (weight_on-turn road u v) ∙ ap (lighter_of (weight_on road u v)) (least_weight-turned roads u v)

-- the turned graph is a graph
pub IsGraph-turned : (g : Roads) → IsGraph g → IsGraph (turned g)
IsGraph-turned g h = record {
  few_nodes = h.few_nodes;
  few_roads = (let e = length-map g.roads turn in let f = h.few_roads in omega arith);
  each = λ k road at. let o = origin k road (slice_get g.roads k) refl at in let e = h.each k o.0 o.1 in
      subst (λ (r : Road). IsRoadOf (turned g) r) o.2 (record { from = e.to; to = e.from; light = e.light });
}
  where
    origin : (k : ℕ) (road : Road) (o : Option Road) → slice_get g.roads k ≡ o → slice_get (map turn g.roads) k ≡ Some road → (r : Road) × (slice_get g.roads k ≡ Some r) × (turn r ≡ road)
    origin k road None e at = let q = slice_get-map turn g.roads k in let p = ap (option_map turn) e in cc
    origin k road (Some r) e at = let q = slice_get-map turn g.roads k in let p = ap (option_map turn) e in (r, e, cc)

-- a walk backwards is one of the turned graph
pub IsWalk-turned : (g : Roads) → IsGraph g → (nodes : List NodeNo) (u v : NodeNo) (x : ℕ) → IsWalk g u v nodes x → IsWalk (turned g) v u (reverse nodes) x
IsWalk-turned g lawful [] u v x h = absurd h.0
IsWalk-turned g lawful (a ∷ []) u v x h = ((h.0.1, h.0.0), h.1)
IsWalk-turned g lawful (a ∷ b ∷ more) u v x h =
    let s = step_of g a b more x h.1 in
    let back = IsWalk-turned g lawful (b ∷ more) b v s.rest ((refl, h.0.1), s.walk) in
    let n = ends_are_nodes g lawful a b s.weight s.road in
    let sum = s.sum in
    let w = walk_push (turned g) (reverse (b ∷ more)) v b a s.rest s.weight back (least_weight-turned g.roads a b ∙ s.road) n.0 in
    let total : s.rest + s.weight ≡ x = omega arith in
    let whole = subst (λ (ns : List NodeNo). IsWalk (turned g) v a ns x) (sym (reverse-append (a ∷ []) (b ∷ more))) (w.0, w.1 ∙ ap Some total) in
    subst (λ (n : NodeNo). IsWalk (turned g) v n (reverse (a ∷ b ∷ more)) x) h.0.0 whole

-- distances are those of the turned graph the other way
pub IsDist-turned : (g : Roads) → IsGraph g → (u v : NodeNo) (x : ℕ) → IsDist g u v x → IsDist (turned g) v u x
IsDist-turned g lawful u v x d = record {
  reached = (reverse d.reached.0, IsWalk-turned g lawful d.reached.0 u v x d.reached.1);
  least = λ nodes y w. d.least (reverse nodes) y (subst (λ (h : Roads). IsWalk h u v (reverse nodes) y) (turned-turned g) (IsWalk-turned (turned g) (IsGraph-turned g lawful) nodes v u y w));
}

pub IsDist-from_turned : (g : Roads) → IsGraph g → (u v : NodeNo) (x : ℕ) → IsDist (turned g) v u x → IsDist g u v x
IsDist-from_turned g lawful u v x d = subst (λ (h : Roads). IsDist h u v x) (turned-turned g) (IsDist-turned (turned g) (IsGraph-turned g lawful) v u x d)

pub IsWalk-from_turned : (g : Roads) → IsGraph g → (nodes : List NodeNo) (u v : NodeNo) (x : ℕ) → IsWalk (turned g) v u nodes x → IsWalk g u v (reverse nodes) x
IsWalk-from_turned g lawful nodes u v x w = subst (λ (h : Roads). IsWalk h u v (reverse nodes) x) (turned-turned g) (IsWalk-turned (turned g) (IsGraph-turned g lawful) nodes v u x w)
