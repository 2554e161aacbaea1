use Rattle.std.proofs.Common.{◌≡◌, ℕ, ◌+◌, ◌≤◌, ◌==◌, nat_eq, Bool, true, false, cond, List, [], ◌∷◌, ◌++◌, length, Option, Some, None, ap, arith, refl}
use Rattle.std.specs.List.{filter, IsDistinct, AllByRecursion}
use Rattle.std.proofs.lemmas.Bool.{eqb-true}
use Rattle.std.proofs.lemmas.List.{length-map}
use Rattle.road_graph.specs.declared.road.NodeNo.{NodeNo}
use Rattle.road_graph.specs.declared.road.Road.{Road}
use Rattle.road_graph.specs.Roads.{Roads, outs, ins, least_weight}
use Rattle.road_graph.specs.Walks.{numbers, IsSimple}
use Rattle.road_graph.specs.Reads.{roads_out, roads_into, read_along, where_joined}

-- how often a number is in a list
abbrev hits : ℕ → List ℕ → ℕ
hits q [] = 0
hits q (n ∷ ns) = cond (q == n) 1 0 + hits q ns

-- how many roads have a key of the list
abbrev counts : (Road → ℕ) → List Road → List ℕ → ℕ
counts key roads [] = 0
counts key roads (n ∷ ns) = length (filter (λ (r : Road). key r == n) roads) + counts key roads ns

hits_none : (q : ℕ) (ns : List ℕ) → AllByRecursion (λ k. nat_eq q k ≡ false) ns → hits q ns ≡ 0
hits_none q [] h = refl
hits_none q (n ∷ ns) h = at (q == n) h.0 (hits_none q ns h.1)
  where
    at : (b : Bool) → b ≡ false → hits q ns ≡ 0 → cond b 1 0 + hits q ns ≡ 0
    at true e rest = cc
    at false e rest = omega arith

hits_once : (q : ℕ) (ns : List ℕ) → IsDistinct nat_eq ns → hits q ns ≤ 1
unfolding IsDistinct
hits_once q [] d = omega arith
hits_once q (n ∷ ns) d = at (q == n) refl (hits_none n ns d.0) (hits_once q ns d.1)
  where
    at : (b : Bool) → (q == n) ≡ b → hits n ns ≡ 0 → hits q ns ≤ 1 → cond b 1 0 + hits q ns ≤ 1
    at true e none rest = let same : hits q ns ≡ hits n ns = ap (λ m. hits m ns) (eqb-true q n e) in omega arith
    at false e none rest = omega arith

counts_none : (key : Road → ℕ) (ns : List ℕ) → counts key [] ns ≡ 0
counts_none key [] = refl
counts_none key (n ∷ ns) = let rest = counts_none key ns in omega arith

counts_more : (key : Road → ℕ) (r : Road) (roads : List Road) (ns : List ℕ) → counts key (r ∷ roads) ns ≡ hits (key r) ns + counts key roads ns
counts_more key r roads [] = refl
counts_more key r roads (n ∷ ns) = at (key r == n) (counts_more key r roads ns)
  where
    at : (b : Bool) → counts key (r ∷ roads) ns ≡ hits (key r) ns + counts key roads ns
        → length (cond b (r ∷ filter (λ (q : Road). key q == n) roads) (filter (λ (q : Road). key q == n) roads)) + counts key (r ∷ roads) ns ≡ (cond b 1 0 + hits (key r) ns) + (length (filter (λ (q : Road). key q == n) roads) + counts key roads ns)
    at true e = omega arith
    at false e = omega arith

-- distinct numbers share no road
counts_few : (key : Road → ℕ) (roads : List Road) (ns : List ℕ) → IsDistinct nat_eq ns → counts key roads ns ≤ length roads
counts_few key [] ns d = let e = counts_none key ns in omega arith
counts_few key (r ∷ roads) ns d =
    let e = counts_more key r roads ns in
    let once = hits_once (key r) ns d in
    let rest = counts_few key roads ns d in
    omega arith

out_counts : (g : Roads) (nodes : List NodeNo) → roads_out g nodes ≡ counts (λ (r : Road). r.from.0) g.roads (numbers nodes)
out_counts g [] = refl
out_counts g (n ∷ nodes) =
    let one = length-map (filter (λ (r : Road). r.from.0 == n.0) g.roads) (λ (r : Road). let y : NodeNo × ℕ = (r.to, r.weight) in y) in
    let rest = out_counts g nodes in
    omega arith

in_counts : (g : Roads) (nodes : List NodeNo) → roads_into g nodes ≡ counts (λ (r : Road). r.to.0) g.roads (numbers nodes)
in_counts g [] = refl
in_counts g (n ∷ nodes) =
    let one = length-map (filter (λ (r : Road). r.to.0 == n.0) g.roads) (λ (r : Road). let y : NodeNo × ℕ = (r.from, r.weight) in y) in
    let rest = in_counts g nodes in
    omega arith

-- no more roads lead out of nodes that each stand once than there are, and no more into them
pub out_few : (g : Roads) (nodes : List NodeNo) → IsSimple nodes → roads_out g nodes ≤ length g.roads
out_few g nodes s = let e = out_counts g nodes in let few = counts_few (λ (r : Road). r.from.0) g.roads (numbers nodes) s in omega arith

pub in_few : (g : Roads) (nodes : List NodeNo) → IsSimple nodes → roads_into g nodes ≤ length g.roads
in_few g nodes s = let e = in_counts g nodes in let few = counts_few (λ (r : Road). r.to.0) g.roads (numbers nodes) s in omega arith

-- to follow nodes no more roads are read than lead out of them
pub along_out : (g : Roads) (nodes : List NodeNo) → read_along g nodes ≤ roads_out g nodes
along_out g [] = omega arith
along_out g (u ∷ []) = omega arith
along_out g (u ∷ v ∷ more) = at (least_weight g.roads u v) (along_out g (v ∷ more))
  where
    at : (o : Option ℕ) → read_along g (v ∷ more) ≤ roads_out g (v ∷ more) → length (outs g u) + where_joined o (read_along g (v ∷ more)) ≤ length (outs g u) + roads_out g (v ∷ more)
    at None le = omega arith
    at (Some w) le = omega arith

-- one node more at the end
pub out_append : (g : Roads) (xs : List NodeNo) (n : NodeNo) → roads_out g (xs ++ n ∷ []) ≡ roads_out g xs + length (outs g n)
out_append g [] n = omega arith
out_append g (x ∷ xs) n = let e = out_append g xs n in omega arith

pub in_append : (g : Roads) (xs : List NodeNo) (n : NodeNo) → roads_into g (xs ++ n ∷ []) ≡ roads_into g xs + length (ins g n)
in_append g [] n = omega arith
in_append g (x ∷ xs) n = let e = in_append g xs n in omega arith
