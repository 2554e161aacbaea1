use Rattle.std.proofs.Common.{◌≡◌, ℕ, List, ◌∷◌, [], true, false, Some, sym, ap, ◌∙◌, arith}
use Rattle.std.proofs.lemmas.Bool.{false≢true}
use Rattle.road_graph.specs.declared.road.NodeNo.{NodeNo}
use Rattle.road_graph.specs.Graphs.{IsGraph}
use Rattle.road_graph.specs.Roads.{Roads, is_node, IsNode}
use Rattle.road_graph.specs.Walks.{NoWalk, walk_length, last_of}
use Rattle.road_graph.proofs.WalkLaws.{node_from_test, test_from_node, first_is_node, alone_is_node, parts}
use Rattle.upward_search.specs.Hierarchies.{Ranking, Fits, HasRank}

-- No walk leads from or to a node that the graph hasn't, and each of its nodes has a rank.

last_is_node : (g : Roads) (u : NodeNo) (more : List NodeNo) (x : ℕ) → walk_length g (u ∷ more) ≡ Some x → IsNode g (last_of u more)
last_is_node g u [] x e = (alone_is_node g u x e).0
last_is_node g u (v ∷ more) x e = let (w, y, road, rest, sum) = parts _ _ x e in last_is_node g v more y rest

pub no_walk_from : (g : Roads) → IsGraph g → (u v : NodeNo) → is_node g.nodes u ≡ false → NoWalk g u v
no_walk_from g lawful u v h [] x w = absurd w.0
no_walk_from g lawful u v h (n ∷ more) x w =
    let there = test_from_node g n (first_is_node g lawful n more x w.1) in
    absurd (false≢true (sym h ∙ ap (is_node g.nodes) (sym w.0.0) ∙ there))

pub no_walk_to : (g : Roads) (u v : NodeNo) → is_node g.nodes v ≡ false → NoWalk g u v
no_walk_to g u v h [] x w = absurd w.0
no_walk_to g u v h (n ∷ more) x w =
    let there = test_from_node g (last_of n more) (last_is_node g n more x w.1) in
    absurd (false≢true (sym h ∙ ap (is_node g.nodes) (sym w.0.1) ∙ there))

pub has_rank : (g : Roads) (h : Ranking) (n : NodeNo) → Fits g h → is_node g.nodes n ≡ true → HasRank h n
has_rank g h n f t =
    let k = node_from_test g n t in
    let many = f.ranked.many in
    (k.0, omega arith)
