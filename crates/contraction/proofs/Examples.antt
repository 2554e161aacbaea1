use Rattle.std.proofs.Common.{[], ◌∷◌, Some, None, ap, arith, refl}
use Rattle.std.specs.Prelude.{Contains}
use Rattle.road_graph.specs.declared.road.NodeNo.{NodeNo}
use Rattle.road_graph.specs.Roads.{node}
use Rattle.upward_search.specs.Chains.{arc}
use Rattle.contraction.specs.Removing.{HasChain, IsShortcut}
use Rattle.contraction.proofs.HasChain.{has_one, has_append}
use Rattle.contraction.proofs.Contains.{in_more, in_first}

-- node 2 of a line of three, removed
shortcut_over_two : IsShortcut 100 (Contains (arc 1 2 10 None ∷ arc 2 3 7 None ∷ [])) (node 2) (arc 1 3 17 (Some (node 2)))
shortcut_over_two = record {
  down = arc 1 2 10 None;
  up = arc 2 3 7 None;
  down_left = in_first (arc 1 2 10 None) (arc 2 3 7 None ∷ []);
  up_left = in_more (arc 1 2 10 None) (arc 2 3 7 None ∷ []) (arc 2 3 7 None) (in_first (arc 2 3 7 None) []);
  into = ((λ e. (let f = ap (λ (n : NodeNo). n.0) e in omega arith)), refl);
  out = (refl, (λ e. (let f = ap (λ (n : NodeNo). n.0) e in omega arith)));
  from = refl;
  to = refl;
  apart = λ e. (let f = ap (λ (n : NodeNo). n.0) e in omega arith);
  middle = refl;
  sum = refl;
  light = omega arith;
}

-- two arcs in a row, no longer than 20
along_the_line : HasChain (Contains (arc 1 2 10 None ∷ arc 2 3 7 None ∷ [])) (node 1) (node 3) 20
along_the_line =
    let first = in_first (arc 1 2 10 None) (arc 2 3 7 None ∷ []) in
    let second = in_more (arc 1 2 10 None) (arc 2 3 7 None ∷ []) (arc 2 3 7 None) (in_first (arc 2 3 7 None) []) in
    has_append (node 1) (node 2) (node 3) 10 7 20
    (has_one (arc 1 2 10 None) (node 1) (node 2) 10 first refl refl (omega arith)) (has_one (arc 2 3 7 None) (node 2) (node 3) 7 second refl refl (omega arith)) (omega arith)
