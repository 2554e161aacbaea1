use Rattle.std.proofs.Common.{◌≡◌, ℕ, take, map}
use Rattle.road_graph.specs.declared.road.NodeNo.{NodeNo}
use Rattle.upward_search.specs.Names.{label_by}
use Rattle.upward_search.proofs.levels.labels_by.Given as goal

abbrev pub invariant-loop-node : goal.invariant-loop-node
invariant-loop-node l = l.labels.items ≡ map (λ (n : NodeNo × ℕ). label_by l.places n) (take l.node-index l.listed)
