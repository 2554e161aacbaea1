use Rattle.std.proofs.Common.{ap, ◌∙◌, length, List, subst, sym, ◌<◌}
use Rattle.road_graph.specs.declared.road.NodeNo.{NodeNo}
use Rattle.upward_search.specs.Ladders.{Ladder}
use Rattle.upward_search.proofs.levels.Levels.named.Goals as goal

pub nodes_at-requires : goal.nodes_at-requires
nodes_at-requires c = λ r i. subst (λ (ns : List NodeNo). r.place < length ns) (sym (c.as_slice.ensures ∙ ap (λ (h : Ladder). h.nodes) c.self.view_is)) (c.requires r i)
