use Rattle.std.proofs.Common.{ap, ◌∙◌, length, List, subst, sym}
use Rattle.std.specs.Prelude.{IfOk}
use Rattle.road_graph.specs.declared.road.NodeNo.{NodeNo}
use Rattle.upward_search.specs.Climbs.{IsRisingWithin}
use Rattle.upward_search.specs.Ladders.{Ladder}
use Rattle.upward_search.specs.Names.{AreListed}
use Rattle.upward_search.proofs.levels.Levels.listed.Goals as goal

pub listed_nodes-requires : goal.listed_nodes-requires
listed_nodes-requires c = subst (λ (ns : List NodeNo). IsRisingWithin 0 (length ns) c.args.labels.now) (sym (c.as_slice.ensures ∙ ap (λ (h : Ladder). h.nodes) c.self.view_is)) c.requires

pub returns : goal.returns
returns c = subst (λ (ns : List NodeNo). IfOk c.listed_nodes.result (AreListed ns c.args.labels.now)) (c.as_slice.ensures ∙ ap (λ (h : Ladder). h.nodes) c.self.view_is) c.listed_nodes.ensures
