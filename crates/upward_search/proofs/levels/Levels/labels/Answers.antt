use Rattle.std.proofs.Common.{ap, List, ℕ, length, map}
use Rattle.road_graph.specs.declared.road.NodeNo.{NodeNo}
use Rattle.upward_search.specs.declared.slope.Label.{Label}
use Rattle.upward_search.specs.Climbs.{IsRisingWithin}
use Rattle.upward_search.specs.Ladders.{Ladder}
use Rattle.upward_search.specs.Names.{AreListed, label_by}
use Rattle.upward_search.proofs.AreListed.{listed_inside, labels_are, labels_made}
use Rattle.upward_search.proofs.levels.Levels.labels.Goals as goal

pub labels_by-requires : goal.labels_by-requires
labels_by-requires c = listed_inside c.args.self.now c.self.inside.nodes c.self.inside.places c.as_slice.result.now c.as_slice.ensures (ap (λ (h : Ladder). h.nodes) c.self.view_is) c.self.invariant.1 c.args.listed.now c.requires

pub returns-clause-rise : goal.returns-clause-rise
returns-clause-rise c =
    labels_made c.requires.labels (map (λ (n : NodeNo × ℕ). label_by c.as_slice.result.now n) c.args.listed.now)
    (labels_are c.args.self.now c.self.inside.nodes c.self.inside.places c.as_slice.result.now c.as_slice.ensures (ap (λ (h : Ladder). h.nodes) c.self.view_is) c.self.invariant.1 c.args.listed.now c.requires)
    (IsRisingWithin 0 (length c.args.self.now.nodes)) c.requires.rise c.labels_by.result c.labels_by.ensures

pub returns-clause-are : goal.returns-clause-are
returns-clause-are c =
    labels_made c.requires.labels (map (λ (n : NodeNo × ℕ). label_by c.as_slice.result.now n) c.args.listed.now)
    (labels_are c.args.self.now c.self.inside.nodes c.self.inside.places c.as_slice.result.now c.as_slice.ensures (ap (λ (h : Ladder). h.nodes) c.self.view_is) c.self.invariant.1 c.args.listed.now c.requires)
    (λ (ls : List Label). AreListed c.args.self.now.nodes ls c.args.listed.now) c.requires.are c.labels_by.result c.labels_by.ensures
