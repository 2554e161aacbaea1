use Rattle.upward_search.specs.declared.slope.Label.{Label}
use Rattle.upward_search.proofs.IsWayBack.{back_place}
use Rattle.upward_search.proofs.AreListed.{listed_more}
use Rattle.upward_search.proofs.levels.listed_nodes.Goals as goal

abbrev no_label : Label
no_label = record { place = 0; length = 0 }

pub bounds-nodes-label : goal.bounds-nodes-label
bounds-nodes-label c = back_place _ c.args.labels.now c.loop-label.label-index no_label c.requires c.loop-label-test.true

pub loop-label-preserved : goal.loop-label-preserved
loop-label-preserved c =
    rw c.in_ok-push.ensures.ok (listed_more c.args.nodes.now c.args.labels.now c.loop-label.label-index no_label (record { 0 = 0 }) c.loop-label.listed c.loop-label-test.true (back_place _ c.args.labels.now c.loop-label.label-index no_label c.requires c.loop-label-test.true) c.loop-label.invariant)
