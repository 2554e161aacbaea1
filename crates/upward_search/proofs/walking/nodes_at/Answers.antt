use Rattle.std.proofs.lemmas.Option.{slice_get-get_or}
use Rattle.upward_search.specs.declared.slope.Label.{Label}
use Rattle.upward_search.proofs.IsBest.{named_more}
use Rattle.upward_search.proofs.walking.nodes_at.Goals as goal

abbrev no_label : Label
no_label = record { place = 0; length = 0 }

pub bounds-nodes-label : goal.bounds-nodes-label
bounds-nodes-label c = c.requires _ (c.loop-label.label-index, slice_get-get_or c.args.line.now c.loop-label.label-index no_label c.loop-label-test.true)

pub loop-label-preserved : goal.loop-label-preserved
loop-label-preserved c =
    rw c.in_ok-push.ensures.items (named_more c.args.nodes.now c.args.line.now c.loop-label.label-index no_label (record { 0 = 0 }) c.loop-label.named.items c.loop-label-test.true
    (c.requires _ (c.loop-label.label-index, slice_get-get_or c.args.line.now c.loop-label.label-index no_label c.loop-label-test.true)) c.loop-label.invariant)
