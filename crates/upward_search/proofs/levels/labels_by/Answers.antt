use Rattle.std.proofs.lemmas.Option.{slice_get-get_or}
use Rattle.upward_search.proofs.levels.labels_by.Goals as goal

pub bounds-places-node : goal.bounds-places-node
bounds-places-node c = c.requires _ (c.loop-node.node-index, slice_get-get_or c.args.listed.now c.loop-node.node-index (record { 0 = 0 }, 0) c.loop-node-test.true)
