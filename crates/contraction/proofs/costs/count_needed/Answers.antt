use Rattle.std.proofs.Common.{◌∙◌, ◌<◌, ap, sym, arith, length}
use Rattle.contraction.specs.declared.rows.End.TheVariants.{From, To}
use Rattle.contraction.proofs.AreStanding.{here_same, here_at, row_read, sound_row}
use Rattle.contraction.proofs.costs.count_needed.Goals as goal

pub count_from-requires-clause-down : goal.count_from-requires-clause-down
count_from-requires-clause-down c =
    let rows = c.args.work.now.ins.items in
    let lt : c.args.node.0 < length rows = let n = c.requires.node in let m = c.requires.rows.many_ins in omega arith in
    let is = c.as_slice-down-items.ensures ∙ row_read rows c.args.node c.index.result.now lt c.index.ensures in
    here_at c.as_slice-down-items.result.now c.loop-down.down-index c.loop-down-test.true
    (here_same c.as_slice-down-items.result.now (c.requires.rows.many_ins ∙ ap length (sym c.as_slice-rows.ensures.value)) (sound_row To rows c.args.node c.as_slice-down-items.result.now c.requires.rows.ins is))

pub count_from-requires-clause-ups : goal.count_from-requires-clause-ups
count_from-requires-clause-ups c =
    let rows = c.as_slice-rows.result.now in
    let lt : c.args.node.0 < length rows = let n = c.requires.node in let e = ap length c.as_slice-rows.ensures.value in omega arith in
    sound_row From rows c.args.node c.as_slice-outs.result.now (rw c.as_slice-rows.ensures.value c.requires.rows.outs) (c.as_slice-outs.ensures ∙ row_read rows c.args.node c.index-rows-place.result lt c.index-rows-place.is)

pub count_from-requires-clause-sound : goal.count_from-requires-clause-sound
count_from-requires-clause-sound c = rw c.as_slice-rows.ensures.value c.requires.rows.outs
