use Rattle.std.proofs.Common.{◌∙◌, ◌<◌, sym, arith, length}
use Rattle.contraction.specs.declared.rows.End.TheVariants.{From, To}
use Rattle.contraction.proofs.AreStanding.{here_same, row_read, sound_row}
use Rattle.contraction.proofs.costs.Depths.deepen.Goals as goal

pub raise-requires : goal.raise-requires
raise-requires c =
    let rows = c.args.work.now.outs.items in
    let lt : c.args.node.0 < length rows = let n = c.requires.node in let m = c.requires.rows.many_outs in omega arith in
    here_same c.as_slice.result.now c.requires.rows.many_outs (sound_row From rows c.args.node c.as_slice.result.now c.requires.rows.outs (c.as_slice.ensures ∙ row_read rows c.args.node c.index-2.result.now lt c.index-2.ensures))

pub raise-requires-2 : goal.raise-requires-2
raise-requires-2 c =
    let rows = c.args.work.now.ins.items in
    let lt : c.args.node.0 < length rows = let n = c.requires.node in let m = c.requires.rows.many_ins in omega arith in
    here_same c.as_slice-2.result.now (c.requires.rows.many_ins ∙ sym c.raise.ensures) (sound_row To rows c.args.node c.as_slice-2.result.now c.requires.rows.ins (c.as_slice-2.ensures ∙ row_read rows c.args.node c.index-3.result.now lt c.index-3.ensures))
