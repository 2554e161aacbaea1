use Rattle.std.proofs.Common.{◌∙◌, ◌+◌, [], ap, sym, length, length-set, arith}
use Rattle.contraction.specs.Rows.{Stands}
use Rattle.contraction.proofs.AreStanding.{here_same}
use Rattle.contraction.proofs.IsWork.{set_rank, out_row_here, in_row_here, work_cleared, bridges_here, work_step}
use Rattle.contraction.proofs.work.Work.remove.Goals as goal

pub detach-requires : goal.detach-requires
detach-requires c =
    here_same c.as_slice.result.now (sym (ap length c.take_row-outs.ensures.rest ∙ length-set c.args.self.now.outs.items c.args.node.0 [] ∙ c.requires.work.many_outs))
    (in_row_here c.args.graph.now c.args.self.now c.args.rank c.requires.work c.args.node c.as_slice.result.now (c.as_slice.ensures ∙ c.take_row-ins.ensures.row))

pub detach-requires-2 : goal.detach-requires-2
detach-requires-2 c =
    here_same c.as_slice-2.result.now (sym (ap length c.take_row-ins.ensures.rest ∙ length-set c.args.self.now.ins.items c.args.node.0 [] ∙ c.requires.work.many_ins))
    (out_row_here c.args.graph.now c.args.self.now c.args.rank c.requires.work c.args.node c.as_slice-2.result.now (c.as_slice-2.ensures ∙ c.take_row-outs.ensures.row))

pub bridges-requires-clause-ins : goal.bridges-requires-clause-ins
bridges-requires-clause-ins c =
    let w = work_cleared c.args.graph.now c.args.self.now c.args.rank c.args.node c.take_row-outs.result c.take_row-ins.result c.detach.new.rows.items c.detach-2.new.rows.items c.requires.work c.requires.node c.take_row-outs.ensures.row c.take_row-ins.ensures.row
    (rw (c.as_slice.ensures, c.take_row-outs.ensures.rest) at c.detach.ensures) (rw (c.as_slice-2.ensures, c.take_row-ins.ensures.rest) at c.detach-2.ensures) in
    here_same c.as_slice-3.result.now (sym (ap length c.as_slice-5.ensures.value ∙ w.many_outs))
    (in_row_here c.args.graph.now c.args.self.now c.args.rank c.requires.work c.args.node c.as_slice-3.result.now (c.as_slice-3.ensures ∙ c.take_row-ins.ensures.row))

pub bridges-requires-clause-outs : goal.bridges-requires-clause-outs
bridges-requires-clause-outs c =
    let w = work_cleared c.args.graph.now c.args.self.now c.args.rank c.args.node c.take_row-outs.result c.take_row-ins.result c.detach.new.rows.items c.detach-2.new.rows.items c.requires.work c.requires.node c.take_row-outs.ensures.row c.take_row-ins.ensures.row
    (rw (c.as_slice.ensures, c.take_row-outs.ensures.rest) at c.detach.ensures) (rw (c.as_slice-2.ensures, c.take_row-ins.ensures.rest) at c.detach-2.ensures) in
    here_same c.as_slice-4.result.now (sym (ap length c.as_slice-5.ensures.value ∙ w.many_outs))
    (out_row_here c.args.graph.now c.args.self.now c.args.rank c.requires.work c.args.node c.as_slice-4.result.now (c.as_slice-4.ensures ∙ c.take_row-outs.ensures.row))

pub bridges-requires-clause-sound : goal.bridges-requires-clause-sound
bridges-requires-clause-sound c =
    let w = work_cleared c.args.graph.now c.args.self.now c.args.rank c.args.node c.take_row-outs.result c.take_row-ins.result c.detach.new.rows.items c.detach-2.new.rows.items c.requires.work c.requires.node c.take_row-outs.ensures.row c.take_row-ins.ensures.row
    (rw (c.as_slice.ensures, c.take_row-outs.ensures.rest) at c.detach.ensures) (rw (c.as_slice-2.ensures, c.take_row-ins.ensures.rest) at c.detach-2.ensures) in
    rw c.as_slice-5.ensures.value w.sound

pub put-requires-clause-standing : goal.put-requires-clause-standing
put-requires-clause-standing c =
    let w = work_cleared c.args.graph.now c.args.self.now c.args.rank c.args.node c.take_row-outs.result c.take_row-ins.result c.detach.new.rows.items c.detach-2.new.rows.items c.requires.work c.requires.node c.take_row-outs.ensures.row c.take_row-ins.ensures.row
    (rw (c.as_slice.ensures, c.take_row-outs.ensures.rest) at c.detach.ensures) (rw (c.as_slice-2.ensures, c.take_row-ins.ensures.rest) at c.detach-2.ensures) in
    w.standing

pub put-requires-clause-here : goal.put-requires-clause-here
put-requires-clause-here c =
    let w = work_cleared c.args.graph.now c.args.self.now c.args.rank c.args.node c.take_row-outs.result c.take_row-ins.result c.detach.new.rows.items c.detach-2.new.rows.items c.requires.work c.requires.node c.take_row-outs.ensures.row c.take_row-ins.ensures.row
    (rw (c.as_slice.ensures, c.take_row-outs.ensures.rest) at c.detach.ensures) (rw (c.as_slice-2.ensures, c.take_row-ins.ensures.rest) at c.detach-2.ensures) in
    here_same c.as_slice-6.result.now (sym w.many_outs)
    (bridges_here (c.args.graph.now.nodes + 1) c.args.node c.as_slice-3.result.now c.as_slice-4.result.now c.as_slice-6.result.now (Stands c.as_slice-5.result.now)
    (in_row_here c.args.graph.now c.args.self.now c.args.rank c.requires.work c.args.node c.as_slice-3.result.now (c.as_slice-3.ensures ∙ c.take_row-ins.ensures.row))
    (out_row_here c.args.graph.now c.args.self.now c.args.rank c.requires.work c.args.node c.as_slice-4.result.now (c.as_slice-4.ensures ∙ c.take_row-outs.ensures.row))
    (rw c.as_slice-6.ensures c.in_ok-found.ensures.found))

pub returns-clause-work : goal.returns-clause-work
returns-clause-work c =
    let w = c.args.self.now in
    work_step c.args.graph.now w _ c.args.rank c.args.node c.detach.new.rows.items c.detach-2.new.rows.items c.take_row-outs.result c.take_row-ins.result c.in_ok-found.found
    c.requires.work c.requires.node c.requires.left c.requires.room
    (set_rank w.ranks.items c.args.node c.args.rank (let m = c.requires.work.state.many in let n = c.requires.node.1 in omega arith))
    c.take_row-outs.ensures.row c.take_row-ins.ensures.row
    (rw (c.as_slice.ensures, c.take_row-outs.ensures.rest) at c.detach.ensures) (rw (c.as_slice-2.ensures, c.take_row-ins.ensures.rest) at c.detach-2.ensures)
    (rw (c.as_slice-3.ensures, c.as_slice-4.ensures, c.as_slice-5.ensures.value) at c.in_ok-found.ensures.found)
    (rw c.as_slice-6.ensures at c.in_ok-put.ensures)
    (cc (c.in_ok-extend_from_slice.ensures.items, c.as_slice-7.ensures))
    (cc (c.in_ok-extend_from_slice-2.ensures.items, c.as_slice-8.ensures))
