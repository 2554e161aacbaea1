use Rattle.std.proofs.Common.{◌≡◌, ◌+◌, ◌∙◌, sym, replicate}
use Rattle.contraction.proofs.IsWork.{empty_standing, first_here, work_begun}
use Rattle.contraction.proofs.work.Work.begin.Goals as goal

pub put-requires-clause-standing : goal.put-requires-clause-standing
put-requires-clause-standing g c = empty_standing (c.args.graph.now.nodes + 1) c.in_ok-outs.outs.items c.in_ok-ins.ins.items c.in_ok-outs.ensures c.in_ok-ins.ensures

pub put-requires-clause-same : goal.put-requires-clause-same
put-requires-clause-same g c = c.in_ok-ins.ensures.many ∙ sym c.in_ok-outs.ensures.many

pub put-requires-clause-here : goal.put-requires-clause-here
put-requires-clause-here g c = rw c.as_slice.ensures (first_here c.args.graph.now c.nodes.ensures.kept c.in_ok-arcs.arcs _ c.in_ok-arcs.ensures.found c.in_ok-outs.ensures.many)

pub returns-clause-work : goal.returns-clause-work
returns-clause-work g c =
    let n = c.args.graph.now.nodes in
    let ranks = c.in_ok-ranks.ensures.items_if_clones_equal (λ y same. same) in
    let filled : c.in_ok-ranks.ranks.items ≡ replicate (n + 1) n = cc (ranks, c.nodes.ensures.nodes, c.nodes-2.ensures.nodes) in
    work_begun c.args.graph.now c.nodes.ensures.kept _ c.in_ok-arcs.arcs c.in_ok-outs.outs.items c.in_ok-ins.ins.items c.in_ok-arcs.ensures.found filled c.in_ok-outs.ensures c.in_ok-ins.ensures
    (rw c.as_slice.ensures at c.in_ok-put.ensures) c.new.ensures.items c.new-2.ensures.items
