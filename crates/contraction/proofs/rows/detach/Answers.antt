use Rattle.std.proofs.Common.{◌∙◌, ◌+◌, [], List, ap, sym, subst, length, take, arith, length-set}
use Rattle.std.specs.List.{filter}
use Rattle.upward_search.specs.declared.arc.RankArc.{RankArc}
use Rattle.contraction.specs.Rows.{leads_elsewhere, AreDetached}
use Rattle.contraction.proofs.AreStanding.{detached_none, detached_step, near_within, row_back}
use Rattle.contraction.proofs.rows.detach.Goals as goal

pub loop-arc-init : goal.loop-arc-init
loop-arc-init c = detached_none c.args.end c.args.node c.args.rows.now.items

pub take_row-row-requires : goal.take_row-row-requires
take_row-row-requires c = near_within c.args.end c.args.arcs.now c.loop-arc.arc-index (length c.args.rows.now.items) c.loop-arc.rows.items c.near-place.result c.loop-arc-test.true c.requires c.loop-arc.invariant.many c.near-place.ensures

pub index_mut-requires : goal.index_mut-requires
index_mut-requires c =
    let in' = near_within c.args.end c.args.arcs.now c.loop-arc.arc-index (length c.args.rows.now.items) c.loop-arc.rows.items c.near-place.result c.loop-arc-test.true c.requires c.loop-arc.invariant.many c.near-place.ensures in
    let l = ap length c.take_row-row.ensures.rest in
    omega (arith, length-set c.loop-arc.rows.items c.near-place.result.0 [])

pub loop-arc-preserved : goal.loop-arc-preserved
loop-arc-preserved c =
    let rows = c.loop-arc.rows.items in
    let p = c.near-place.result in
    let in' = near_within c.args.end c.args.arcs.now c.loop-arc.arc-index (length c.args.rows.now.items) rows p c.loop-arc-test.true c.requires c.loop-arc.invariant.many c.near-place.ensures in
    subst (λ (rs : List (List RankArc)). AreDetached c.args.end c.args.node (take (c.loop-arc.arc-index + 1) c.args.arcs.now) c.args.rows.now.items rs)
    (sym (row_back rows c.take_row-row.new.rows.items p.0 c.without.result c.take_row-row.ensures.rest))
    (detached_step c.args.end c.args.node c.args.arcs.now c.loop-arc.arc-index c.args.rows.now.items rows p c.without.result
    c.loop-arc-test.true c.loop-arc.invariant c.near-place.ensures in' (c.without.ensures ∙ ap (filter (leads_elsewhere c.args.end c.args.node)) c.take_row-row.ensures.row))
