use Rattle.std.proofs.Common.{◌∙◌, ◌++◌, ◌∷◌, [], ◌<◌, length, List, ap, sym, subst}
use Rattle.std.specs.List.{filter}
use Rattle.road_graph.specs.declared.road.NodeNo.{NodeNo}
use Rattle.upward_search.specs.declared.arc.RankArc.{RankArc}
use Rattle.contraction.specs.Rows.{is_beside, IsAttached}
use Rattle.contraction.proofs.AreStanding.{attached, row_back}
use Rattle.contraction.proofs.rows.attach.Goals as goal

pub returns : goal.returns
returns c =
    let p = c.near-place.result in
    subst (λ (rs : List (List RankArc)). IsAttached c.args.end c.args.arc c.args.rows.now.items rs)
    (sym (row_back c.args.rows.now.items c.take_row.new.rows.items p.0 c.push.new.self c.take_row.ensures.rest))
    (attached c.args.end c.args.arc c.args.rows.now.items p c.push.new.self c.near-place.ensures (subst (λ (n : NodeNo). n.0 < length c.args.rows.now.items) (sym c.near-place.ensures) c.requires)
    (c.in_ok-push.ensures.ok ∙ ap (λ (r : List RankArc). r ++ c.args.arc ∷ []) (c.kept_beside-row.ensures ∙ ap (filter (is_beside c.args.arc)) c.take_row.ensures.row)))
