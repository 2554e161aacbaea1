use Rattle.std.proofs.Common.{ap, ap₂, sym, ◌∙◌, ◌+◌, ℕ, length}
use Rattle.upward_search.specs.Hierarchies.{Ranking, climbing_arc, falling_arc}
use Rattle.upward_search.proofs.RankingOf.{length-arcs_by}
use Rattle.upward_search.proofs.hierarchy.Hierarchy.arcs.Goals as goal

pub returns : goal.returns
returns c =
    let l = c.self.inside.levels in
    c.arcs.ensures
    ∙ ap₂ (λ (x y : ℕ). x + y) (sym (length-arcs_by (climbing_arc l.nodes) 0 l.climbs)) (sym (length-arcs_by (falling_arc l.nodes) 0 l.falls))
    ∙ ap (λ (h : Ranking). length h.climbing + length h.falling) c.self.view_is
