use Rattle.std.proofs.Common.{arith, ap, sym, subst, length, List}
use Rattle.upward_search.specs.declared.slope.Label.{Label}
use Rattle.upward_search.specs.Climbs.{IsRisingWithin}
use Rattle.upward_search.specs.Names.{AreListed}
use Rattle.upward_search.specs.Hierarchies.{Ranking}
use Rattle.upward_search.specs.Spaces.{IsForwardSpace, climbing_arcs}
use Rattle.upward_search.proofs.Distance.{named}
use Rattle.upward_search.proofs.ArcsOut.{climbing_work}
use Rattle.upward_search.proofs.IsSearch.{on_err, one_work}
use Rattle.upward_search.proofs.ForwardSpace.{forward_is, forward_labels}
use Rattle.upward_search.proofs.hierarchy.Hierarchy.forward_space.Goals as goal

pub place-place-requires : goal.place-place-requires
place-place-requires g c = named c.self.inside.levels c.args.self.now c.self.view_is c.laws.ensures.places c.args.node c.requires

pub listed-requires : goal.listed-requires
listed-requires g c = subst (λ (ls : List Label). IsRisingWithin 0 (length c.self.inside.levels.nodes) ls) (sym c.as_slice.ensures) (subst (λ n. IsRisingWithin 0 n c.in_ok-labels.labels) c.laws.ensures.ladder.climbs_many c.in_ok-labels.ensures.space.rising)

pub returns-clause-space : goal.returns-clause-space
returns-clause-space g c =
    let l = c.self.inside.levels in
    subst (λ (h : Ranking). IsForwardSpace h c.args.node c.in_ok-listed.listed) c.self.view_is
    (forward_is l c.laws.ensures.ladder c.laws.ensures.apart c.laws.ensures.places c.place-place.result c.args.node c.place-place.ensures.at c.in_ok-labels.labels c.in_ok-labels.ensures.space c.in_ok-listed.listed (subst (λ (ls : List Label). AreListed l.nodes ls c.in_ok-listed.listed) c.as_slice.ensures c.in_ok-listed.ensures))

pub returns-clause-steps : goal.returns-clause-steps
returns-clause-steps g c =
    let l = c.self.inside.levels in
    let one = c.in_ok-labels.ensures.steps in
    let two = climbing_work l c.laws.ensures.apart c.laws.ensures.ladder.climbs_many c.in_ok-labels.labels c.in_ok-listed.listed (subst (λ (ls : List Label). AreListed l.nodes ls c.in_ok-listed.listed) c.as_slice.ensures c.in_ok-listed.ensures) in
    let same = ap (λ (h : Ranking). climbing_arcs h c.in_ok-listed.listed) c.self.view_is in
    omega arith

pub returns-in_err-labels-clause-spent : goal.returns-in_err-labels-clause-spent
returns-in_err-labels-clause-spent g c =
    on_err c.from_residual.result _ (λ space f.
    let b = forward_labels c.self.inside.levels c.laws.ensures.ladder c.laws.ensures.apart c.laws.ensures.places c.place-place.result c.args.node c.place-place.ensures.at space (subst (λ (h : Ranking). IsForwardSpace h c.args.node space) (sym c.self.view_is) f) in
    let s = c.in_err-labels.ensures.spent b.0 b.1 in
    let e = b.2 in
    let same = ap (λ (h : Ranking). climbing_arcs h space) c.self.view_is in
    omega arith)

pub returns-in_err-listed-clause-spent : goal.returns-in_err-listed-clause-spent
returns-in_err-listed-clause-spent g c =
    on_err c.from_residual-in_err-listed.result _ (λ space f.
    let b = forward_labels c.self.inside.levels c.laws.ensures.ladder c.laws.ensures.apart c.laws.ensures.places c.place-place.result c.args.node c.place-place.ensures.at space (subst (λ (h : Ranking). IsForwardSpace h c.args.node space) (sym c.self.view_is) f) in
    let s = c.in_ok-labels.ensures.steps in
    let w = one_work c.self.inside.levels.climbs c.place-place.result c.in_ok-labels.labels b.0 c.in_ok-labels.ensures.space b.1 in
    let e = b.2 in
    let same = ap (λ (h : Ranking). climbing_arcs h space) c.self.view_is in
    omega arith)
