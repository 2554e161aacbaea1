use Rattle.std.proofs.Common.{arith, subst, length, List, ◌-◌, get_or, ◌<◌, ◌≡◌}
use Rattle.upward_search.specs.declared.slope.Arc.{Arc}
use Rattle.upward_search.specs.declared.slope.Label.{Label}
use Rattle.upward_search.specs.WaysBack.{LacksArc, IsArcBetween, IsBack}
use Rattle.upward_search.proofs.IsWayBack.{back_on, back_over, way_back_from, back_place}
use Rattle.upward_search.proofs.backing.climb_back.Goals as goal

abbrev no_label : Label
no_label = record { place = 0; length = 0 }

pub row-requires : goal.row-requires
row-requires c =
    let low : c.loop-index.index - 1 < length c.args.space.now = (let t = c.requires.top in let a = c.loop-index.auto.index in let b = c.loop-index-test.true in omega arith) in
    back_place _ c.args.space.now (c.loop-index.index - 1) no_label c.requires.rising low

pub loop-index-preserved-in_default : goal.loop-index-preserved-in_default
loop-index-preserved-in_default c =
    let low : c.loop-index.index - 1 < length c.args.space.now = (let t = c.requires.top in let a = c.loop-index.auto.index in let b = c.loop-index-test.true in omega arith) in
    back_on c.args.slopes.now c.args.space.now (get_or c.args.space.now c.args.top no_label) c.loop-index.index no_label c.loop-index.at c.loop-index.rungs.items c.loop-index.invariant c.loop-index-test.true low
    (subst (λ (arcs : List Arc). LacksArc arcs (get_or c.args.space.now (c.loop-index.index - 1) no_label) c.loop-index.at (length arcs)) c.row.ensures.row c.in_default.ensures)

pub loop-index-preserved : goal.loop-index-preserved
loop-index-preserved c =
    let low : c.loop-index.index - 1 < length c.args.space.now = (let t = c.requires.top in let a = c.loop-index.auto.index in let b = c.loop-index-test.true in omega arith) in
    rw c.in_ok-push.ensures.items (back_over c.args.slopes.now c.args.space.now (get_or c.args.space.now c.args.top no_label) c.loop-index.index no_label c.loop-index.at c.loop-index.rungs.items c.in-Some.arc c.loop-index.invariant c.loop-index-test.true low
    (subst (λ (arcs : List Arc). IsArcBetween arcs (get_or c.args.space.now (c.loop-index.index - 1) no_label) c.loop-index.at c.in-Some.arc) c.row.ensures.row c.in-Some.ensures))

pub returns : goal.returns
returns c = λ start d s.
    let end : c.loop-index.index ≡ 0 = (let o = c.loop-index-test.false in omega arith) in
    way_back_from c.args.slopes.now c.places.ensures.kept c.args.space.now c.args.top no_label c.loop-index.at c.loop-index.rungs.items c.requires.top
    (subst (λ n. IsBack c.args.slopes.now c.args.space.now (get_or c.args.space.now c.args.top no_label) n c.loop-index.at c.loop-index.rungs.items) end c.loop-index.invariant) start d s
