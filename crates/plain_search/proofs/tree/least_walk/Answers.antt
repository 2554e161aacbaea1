use Rattle.std.proofs.Common.{arith, ap, ◌∙◌, subst, sym}
use Rattle.plain_search.specs.declared.reached.Way.{Way}
use Rattle.plain_search.specs.Searching.{faced, IsSearchOf, AllOfferedIn, listed_roads}
use Rattle.plain_search.proofs.IsReach.{reached_so_far, walk_or_none, walk_reads_all}
use Rattle.plain_search.proofs.ListedRoads.{none_listed}
use Rattle.plain_search.proofs.tree.least_walk.Goals as goal

pub settle_until-requires-clause-search : goal.settle_until-requires-clause-search
settle_until-requires-clause-search g c = rw c.in_ok-search.ensures.asked.0 c.in_ok-search.ensures.begun

pub settle_until-requires-clause-offered : goal.settle_until-requires-clause-offered
settle_until-requires-clause-offered g c = rw c.in_ok-search.ensures.asked.0 c.in_ok-search.ensures.offered

pub walk_back-requires : goal.walk_back-requires
walk_back-requires g c =
    let s = c.settle_until.new.self in
    let e = c.in_ok-settle_until.ensures in
    reached_so_far c.args.graph.now s c.of.result c.of.ensures (subst (λ (w : Way). IsSearchOf (faced w c.args.graph.now) s) (sym e.same.way) e.search)

pub returns-clause-walk : goal.returns-clause-walk
returns-clause-walk g c =
    let s = c.settle_until.new.self in
    let e = c.in_ok-settle_until.ensures in
    let asked = c.in_ok-search.ensures.asked in
    walk_or_none c.args.graph.now s c.args.from c.args.to c.of.result c.of.ensures
    (subst (λ (w : Way). IsSearchOf (faced w c.args.graph.now) s) (sym e.same.way) e.search)
    (subst (λ (w : Way). AllOfferedIn (faced w c.args.graph.now) s) (sym e.same.way) e.offered)
    (e.same.way ∙ asked.0) (e.same.start ∙ asked.1) (e.same.radius ∙ asked.2) e.ends _ c.walk_back-2.ensures.walk

pub returns-clause-steps : goal.returns-clause-steps
returns-clause-steps x c =
    let s = c.settle_until.new.self in
    let g = c.args.graph.now in
    let e = c.in_ok-settle_until.ensures in
    let asked = c.in_ok-search.ensures.asked in
    let before = none_listed c.in_ok-search.search.way g c.in_ok-search.search c.in_ok-search.ensures.empty in
    let after = ap (λ (w : Way). listed_roads w g s) asked.0 in
    let counted = e.steps in
    walk_reads_all g s c.args.to (subst (λ (w : Way). IsSearchOf (faced w g) s) (sym e.same.way) e.search) (e.same.way ∙ asked.0) (e.same.start ∙ asked.1) (e.same.radius ∙ asked.2)
    c.walk_back-2.result c.args.steps.now.0 c.settle_until.new.steps.0 c.walk_back-2.new.steps.0 (omega arith) c.walk_back-2.ensures.steps
