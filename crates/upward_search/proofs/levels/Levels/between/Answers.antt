use Rattle.std.proofs.Common.{arith, ap, sym, subst, refl, List}
use Rattle.upward_search.specs.declared.slope.Arc.{Arc}
use Rattle.upward_search.specs.Climbs.{IsSpace, work}
use Rattle.upward_search.specs.declared.way.Way.{Way}
use Rattle.upward_search.specs.Ladders.{climbs_by, faced}
use Rattle.upward_search.proofs.IsSearch.{on_err, one_work}
use Rattle.upward_search.proofs.LadderFits.{between_least, two_works, short_in}
use Rattle.upward_search.proofs.levels.Levels.between.Goals as goal

pub least_sum-requires-clause-short : goal.least_sum-requires-clause-short
least_sum-requires-clause-short g c = short_in (climbs_by c.args.way c.args.self.now) c.args.from c.in_ok-left.left c.as_slice.result.now c.in_ok-left.ensures.space c.as_slice.ensures

pub least_sum-requires-clause-low : goal.least_sum-requires-clause-low
least_sum-requires-clause-low g c = short_in (climbs_by c.turned.result c.args.self.now) c.args.to c.in_ok-right.right c.as_slice-2.result.now c.in_ok-right.ensures.space c.as_slice-2.ensures

pub returns-clause-least : goal.returns-clause-least
returns-clause-least g c =
    between_least (faced c.args.way c.args.self.now) (climbs_by c.args.way c.args.self.now) (climbs_by c.turned.result c.args.self.now) refl (ap (λ (way : Way). climbs_by way c.args.self.now) c.turned.ensures)
    c.args.from c.args.to c.in_ok-left.left c.in_ok-right.right c.in_ok-left.ensures.space c.in_ok-right.ensures.space c.as_slice.result.now c.as_slice-2.result.now c.as_slice.ensures c.as_slice-2.ensures c.least_sum.result c.least_sum.ensures

pub returns-clause-steps : goal.returns-clause-steps
returns-clause-steps g c = λ left right a b.
    let sum = two_works (faced c.args.way c.args.self.now) (climbs_by c.args.way c.args.self.now) (climbs_by c.turned.result c.args.self.now) refl (ap (λ (way : Way). climbs_by way c.args.self.now) c.turned.ensures)
    c.args.from c.args.to c.in_ok-left.left c.in_ok-right.right c.in_ok-left.ensures.space c.in_ok-right.ensures.space left right a b in
    let one = c.in_ok-left.ensures.steps in
    let two = c.in_ok-right.ensures.steps in
    omega arith

pub returns-in_err-right-clause-spent : goal.returns-in_err-right-clause-spent
returns-in_err-right-clause-spent g c =
    on_err c.from_residual-in_err-right.result _ (λ left right a b.
    let first = one_work (climbs_by c.args.way c.args.self.now) c.args.from c.in_ok-left.left left c.in_ok-left.ensures.space a in
    let falls = sym (ap (λ (way : Way). climbs_by way c.args.self.now) c.turned.ensures) in
    let last = c.in_err-right.ensures.spent right (subst (λ (rows : List (List Arc)). IsSpace rows c.args.to right) falls b) in
    let same = ap (λ (rows : List (List Arc)). work rows right) falls in
    let one = c.in_ok-left.ensures.steps in
    omega arith)
