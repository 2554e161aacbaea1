use Rattle.std.proofs.Common.{◌≡◌, ◌∙◌, ◌<◌, ◌^◌, slice_get, Some, subst, arith, below_more}
use Rattle.std.proofs.lemmas.Option.{get_or_from_slice_get, slice_get_within}
use Rattle.road_graph.specs.Paths.{Path, length_of}
use Rattle.base_cases.proofs.schedules.are_short.Goals as goal

pub loop-walk-preserved : goal.loop-walk-preserved
loop-walk-preserved c =
    let walks = c.args.walks.now in
    let i = c.loop-walk.walk-index in
    let is : length_of c.walk-item.result < 2 ^ 53 = let l = c.length.ensures.length in let f = c.if-length.false in omega (arith, l, f) in
    below_more (λ k. (w : Path) → slice_get walks k ≡ Some w → length_of w < 2 ^ 53) i c.loop-walk.invariant
    (λ w e. subst (λ (x : Path). length_of x < 2 ^ 53) (c.walk-item.is ∙ get_or_from_slice_get walks i w c.walk-item.result e) is)

pub returns : goal.returns
returns c = λ _ k w e. c.loop-walk.invariant k (let l = slice_get_within c.args.walks.now k w e in let f = c.loop-walk-test.false in omega (arith, l, f)) w e
