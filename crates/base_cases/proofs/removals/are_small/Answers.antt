use Rattle.std.proofs.Common.{◌≡◌, ◌∙◌, slice_get, Some, subst, arith, below_more, rules}
use Rattle.std.proofs.lemmas.Option.{get_or_from_slice_get, slice_get_within}
use Rattle.stop_schedule.specs.Bounds.{IsSmallStop}
use Rattle.stop_schedule.specs.declared.stop.Stop.{Stop}
use Rattle.base_cases.proofs.removals.are_small.Goals as goal

pub loop-stop-preserved : goal.loop-stop-preserved
loop-stop-preserved c =
    let stops = c.args.stops.now in
    let i = c.loop-stop.stop-index in
    below_more (λ k. (s : Stop) → slice_get stops k ≡ Some s → IsSmallStop s) i c.loop-stop.invariant
    (λ s e. subst IsSmallStop (get_or_from_slice_get stops i s _ e) (c.is_small.ensures (search rules)))

pub returns : goal.returns
returns c = λ _ k s e. c.loop-stop.invariant k (let l = slice_get_within c.args.stops.now k s e in let f = c.loop-stop-test.false in omega (arith, l, f)) s e
