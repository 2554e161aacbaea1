use Rattle.std.proofs.Common.{arith, ◌+◌, ◌-◌, ◌/◌}
use Rattle.upward_search.proofs.HasPlaceAt.{between_above, between_below}
use Rattle.upward_search.proofs.finding.find.Goals as goal

pub halving-preserved-then-here-place-2 : goal.halving-preserved-then-here-place-2
halving-preserved-then-here-place-2 c =
    let h = c.halving-test.true in
    let w = c.halving.invariant.within in
    between_above c.args.space.now c.args.place c.halving.low c.halving.high (c.halving.low + (c.halving.high - c.halving.low) / 2) (record { place = 0; length = 0 }) c.requires c.halving.invariant (omega arith) c.if-here-place-2.true

pub halving-preserved : goal.halving-preserved
halving-preserved c =
    let h = c.halving-test.true in
    between_below c.args.space.now c.args.place c.halving.low c.halving.high (c.halving.low + (c.halving.high - c.halving.low) / 2) (record { place = 0; length = 0 }) c.requires c.halving.invariant (omega arith) (let a = c.if-here-place.false in let b = c.if-here-place-2.false in omega arith)
