use Rattle.std.proofs.Common.{arith, ◌∙◌}
use Rattle.ride_base.proofs.NumberOf.{passes}
use Rattle.ride_base.proofs.digits.number.Goals as goal

pub returns-in_err-checked_mul : goal.returns-in_err-checked_mul
returns-in_err-checked_mul c = c.from_residual.ensures ∙ passes c.args.bytes.now c.args.limit c.loop-b.value c.loop-b.b-index c.loop-b-test.true c.loop-b.invariant.value (omega (arith, c.in_err-checked_mul.ensures))

pub returns-in_err-value : goal.returns-in_err-value
returns-in_err-value c = c.from_residual-in_err-value.ensures ∙ passes c.args.bytes.now c.args.limit c.loop-b.value c.loop-b.b-index c.loop-b-test.true c.loop-b.invariant.value (omega (arith, c.in_ok-checked_mul.ensures, c.in_err-value.ensures))

pub returns-then-value-limit : goal.returns-then-value-limit
returns-then-value-limit c = passes c.args.bytes.now c.args.limit c.loop-b.value c.loop-b.b-index c.loop-b-test.true c.loop-b.invariant.value (omega (arith, c.in_ok-checked_mul.ensures, c.in_ok-value.ensures))
