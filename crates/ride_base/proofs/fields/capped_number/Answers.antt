use Rattle.std.proofs.Common.{rules, sym, ◌∙◌, arith, ◌-◌, ◌^◌}
use Rattle.std.proofs.lemmas.List.{drop_all}
use Rattle.ride_base.proofs.CappedNumber.{one_more, capped_is, digits_more}
use Rattle.ride_base.proofs.fields.capped_number.Goals as goal

pub loop-byte-preserved : goal.loop-byte-preserved
loop-byte-preserved c = record {
  some = search rules;
  small = search rules;
  value = one_more c.args.bytes.now c.loop-byte.value c.saturating_add-value.result c.loop-byte.byte-index (2 ^ 64 - 1) c.loop-byte-test.true c.loop-byte.invariant.value (let m = c.saturating_mul.ensures in let a = c.saturating_add-value.ensures in let d = c.from-digit.ensures in grind arith);
  digits = digits_more c.args.bytes.now c.loop-byte.byte-index c.loop-byte-test.true (sym c.is_ascii_digit.ensures.value ∙ c.if-not-is_ascii_digit.false) c.loop-byte.invariant.digits;
}

pub returns : goal.returns
returns c = capped_is c.args.bytes.now c.loop-byte.value c.loop-byte.byte-index (drop_all c.loop-byte.byte-index c.args.bytes.now c.loop-byte-test.false) c.loop-byte.invariant.some c.loop-byte.invariant.value c.loop-byte.invariant.digits c.loop-byte.invariant.small
