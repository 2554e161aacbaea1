use Rattle.std.proofs.Common.{◌≡◌, ◌≤◌, ◌<◌, ◌-◌, ◌^◌, min, drop, length}
use Rattle.ride_base.specs.Digits.{value_after, are_digits}
use Rattle.ride_base.proofs.fields.capped_number.Given as goal

abbrev pub invariant-loop-byte : goal.invariant-loop-byte
invariant-loop-byte l = record {
  some : 0 < length l.bytes;
  small : l.value ≤ 2 ^ 64 - 1;
  value : min (value_after l.value (drop l.byte-index l.bytes)) (2 ^ 64 - 1) ≡ min (value_after 0 l.bytes) (2 ^ 64 - 1);
  digits : are_digits (drop l.byte-index l.bytes) ≡ are_digits l.bytes;
}
