use Rattle.std.proofs.Common.{◌≡◌, ◌<◌, drop, length}
use Rattle.std.specs.Prelude.{IfSome, slice_get}
use Rattle.ride_base.specs.Stored.{held_after, holds_at, held_in, name_of}
use Rattle.ride_base.proofs.memory.last_of.Given as goal

abbrev pub invariant-loop-i : goal.invariant-loop-i
invariant-loop-i l = record {
  text : held_after (holds_at l.texts l.last) (drop l.i l.texts) l.name ≡ held_in l.texts l.name;
  named : IfSome l.last (λ k. name_of (slice_get l.texts k) ≡ l.name);
  within : IfSome l.last (λ k. k < length l.texts);
}
