use Rattle.std.proofs.Common.{◌≤◌, ◌∙◌, arith}
use Rattle.ride_base.specs.Outside.{ShelfState, OnlyRead}

-- Laws of shelves.

-- a shelf that was only read, and only read again
pub only_read-trans : {a b c : ShelfState} → OnlyRead a b → OnlyRead b c → OnlyRead a c
only_read-trans {a = a} {b = b} {c = c} first second =
    let below : a.faults ≤ b.faults = first.counted in
    let above : b.faults ≤ c.faults = second.counted in
    record {
      begun = second.begun;
      holds = second.holds ∙ first.holds;
      named = second.named ∙ first.named;
      counted = omega arith;
      sure = λ s. second.sure (first.sure s);
      silent = λ s. second.silent (first.sure s) ∙ first.silent s;
      quiet = second.quiet ∙ first.quiet;
    }
