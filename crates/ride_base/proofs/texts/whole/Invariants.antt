use Rattle.std.proofs.Common.{◌≡◌, true, ◌+◌, ◌-◌, ◌≤◌, length}
use Rattle.ride_base.specs.Buffers.{with_read}
use Rattle.ride_base.specs.Outside.{CountStays, OnlyRead}
use Rattle.ride_base.proofs.texts.whole.Given as goal

abbrev pub invariant-loop-text : goal.invariant-loop-text
invariant-loop-text g l =
    let S = g.S.Shelf in
    record {
      shelf : OnlyRead (S.seen l.fn.shelf) (S.seen l.shelf);
      quiet : (S.seen l.fn.shelf).quiet ≡ true → CountStays (S.seen l.fn.shelf) (S.seen l.shelf);
      text : with_read l.text.items (S.seen l.shelf).left ≡ (S.seen l.fn.shelf).left;
      short : length l.text.items ≤ l.limit;
    }

abbrev pub decreases-loop-text : goal.decreases-loop-text
decreases-loop-text g l = l.limit + 1 - length l.text.items
