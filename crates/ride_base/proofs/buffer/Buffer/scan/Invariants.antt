use Rattle.std.proofs.Common.{◌≡◌, true, ◌+◌, ◌-◌, ◌≤◌, length, position}
use Rattle.std.specs.Prelude.{IsSome}
use Rattle.ride_base.specs.Buffers.{with_read, IsWithinARead}
use Rattle.ride_base.specs.Outside.{CountStays, OnlyRead}
use Rattle.ride_base.specs.Pieces.{is_line_end}
use Rattle.ride_base.specs.Reader.{most_held}
use Rattle.ride_base.proofs.buffer.Buffer.scan.Given as goal

abbrev pub invariant-loop-at : goal.invariant-loop-at
invariant-loop-at g l =
    let S = g.S.Shelf in
    record {
      shelf : OnlyRead (S.seen l.fn.shelf) (S.seen l.shelf);
      unread : with_read l.self (S.seen l.shelf).left ≡ with_read l.fn.self (S.seen l.fn.shelf).left;
      held : length l.self ≤ most_held;
      quiet : (S.seen l.fn.shelf).quiet ≡ true → CountStays (S.seen l.fn.shelf) (S.seen l.shelf);
      near : IsWithinARead l.most l.fn.self (S.seen l.fn.shelf).left (S.seen l.shelf).left;
      holds : IsSome (position is_line_end l.fn.self) → record { shelf : l.shelf ≡ l.fn.shelf; bytes : l.self ≡ l.fn.self };
    }

abbrev pub decreases-loop-at : goal.decreases-loop-at
decreases-loop-at g l = l.most + 1 - length l.self
