use Rattle.std.proofs.Common.{◌≡◌, ◌≤◌, length, true, Ok}
use Rattle.ride_base.specs.Outside.{CountStays, OnlyRead}
use Rattle.ride_base.specs.Reader.{most_held}
use Rattle.journal_text.specs.Readers.{held_at, StaysAhead, LeavesBehind, FillsAtEnd, IsDraftHeld, bytes_left}
use Rattle.journal_text.proofs.reader.Held.read.Given as goal

abbrev pub invariant-lines : goal.invariant-lines
invariant-lines g l =
    let S = g.S.Shelf in
    record {
      drafted : IsDraftHeld l.self;
      stays : StaysAhead (held_at l.fn.self l.fn.lines (S.seen l.fn.shelf)) (held_at l.self l.lines (S.seen l.shelf));
      behind : LeavesBehind (held_at l.fn.self l.fn.lines (S.seen l.fn.shelf)) l.behind l.self l.lines (S.seen l.shelf);
      ended : FillsAtEnd l.fn.self l.fn.lines l.fn.shelf (Ok l.behind) l.self l.lines l.shelf;
      quiet : (S.seen l.fn.shelf).quiet ≡ true → CountStays (S.seen l.fn.shelf) (S.seen l.shelf);
      held : length l.fn.lines.pending ≤ most_held → length l.lines.pending ≤ most_held;
      shelf : OnlyRead (S.seen l.fn.shelf) (S.seen l.shelf);
    }

abbrev pub decreases-lines : goal.decreases-lines
decreases-lines g l = bytes_left l.behind l.lines
