use Rattle.std.proofs.Common.{◌≡◌, true, None}
use Rattle.ride_base.specs.Outside.{CountStays, OnlyRead}
use Rattle.dimacs_reader.specs.Calls.{StaysReadFrom}
use Rattle.dimacs_reader.specs.Reading.{places_ahead}
use Rattle.dimacs_reader.proofs.places.read_header.Given as goal

abbrev pub invariant-loop-line : goal.invariant-loop-line
invariant-loop-line g l =
    let S = g.S.Shelf in
    record {
      shelf : OnlyRead (S.seen l.fn.shelf) (S.seen l.shelf);
      quiet : (S.seen l.fn.shelf).quiet ≡ true → CountStays (S.seen l.fn.shelf) (S.seen l.shelf);
      same : places_ahead l.nodes l.lines (S.seen l.shelf).left ≡ places_ahead l.nodes l.fn.lines (S.seen l.fn.shelf).left;
      goes : StaysReadFrom l.fn.lines (S.seen l.fn.shelf) l.lines (S.seen l.shelf);
      unstopped : l.lines.stopped ≡ None;
    }

abbrev pub decreases-loop-line : goal.decreases-loop-line
decreases-loop-line g l = l.lines.room
