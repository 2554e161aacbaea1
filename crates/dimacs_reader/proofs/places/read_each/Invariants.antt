use Rattle.std.proofs.Common.{◌≡◌, true, ◌≤◌, [], List, None}
use Rattle.ride_base.specs.Outside.{CountStays, OnlyRead}
use Rattle.ride_base.specs.Told.{ahead}
use Rattle.dimacs_reader.specs.Places.{Placed}
use Rattle.dimacs_reader.specs.Calls.{HoldsPlaces, StaysReadFrom}
use Rattle.dimacs_reader.specs.Reading.{placed_ahead}
use Rattle.dimacs_reader.proofs.PlaceTable.{places_said}
use Rattle.dimacs_reader.proofs.places.read_each.Given as goal

abbrev pub invariant-loop-coordinates : goal.invariant-loop-coordinates
invariant-loop-coordinates g l =
    let S = g.S.Shelf in
    record {
      shelf : OnlyRead (S.seen l.fn.shelf) (S.seen l.shelf);
      quiet : (S.seen l.fn.shelf).quiet ≡ true → CountStays (S.seen l.fn.shelf) (S.seen l.shelf);
      done : List Placed;
      kept : HoldsPlaces l.nodes done l.coordinates;
      same : places_said l.nodes done l.lines.given (ahead l.lines (S.seen l.shelf).left) ≡ placed_ahead l.nodes [] l.fn.lines (S.seen l.fn.shelf).left;
      few : l.coordinates.count ≤ l.nodes;
      goes : StaysReadFrom l.fn.lines (S.seen l.fn.shelf) l.lines (S.seen l.shelf);
      unstopped : l.lines.stopped ≡ None;
    }

abbrev pub decreases-loop-coordinates : goal.decreases-loop-coordinates
decreases-loop-coordinates g l = l.lines.room
