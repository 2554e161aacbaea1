use Rattle.std.proofs.Common.{◌≡◌, ◌≤◌, length, true, None}
use Rattle.std.specs.List.{list_all}
use Rattle.ride_base.specs.Outside.{CountStays, OnlyRead}
use Rattle.ride_base.specs.Told.{ahead}
use Rattle.road_graph.specs.Roads.{is_within}
use Rattle.dimacs_reader.specs.Calls.{StaysReadFrom, said_roads}
use Rattle.dimacs_reader.proofs.RoadLines.{roads_said}
use Rattle.dimacs_reader.proofs.graphs.read_roads.Given as goal

abbrev pub invariant-loop-roads : goal.invariant-loop-roads
invariant-loop-roads g l =
    let S = g.S.Shelf in
    record {
      shelf : OnlyRead (S.seen l.fn.shelf) (S.seen l.shelf);
      quiet : (S.seen l.fn.shelf).quiet ≡ true → CountStays (S.seen l.fn.shelf) (S.seen l.shelf);
      same : roads_said l.said.nodes l.said.roads l.roads l.lines.given (ahead l.lines (S.seen l.shelf).left) ≡ said_roads l.said l.fn.lines (S.seen l.fn.shelf).left;
      few : length l.roads ≤ l.said.roads;
      within : list_all (is_within l.said.nodes) l.roads ≡ true;
      goes : StaysReadFrom l.fn.lines (S.seen l.fn.shelf) l.lines (S.seen l.shelf);
      unstopped : l.lines.stopped ≡ None;
    }

abbrev pub decreases-loop-roads : goal.decreases-loop-roads
decreases-loop-roads g l = l.lines.room
