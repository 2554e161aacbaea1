use Rattle.std.proofs.Common.{◌≡◌, None, false}
use Rattle.ride_base.specs.Reading.{unread}
use Rattle.dispatch_top.specs.Moves.{ReadsOn, Writes}
use Rattle.dispatch_top.proofs.OnItsWay.{IsOnItsWay}
use Rattle.dispatch_top.proofs.stream.answer_lines.Given as goal

abbrev pub invariant-lines : goal.invariant-lines
invariant-lines g l =
    let S = g.S.Shelf in
    let K = g.K.Sink in
    let A = g.A.Answerer in
    record {
      shelf : ReadsOn ⊥ (S.seen l.fn.shelf) (S.seen l.shelf);
      sink : Writes ⊥ (K.seen l.fn.sink) (K.seen l.sink);
      on_its_way : IsOnItsWay A.Has A.held l.fn.answerer l.answerer (S.seen l.fn.shelf).left (unread l.lines (S.seen l.shelf).left) l.lines.given l.lines.room (K.seen l.fn.sink).taken (K.seen l.sink).taken;
      unstopped : l.lines.stopped ≡ None;
      goes_on : l.lines.over ≡ false;
    }

abbrev pub decreases-lines : goal.decreases-lines
decreases-lines g l = l.lines.room
