use Rattle.std.proofs.Common.{refl, ap, [], ◌∷◌, Ok, Err, inl}
use Rattle.dispatch_top.specs.declared.stops.ReadingStop.TheVariants.{Graph}
use Rattle.dispatch_top.specs.Stops.{status_of_written}
use Rattle.dispatch_top.proofs.Moves.{reads_as, writes_as, writes_nothing}
use Rattle.dispatch_top.proofs.ReadTexts.{ends_at_graph, graph_failed, graph_fails}
use Rattle.dispatch_top.proofs.StatusOf.{ends_walk, unread_written, unwritten_reading, unwritten_text}
use Rattle.dispatch_top.proofs.walk_mode.print_walk.Goals as goal

pub returns-in-Err-clause-ends : goal.returns-in-Err-clause-ends
returns-in-Err-clause-ends g c = rw c.status.ensures (inl (ends_at_graph _ c.args.name.now [] [] c.in-Err.stop c.in-Err.ensures.stops refl))

pub returns-in-Err-clause-shelf : goal.returns-in-Err-clause-shelf
returns-in-Err-clause-shelf g c =
    rw c.status.ensures (reads_as (c.args.name.now ∷ []) _ _ (g.S.Shelf.seen c.args.shelf.now) (g.S.Shelf.seen c.read_graph_of.new.shelf) (λ f. ap (λ x. Err x) (graph_failed c.in-Err.stop f)) (λ f. graph_fails c.in-Err.stop f) c.in-Err.ensures.shelf)

pub returns-in-Err-clause-sink : goal.returns-in-Err-clause-sink
returns-in-Err-clause-sink g c = rw c.status.ensures (writes_nothing _ (g.K.Sink.seen c.args.sink.now) (unwritten_reading (Graph c.in-Err.stop)))

pub returns-in-Ok-write_walk-clause-ends : goal.returns-in-Ok-write_walk-clause-ends
returns-in-Ok-write_walk-clause-ends g c = (ends_walk (g.S.Shelf.seen c.args.shelf.now) (g.S.Shelf.seen c.read_graph_of.new.shelf) (g.K.Sink.seen c.args.sink.now) (g.K.Sink.seen c.write_walk.new.sink) c.args.name.now c.args.from c.args.to c.in-Ok.graph c.in-Ok.ensures.graph (c.in-Ok.ensures.named refl) (Ok tt) c.in-Ok-write_walk.ensures.walk)

pub returns-in-Ok-write_walk-clause-shelf : goal.returns-in-Ok-write_walk-clause-shelf
returns-in-Ok-write_walk-clause-shelf g c = (reads_as (c.args.name.now ∷ []) _ _ (g.S.Shelf.seen c.args.shelf.now) (g.S.Shelf.seen c.read_graph_of.new.shelf) (λ f. absurd (unread_written (Ok tt) f)) (λ f. cc) c.in-Ok.ensures.shelf)

pub returns-in-Ok-write_walk-clause-sink : goal.returns-in-Ok-write_walk-clause-sink
returns-in-Ok-write_walk-clause-sink g c = (writes_as (unwritten_text (Ok tt)) (λ f. ap status_of_written f) c.in-Ok-write_walk.ensures.sink)

pub returns-clause-ends : goal.returns-clause-ends
returns-clause-ends g c = rw c.status-in-Err-write_walk.ensures (ends_walk (g.S.Shelf.seen c.args.shelf.now) (g.S.Shelf.seen c.read_graph_of.new.shelf) (g.K.Sink.seen c.args.sink.now) (g.K.Sink.seen c.write_walk.new.sink) c.args.name.now c.args.from c.args.to c.in-Ok.graph c.in-Ok.ensures.graph (c.in-Ok.ensures.named refl) (Err c.in-Err-write_walk.stop) c.in-Err-write_walk.ensures.walk)

pub returns-clause-shelf : goal.returns-clause-shelf
returns-clause-shelf g c = rw c.status-in-Err-write_walk.ensures (reads_as (c.args.name.now ∷ []) _ _ (g.S.Shelf.seen c.args.shelf.now) (g.S.Shelf.seen c.read_graph_of.new.shelf) (λ f. absurd (unread_written (Err c.in-Err-write_walk.stop) f)) (λ f. cc) c.in-Ok.ensures.shelf)

pub returns-clause-sink : goal.returns-clause-sink
returns-clause-sink g c = rw c.status-in-Err-write_walk.ensures (writes_as (unwritten_text (Err c.in-Err-write_walk.stop)) (λ f. ap status_of_written f) c.in-Err-write_walk.ensures.sink)
