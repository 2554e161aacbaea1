use Rattle.std.proofs.Common.{ap, [], ◌∷◌, Ok, Err}
use Rattle.dispatch_top.specs.Stops.{status_of_stream}
use Rattle.dispatch_top.proofs.Moves.{reads_as, reads_fewer, reads_more, writes_as, writes_nothing}
use Rattle.dispatch_top.proofs.StatusOf.{at_fault, ends_over, unwritten_reading, unwritten_stream}
use Rattle.std.proofs.Common.{inl}
use Rattle.dispatch_top.proofs.run_mode.answer_run.Goals as goal

pub returns-in-Err-clause-ends : goal.returns-in-Err-clause-ends
returns-in-Err-clause-ends g c = rw c.status.ensures (inl (c.in-Err.ensures.stops (c.args.asked.now.stream.now ∷ []) (g.K.Sink.seen c.args.sink.now)))

pub returns-in-Err-clause-shelf : goal.returns-in-Err-clause-shelf
returns-in-Err-clause-shelf g c = rw c.status.ensures (reads_fewer (c.args.asked.now.graph.now ∷ c.args.asked.now.fleet.now ∷ []) (c.args.asked.now.stream.now ∷ []) _ (g.S.Shelf.seen c.args.shelf.now) (g.S.Shelf.seen c.read_texts.new.shelf) c.in-Err.ensures.shelf)

pub returns-in-Err-clause-sink : goal.returns-in-Err-clause-sink
returns-in-Err-clause-sink g c = rw c.status.ensures (writes_nothing _ (g.K.Sink.seen c.args.sink.now) (unwritten_reading c.in-Err.stop))

pub answer_over-requires : goal.answer_over-requires
answer_over-requires g c = c.in-Ok.ensures.texts.are_read.1.0.0

pub returns-in-Ok-answer_over-clause-ends : goal.returns-in-Ok-answer_over-clause-ends
returns-in-Ok-answer_over-clause-ends g c =
    rw c.status-in-Ok-answer_over.ensures (ends_over (g.S.Shelf.seen c.args.shelf.now) (g.S.Shelf.seen c.read_texts.new.shelf) (g.S.Shelf.seen c.answer_over.new.shelf) (g.K.Sink.seen c.args.sink.now) (g.K.Sink.seen c.answer_over.new.sink) c.args.asked.now.graph.now c.args.asked.now.fleet.now c.args.asked.now.stream.now c.in-Ok.texts.graph c.in-Ok.texts.vehicles c.in-Ok.ensures.texts
    c.args.asked.now.params _ (Ok c.in-Ok-answer_over.exit) c.read_texts.ensures.shelf.holds c.in-Ok-answer_over.ensures.named c.in-Ok-answer_over.ensures.shelf c.in-Ok-answer_over.ensures.ends)

pub returns-in-Ok-answer_over-clause-shelf : goal.returns-in-Ok-answer_over-clause-shelf
returns-in-Ok-answer_over-clause-shelf g c =
    rw c.status-in-Ok-answer_over.ensures (reads_more (c.args.asked.now.graph.now ∷ c.args.asked.now.fleet.now ∷ []) (c.args.asked.now.stream.now ∷ []) _ _ (g.S.Shelf.seen c.args.shelf.now) (g.S.Shelf.seen c.read_texts.new.shelf) (g.S.Shelf.seen c.answer_over.new.shelf) c.in-Ok.ensures.shelf (λ f. f) c.in-Ok.ensures.texts.began
    (reads_as (c.args.asked.now.stream.now ∷ []) _ _ (g.S.Shelf.seen c.read_texts.new.shelf) (g.S.Shelf.seen c.answer_over.new.shelf) (at_fault (Ok c.in-Ok-answer_over.exit)) (λ f. ap status_of_stream f) c.in-Ok-answer_over.ensures.shelf))

pub returns-in-Ok-answer_over-clause-sink : goal.returns-in-Ok-answer_over-clause-sink
returns-in-Ok-answer_over-clause-sink g c = rw c.status-in-Ok-answer_over.ensures (writes_as (unwritten_stream (Ok c.in-Ok-answer_over.exit)) (λ f. ap status_of_stream f) c.in-Ok-answer_over.ensures.sink)

pub returns-clause-ends : goal.returns-clause-ends
returns-clause-ends g c =
    rw c.status-in-Err-answer_over.ensures (ends_over (g.S.Shelf.seen c.args.shelf.now) (g.S.Shelf.seen c.read_texts.new.shelf) (g.S.Shelf.seen c.answer_over.new.shelf) (g.K.Sink.seen c.args.sink.now) (g.K.Sink.seen c.answer_over.new.sink) c.args.asked.now.graph.now c.args.asked.now.fleet.now c.args.asked.now.stream.now c.in-Ok.texts.graph c.in-Ok.texts.vehicles c.in-Ok.ensures.texts
    c.args.asked.now.params _ (Err c.in-Err-answer_over.stop) c.read_texts.ensures.shelf.holds c.in-Err-answer_over.ensures.named c.in-Err-answer_over.ensures.shelf c.in-Err-answer_over.ensures.ends)

pub returns-clause-shelf : goal.returns-clause-shelf
returns-clause-shelf g c =
    rw c.status-in-Err-answer_over.ensures (reads_more (c.args.asked.now.graph.now ∷ c.args.asked.now.fleet.now ∷ []) (c.args.asked.now.stream.now ∷ []) _ _ (g.S.Shelf.seen c.args.shelf.now) (g.S.Shelf.seen c.read_texts.new.shelf) (g.S.Shelf.seen c.answer_over.new.shelf) c.in-Ok.ensures.shelf (λ f. f) c.in-Ok.ensures.texts.began
    (reads_as (c.args.asked.now.stream.now ∷ []) _ _ (g.S.Shelf.seen c.read_texts.new.shelf) (g.S.Shelf.seen c.answer_over.new.shelf) (at_fault (Err c.in-Err-answer_over.stop)) (λ f. ap status_of_stream f) c.in-Err-answer_over.ensures.shelf))

pub returns-clause-sink : goal.returns-clause-sink
returns-clause-sink g c = rw c.status-in-Err-answer_over.ensures (writes_as (unwritten_stream (Err c.in-Err-answer_over.stop)) (λ f. ap status_of_stream f) c.in-Err-answer_over.ensures.sink)
