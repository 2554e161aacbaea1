use Rattle.std.proofs.Common.{refl, sym, rules}
use Rattle.dispatch_top.specs.declared.stops.OutputStop.TheVariants.{NoMemory, WriteFault}
use Rattle.dispatch_top.proofs.IsErr.{handed_on}
use Rattle.dispatch_top.proofs.Moves.{reads_on_as, reads_on_more, reads_still, writes_more, writes_nothing}
use Rattle.dispatch_top.proofs.OnItsWay.{ends_at_other, ends_before, ends_early, ends_unwritten, ends_with_line, few_then, first_way, further}
use Rattle.dispatch_top.proofs.stream.answer_lines.Goals as goal

pub lines-init : goal.lines-init
lines-init g c = record {
  shelf = reads_still (g.S.Shelf.seen c.args.shelf.now) c.requires.begun;
  sink = writes_nothing ⊥ (g.K.Sink.seen c.args.sink.now) (λ f. f);
  on_its_way = first_way _ g.A.Answerer.Has g.A.Answerer.held c.args.answerer.now c.new-lines.result (g.S.Shelf.seen c.args.shelf.now).left (g.K.Sink.seen c.args.sink.now).taken c.requires.fresh c.new-lines.ensures.fresh;
  unstopped = search rules;
  goes_on = search rules;
}

pub returns-in_err-exit-clause-streamed : goal.returns-in_err-exit-clause-streamed
returns-in_err-exit-clause-streamed g c = let e = handed_on c.from_residual.result NoMemory c.from_residual.ensures in
    rw e (ends_early _ g.A.Answerer.Has g.A.Answerer.held c.args.answerer.now c.lines.answerer (g.S.Shelf.seen c.args.shelf.now).left (g.K.Sink.seen c.args.sink.now).taken (g.K.Sink.seen c.lines.sink).taken c.lines.lines (g.S.Shelf.seen c.lines.shelf) c.lines.lines.given c.lines.invariant.on_its_way)

pub returns-in-Exit-clause-streamed : goal.returns-in-Exit-clause-streamed
returns-in-Exit-clause-streamed g c =
    ends_before _ g.A.Answerer.Has g.A.Answerer.held c.args.answerer.now c.lines.answerer (g.S.Shelf.seen c.args.shelf.now).left (g.K.Sink.seen c.args.sink.now).taken (g.K.Sink.seen c.lines.sink).taken c.lines.lines (g.S.Shelf.seen c.lines.shelf) c.lines.lines.given c.lines.invariant.on_its_way
    c.in-Exit.exit c.next_line.new.lines (g.S.Shelf.seen c.next_line.new.shelf) refl (rw c.in-Exit.is at c.in_ok-exit.ensures.given)

pub returns-in_default-clause-streamed : goal.returns-in_default-clause-streamed
returns-in_default-clause-streamed g c =
    ends_at_other _ g.A.Answerer.Has g.A.Answerer.held c.args.answerer.now c.lines.answerer (g.S.Shelf.seen c.args.shelf.now).left (g.K.Sink.seen c.args.sink.now).taken (g.K.Sink.seen c.lines.sink).taken c.lines.lines (g.S.Shelf.seen c.lines.shelf) c.lines.lines.given c.lines.invariant.on_its_way
    c.in-Line.line c.next_line.new.lines (g.S.Shelf.seen c.next_line.new.shelf) refl (rw c.in-Line.is at c.in_ok-exit.ensures.given) c.stream_line.result (sym c.stream_line.ensures.says) c.in_default.not-Ok

pub returns-in_err-answer-in-Line-clause-streamed : goal.returns-in_err-answer-in-Line-clause-streamed
returns-in_err-answer-in-Line-clause-streamed g c = let e = handed_on c.from_residual-in_err-answer-in-Line.result NoMemory c.from_residual-in_err-answer-in-Line.ensures in
    rw e (ends_early _ g.A.Answerer.Has g.A.Answerer.held c.args.answerer.now c.lines.answerer (g.S.Shelf.seen c.args.shelf.now).left (g.K.Sink.seen c.args.sink.now).taken (g.K.Sink.seen c.lines.sink).taken c.lines.lines (g.S.Shelf.seen c.lines.shelf) c.lines.lines.given c.lines.invariant.on_its_way)

pub returns-in_err-write_whole-in-Line-clause-streamed : goal.returns-in_err-write_whole-in-Line-clause-streamed
returns-in_err-write_whole-in-Line-clause-streamed g c = let e = handed_on c.from_residual-in_err-write_whole-in-Line.result WriteFault c.from_residual-in_err-write_whole-in-Line.ensures in
    rw e (ends_unwritten _ g.A.Answerer.Has g.A.Answerer.held c.args.answerer.now c.lines.answerer (g.S.Shelf.seen c.args.shelf.now).left (g.K.Sink.seen c.args.sink.now).taken (g.K.Sink.seen c.lines.sink).taken c.lines.lines (g.S.Shelf.seen c.lines.shelf) c.lines.lines.given c.lines.invariant.on_its_way
    c.in-Line.line c.next_line.new.lines (g.S.Shelf.seen c.next_line.new.shelf) refl (rw c.in-Line.is at c.in_ok-exit.ensures.given) c.in-Ok.said (sym c.in-Ok.ensures.says) c.answer.new.self c.answer.new.text.items c.in_ok-answer-in-Line.ensures
    (g.K.Sink.seen c.write_whole.new.sink).taken (rw c.as_slice.ensures.value at c.in_err-write_whole-in-Line.ensures.err))

pub returns-then-not-line-clause-streamed : goal.returns-then-not-line-clause-streamed
returns-then-not-line-clause-streamed g c =
    ends_with_line _ g.A.Answerer.Has g.A.Answerer.held c.args.answerer.now c.lines.answerer (g.S.Shelf.seen c.args.shelf.now).left (g.K.Sink.seen c.args.sink.now).taken (g.K.Sink.seen c.lines.sink).taken c.lines.lines (g.S.Shelf.seen c.lines.shelf) c.lines.lines.given c.lines.invariant.on_its_way
    c.in-Line.line c.next_line.new.lines (g.S.Shelf.seen c.next_line.new.shelf) refl (rw c.in-Line.is at c.in_ok-exit.ensures.given) c.in-Ok.said (sym c.in-Ok.ensures.says) c.answer.new.self c.answer.new.text.items c.in_ok-answer-in-Line.ensures
    (g.K.Sink.seen c.write_whole.new.sink).taken c.if-not-line.true (rw c.as_slice.ensures.value at c.in_ok-write_whole-in-Line.ensures.ok)

pub returns-then-not-line-clause-few : goal.returns-then-not-line-clause-few
returns-then-not-line-clause-few g c =
    few_then _ g.A.Answerer.Has g.A.Answerer.held c.args.answerer.now c.lines.answerer (g.S.Shelf.seen c.args.shelf.now).left (g.K.Sink.seen c.args.sink.now).taken (g.K.Sink.seen c.lines.sink).taken c.lines.lines (g.S.Shelf.seen c.lines.shelf) c.lines.lines.given c.lines.invariant.on_its_way
    c.in-Line.line c.next_line.new.lines (g.S.Shelf.seen c.next_line.new.shelf) refl (rw c.in-Line.is at c.in_ok-exit.ensures.given) c.in-Ok.said (sym c.in-Ok.ensures.says) c.answer.new.self c.answer.new.text.items c.in_ok-answer-in-Line.ensures

pub lines-preserved : goal.lines-preserved
lines-preserved g c = record {
  shelf = reads_on_more c.lines.invariant.shelf (λ f. f) (reads_on_as (λ f. absurd f) (λ f. cc) (rw c.in-Line.is at c.in_ok-exit.ensures.shelf));
  sink = writes_more c.lines.invariant.sink (λ f. f)
      (record { counted = c.in_ok-write_whole-in-Line.ensures.counted; quiet = c.in_ok-write_whole-in-Line.ensures.as_quiet; cause = λ f. absurd f; quietly = λ q n. c.in_ok-write_whole-in-Line.ensures.quiet q refl });
  on_its_way = further _ g.A.Answerer.Has g.A.Answerer.held c.args.answerer.now c.lines.answerer (g.S.Shelf.seen c.args.shelf.now).left (g.K.Sink.seen c.args.sink.now).taken (g.K.Sink.seen c.lines.sink).taken c.lines.lines (g.S.Shelf.seen c.lines.shelf) c.lines.lines.given c.lines.invariant.on_its_way
      c.in-Line.line c.next_line.new.lines (g.S.Shelf.seen c.next_line.new.shelf) refl (rw c.in-Line.is at c.in_ok-exit.ensures.given) c.in-Ok.said (sym c.in-Ok.ensures.says) c.answer.new.self c.answer.new.text.items c.in_ok-answer-in-Line.ensures
      (g.K.Sink.seen c.write_whole.new.sink).taken c.if-not-line.false (rw c.as_slice.ensures.value at c.in_ok-write_whole-in-Line.ensures.ok);
  unstopped = (rw c.in-Line.is at c.in_ok-exit.ensures.given).unstopped;
  goes_on = (rw c.in-Line.is at c.in_ok-exit.ensures.given).goes_on c.if-not-line.false;
}
