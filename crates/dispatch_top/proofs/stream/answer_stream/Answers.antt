use Rattle.std.proofs.Common.{ℕ, List, ◌==◌, sym, ap, subst, ◌∙◌, length}
use Rattle.std.proofs.lemmas.Bool.{false≢true}
use Rattle.ride_base.specs.Outside.{Takes}
use Rattle.dispatch_top.specs.declared.stops.OutputStop.TheVariants.{NoMemory, WriteFault}
use Rattle.dispatch_top.proofs.IsErr.{handed_on}
use Rattle.dispatch_top.proofs.OnItsWay.{empty_if, finished, finished_unwritten, took_nothing, unfinished}
use Rattle.dispatch_top.proofs.stream.answer_stream.Goals as goal

pub returns-in_err-finish-clause-streamed : goal.returns-in_err-finish-clause-streamed
returns-in_err-finish-clause-streamed g c = let e = handed_on c.from_residual-in_err-finish.result NoMemory c.from_residual-in_err-finish.ensures in
    rw e (unfinished _ g.A.Answerer.Has g.A.Answerer.held c.args.answerer.now c.answer_lines.new.answerer (g.S.Shelf.seen c.args.shelf.now).left (g.S.Shelf.seen c.answer_lines.new.shelf).left (g.K.Sink.seen c.args.sink.now).taken (g.K.Sink.seen c.answer_lines.new.sink).taken c.in_ok-exit.exit c.in_ok-exit.ensures.streamed)

pub returns-in_err-finish-clause-shelf : goal.returns-in_err-finish-clause-shelf
returns-in_err-finish-clause-shelf g c = λ h. absurd (false≢true (c.in_err-finish.ensures.still (h c.answer_lines.new.answerer)).0)

pub returns-then-is_empty-clause-streamed : goal.returns-then-is_empty-clause-streamed
returns-then-is_empty-clause-streamed g c =
    let none = sym c.as_slice-last.ensures.value ∙ empty_if c.as_slice-last.result.now (sym c.is_empty.ensures ∙ c.if-is_empty.true) in
    finished _ g.A.Answerer.Has g.A.Answerer.held c.args.answerer.now c.answer_lines.new.answerer (g.S.Shelf.seen c.args.shelf.now).left (g.S.Shelf.seen c.answer_lines.new.shelf).left (g.K.Sink.seen c.args.sink.now).taken (g.K.Sink.seen c.answer_lines.new.sink).taken c.in_ok-exit.exit c.in_ok-exit.ensures.streamed c.finish.new.self c.finish.new.text.items c.in_ok-finish.ensures.goes c.in_ok-finish.ensures.none _
    (subst (λ (l : List ℕ). Takes (g.K.Sink.seen c.answer_lines.new.sink).taken (g.K.Sink.seen c.answer_lines.new.sink).taken l) (sym none) (took_nothing (g.K.Sink.seen c.answer_lines.new.sink).taken))

pub returns-in_err-write_whole-clause-streamed : goal.returns-in_err-write_whole-clause-streamed
returns-in_err-write_whole-clause-streamed g c = let e = handed_on c.from_residual-in_err-write_whole.result WriteFault c.from_residual-in_err-write_whole.ensures in
    rw e (finished_unwritten _ g.A.Answerer.Has g.A.Answerer.held c.args.answerer.now c.answer_lines.new.answerer (g.S.Shelf.seen c.args.shelf.now).left (g.S.Shelf.seen c.answer_lines.new.shelf).left (g.K.Sink.seen c.args.sink.now).taken (g.K.Sink.seen c.answer_lines.new.sink).taken c.in_ok-exit.exit c.in_ok-exit.ensures.streamed c.finish.new.self c.finish.new.text.items c.in_ok-finish.ensures.goes
    (g.K.Sink.seen c.write_whole.new.sink).taken (rw c.as_slice-last.ensures.value at c.in_err-write_whole.ensures.err))

pub returns-in_err-write_whole-clause-shelf : goal.returns-in_err-write_whole-clause-shelf
returns-in_err-write_whole-clause-shelf g c = λ h.
    let none = c.as_slice-last.ensures.value ∙ (c.in_ok-finish.ensures.still (h c.answer_lines.new.answerer)).1 in
    absurd (false≢true (sym c.if-is_empty.false ∙ c.is_empty.ensures ∙ ap (λ (l : List ℕ). length l == 0) none))

pub returns-clause-streamed : goal.returns-clause-streamed
returns-clause-streamed g c =
    finished _ g.A.Answerer.Has g.A.Answerer.held c.args.answerer.now c.answer_lines.new.answerer (g.S.Shelf.seen c.args.shelf.now).left (g.S.Shelf.seen c.answer_lines.new.shelf).left (g.K.Sink.seen c.args.sink.now).taken (g.K.Sink.seen c.answer_lines.new.sink).taken c.in_ok-exit.exit c.in_ok-exit.ensures.streamed c.finish.new.self c.finish.new.text.items c.in_ok-finish.ensures.goes c.in_ok-finish.ensures.none
    (g.K.Sink.seen c.write_whole.new.sink).taken (rw c.as_slice-last.ensures.value at c.in_ok-write_whole.ensures.ok)
