use Rattle.std.proofs.Common.{refl, inl, [], ◌∷◌}
use Rattle.dispatch_top.specs.declared.stops.OutputStop.TheVariants.{NoMemory}
use Rattle.dispatch_top.specs.Stops.{status_of_stream}
use Rattle.dispatch_top.proofs.Dispatchers.{dispatched}
use Rattle.dispatch_top.proofs.EndsStream.{ends_known}
use Rattle.dispatch_top.proofs.IsErr.{handed_on}
use Rattle.dispatch_top.proofs.Moves.{reads_nothing, writes_nothing}
use Rattle.dispatch_top.proofs.run_mode.answer_over.Goals as goal

pub returns-in_err-dispatcher-clause-ends : goal.returns-in_err-dispatcher-clause-ends
returns-in_err-dispatcher-clause-ends g c = let e = handed_on c.from_residual.result NoMemory c.from_residual.ensures in rw e (inl refl)

pub returns-in_err-dispatcher-clause-named : goal.returns-in_err-dispatcher-clause-named
returns-in_err-dispatcher-clause-named g c = let e = handed_on c.from_residual.result NoMemory c.from_residual.ensures in λ n. absurd (n e)

pub returns-in_err-dispatcher-clause-shelf : goal.returns-in_err-dispatcher-clause-shelf
returns-in_err-dispatcher-clause-shelf g c =
    let e = handed_on c.from_residual.result NoMemory c.from_residual.ensures in
    reads_nothing (c.args.stream.now ∷ []) _ (g.S.Shelf.seen c.args.shelf.now) (λ f. cc)

pub returns-in_err-dispatcher-clause-sink : goal.returns-in_err-dispatcher-clause-sink
returns-in_err-dispatcher-clause-sink g c =
    let e = handed_on c.from_residual.result NoMemory c.from_residual.ensures in
    writes_nothing _ (g.K.Sink.seen c.args.sink.now) (λ f. cc)

pub answer_text-requires : goal.answer_text-requires
answer_text-requires g c = record { fresh = (c.in_ok-dispatcher.ensures.fresh, refl) }

pub returns-clause-ends : goal.returns-clause-ends
returns-clause-ends g c =
    ends_known _ c.args.stream.now _ _ (dispatched c.args.texts.now.graph c.args.params c.args.texts.now.vehicles c.in_ok-dispatcher.dispatcher c.in_ok-dispatcher.ensures) (status_of_stream c.answer_text.result) c.answer_text.ensures.ends

pub returns-clause-shelf : goal.returns-clause-shelf
returns-clause-shelf g c = c.answer_text.ensures.shelf (λ now. refl)
