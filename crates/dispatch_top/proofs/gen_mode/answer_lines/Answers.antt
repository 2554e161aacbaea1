use Rattle.std.proofs.Common.{subst, arith, List}
use Rattle.std.proofs.lemmas.List.{take_all}
use Rattle.std.proofs.lemmas.Option.{slice_get-get_or}
use Rattle.stop_schedule.specs.Rates.{Rates, usual}
use Rattle.input_tables.specs.declared.lines.StreamLine.{StreamLine}
use Rattle.dispatch_top.specs.Dispatchers.{IsOpened}
use Rattle.dispatch_top.proofs.MadeCities.{AreFirstAsked, all_asked, few_asked, next_asked, none_asked}
use Rattle.dispatch_top.proofs.gen_mode.answer_lines.Goals as goal

pub loop-line-init : goal.loop-line-init
loop-line-init g c = none_asked c.args.texts.now.graph usual c.args.texts.now.vehicles c.in_ok-dispatcher.dispatcher
    (subst (λ (r : Rates). IsOpened c.args.texts.now.graph r c.args.texts.now.vehicles c.in_ok-dispatcher.dispatcher) c.usual.ensures c.in_ok-dispatcher.ensures)

pub answer-requires-clause-ready : goal.answer-requires-clause-ready
answer-requires-clause-ready g c = few_asked c.args.texts.now.graph usual c.args.texts.now.vehicles c.args.lines.now c.loop-line.line-index c.loop-line.dispatcher (omega (arith, c.loop-line-test.true)) c.requires.few c.loop-line.invariant

pub answer-requires-clause-said : goal.answer-requires-clause-said
answer-requires-clause-said g c = c.requires.ranges c.loop-line.line-index _ (slice_get-get_or c.args.lines.now c.loop-line.line-index _ c.loop-line-test.true)

pub loop-line-preserved : goal.loop-line-preserved
loop-line-preserved g c = next_asked c.args.texts.now.graph usual c.args.texts.now.vehicles c.args.lines.now c.loop-line.line-index _ c.loop-line.dispatcher c.answer.new.self c.answer.new.text.items c.loop-line-test.true c.loop-line.invariant c.in_ok-answer.ensures

pub returns : goal.returns
returns g c = all_asked c.args.texts.now.graph usual c.args.texts.now.vehicles c.args.lines.now c.loop-line.dispatcher
    (subst (λ (l : List StreamLine). AreFirstAsked c.args.texts.now.graph usual c.args.texts.now.vehicles l c.loop-line.dispatcher) (take_all c.loop-line.line-index c.args.lines.now (omega (arith, c.loop-line-test.false))) c.loop-line.invariant)
