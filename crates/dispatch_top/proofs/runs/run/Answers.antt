use Rattle.std.proofs.Common.{None, [], false, refl, sym, subst, Option}
use Rattle.std.specs.Prelude.{map, string_bytes}
use Rattle.command_words.specs.Commands.{Form, Walk, Gen}
use Rattle.ride_base.specs.Calls.{call_of}
use Rattle.dispatch_top.specs.declared.words.Task.{Task}
use Rattle.dispatch_top.specs.Asking.{AsksFor, run_form}
use Rattle.dispatch_top.specs.Behaving.{Behaves}
use Rattle.dispatch_top.specs.Forms.{run_asks}
use Rattle.dispatch_top.proofs.Behaves.{behaves}
use Rattle.dispatch_top.proofs.Completes.{completes_as, gen_completes, run_completes, walk_completes}
use Rattle.dispatch_top.proofs.EndsUnmoved.{complete_later, complete_unread, ends_later, ends_unread}
use Rattle.dispatch_top.proofs.Moves.{reads_nothing}
use Rattle.dispatch_top.proofs.runs.run.Goals as goal

pub returns-in-Ok-Run-clause-complete : goal.returns-in-Ok-Run-clause-complete
returns-in-Ok-Run-clause-complete g c =
    completes_as _ (run_form c.in-Ok-Run.asked) (call_of (g.S.Shelf.seen c.args.shelf.now) (g.K.Sink.seen c.args.sink.now) (g.S.Shelf.seen c.answer_run.new.shelf) (g.K.Sink.seen c.answer_run.new.sink)) c.answer_run.result c.answer_run.result (subst (λ (x : Task). AsksFor x (run_asks (map string_bytes c.args.words.now))) c.in-Ok-Run.field-0-is c.in-Ok-Run.ensures.asks) refl
    (run_completes (call_of (g.S.Shelf.seen c.args.shelf.now) (g.K.Sink.seen c.args.sink.now) (g.S.Shelf.seen c.answer_run.new.shelf) (g.K.Sink.seen c.answer_run.new.sink)) c.in-Ok-Run.asked.graph.now c.in-Ok-Run.asked.fleet.now c.in-Ok-Run.asked.stream.now (record { rates = c.in-Ok-Run.asked.params; window = None; proof = false }) c.answer_run.result
    c.answer_run.ensures.ends (behaves (run_form c.in-Ok-Run.asked) (call_of (g.S.Shelf.seen c.args.shelf.now) (g.K.Sink.seen c.args.sink.now) (g.S.Shelf.seen c.answer_run.new.shelf) (g.K.Sink.seen c.answer_run.new.sink)) c.answer_run.result c.answer_run.ensures.shelf c.answer_run.ensures.sink))

pub returns-in-Ok-Run-clause-behaves : goal.returns-in-Ok-Run-clause-behaves
returns-in-Ok-Run-clause-behaves g c =
    subst (λ (o : Option Form). Behaves o c.answer_run.result (call_of (g.S.Shelf.seen c.args.shelf.now) (g.K.Sink.seen c.args.sink.now) (g.S.Shelf.seen c.answer_run.new.shelf) (g.K.Sink.seen c.answer_run.new.sink))) (sym (subst (λ (x : Task). AsksFor x (run_asks (map string_bytes c.args.words.now))) c.in-Ok-Run.field-0-is c.in-Ok-Run.ensures.asks))
    (behaves (run_form c.in-Ok-Run.asked) (call_of (g.S.Shelf.seen c.args.shelf.now) (g.K.Sink.seen c.args.sink.now) (g.S.Shelf.seen c.answer_run.new.shelf) (g.K.Sink.seen c.answer_run.new.sink)) c.answer_run.result c.answer_run.ensures.shelf c.answer_run.ensures.sink)

pub returns-in-Ok-Run-clause-quiet : goal.returns-in-Ok-Run-clause-quiet
returns-in-Ok-Run-clause-quiet g c = c.answer_run.ensures.shelf.quietly

pub returns-in-Ok-Run-clause-kept : goal.returns-in-Ok-Run-clause-kept
returns-in-Ok-Run-clause-kept g c = c.answer_run.ensures.sink.quietly

pub returns-in-Ok-Walk-clause-complete : goal.returns-in-Ok-Walk-clause-complete
returns-in-Ok-Walk-clause-complete g c =
    completes_as _ (Walk c.in-Ok-Walk.graph.now c.in-Ok-Walk.from c.in-Ok-Walk.to) (call_of (g.S.Shelf.seen c.args.shelf.now) (g.K.Sink.seen c.args.sink.now) (g.S.Shelf.seen c.print_walk.new.shelf) (g.K.Sink.seen c.print_walk.new.sink)) c.print_walk.result c.print_walk.result (subst (λ (x : Task). AsksFor x (run_asks (map string_bytes c.args.words.now))) c.in-Ok-Walk.field-0-is c.in-Ok-Walk.ensures.asks) refl
    (walk_completes (call_of (g.S.Shelf.seen c.args.shelf.now) (g.K.Sink.seen c.args.sink.now) (g.S.Shelf.seen c.print_walk.new.shelf) (g.K.Sink.seen c.print_walk.new.sink)) c.in-Ok-Walk.graph.now c.in-Ok-Walk.from c.in-Ok-Walk.to c.print_walk.result
    c.print_walk.ensures.ends (behaves (Walk c.in-Ok-Walk.graph.now c.in-Ok-Walk.from c.in-Ok-Walk.to) (call_of (g.S.Shelf.seen c.args.shelf.now) (g.K.Sink.seen c.args.sink.now) (g.S.Shelf.seen c.print_walk.new.shelf) (g.K.Sink.seen c.print_walk.new.sink)) c.print_walk.result c.print_walk.ensures.shelf c.print_walk.ensures.sink))

pub returns-in-Ok-Walk-clause-behaves : goal.returns-in-Ok-Walk-clause-behaves
returns-in-Ok-Walk-clause-behaves g c =
    subst (λ (o : Option Form). Behaves o c.print_walk.result (call_of (g.S.Shelf.seen c.args.shelf.now) (g.K.Sink.seen c.args.sink.now) (g.S.Shelf.seen c.print_walk.new.shelf) (g.K.Sink.seen c.print_walk.new.sink))) (sym (subst (λ (x : Task). AsksFor x (run_asks (map string_bytes c.args.words.now))) c.in-Ok-Walk.field-0-is c.in-Ok-Walk.ensures.asks))
    (behaves (Walk c.in-Ok-Walk.graph.now c.in-Ok-Walk.from c.in-Ok-Walk.to) (call_of (g.S.Shelf.seen c.args.shelf.now) (g.K.Sink.seen c.args.sink.now) (g.S.Shelf.seen c.print_walk.new.shelf) (g.K.Sink.seen c.print_walk.new.sink)) c.print_walk.result c.print_walk.ensures.shelf c.print_walk.ensures.sink)

pub returns-in-Ok-Walk-clause-quiet : goal.returns-in-Ok-Walk-clause-quiet
returns-in-Ok-Walk-clause-quiet g c = c.print_walk.ensures.shelf.quietly

pub returns-in-Ok-Walk-clause-kept : goal.returns-in-Ok-Walk-clause-kept
returns-in-Ok-Walk-clause-kept g c = c.print_walk.ensures.sink.quietly

pub returns-in-Ok-Gen-clause-complete : goal.returns-in-Ok-Gen-clause-complete
returns-in-Ok-Gen-clause-complete g c =
    completes_as _ (Gen c.in-Ok-Gen.number) (call_of (g.S.Shelf.seen c.args.shelf.now) (g.K.Sink.seen c.args.sink.now) (g.S.Shelf.seen c.args.shelf.now) (g.K.Sink.seen c.print_summary.new.sink)) c.print_summary.result c.print_summary.result (subst (λ (x : Task). AsksFor x (run_asks (map string_bytes c.args.words.now))) c.in-Ok-Gen.field-0-is c.in-Ok-Gen.ensures.asks) refl
    (gen_completes (call_of (g.S.Shelf.seen c.args.shelf.now) (g.K.Sink.seen c.args.sink.now) (g.S.Shelf.seen c.args.shelf.now) (g.K.Sink.seen c.print_summary.new.sink)) c.in-Ok-Gen.number c.print_summary.result (c.print_summary.ensures.ends (g.S.Shelf.seen c.args.shelf.now))
    (behaves (Gen c.in-Ok-Gen.number) (call_of (g.S.Shelf.seen c.args.shelf.now) (g.K.Sink.seen c.args.sink.now) (g.S.Shelf.seen c.args.shelf.now) (g.K.Sink.seen c.print_summary.new.sink)) c.print_summary.result (reads_nothing [] _ (g.S.Shelf.seen c.args.shelf.now) c.print_summary.ensures.unread) c.print_summary.ensures.sink))

pub returns-in-Ok-Gen-clause-behaves : goal.returns-in-Ok-Gen-clause-behaves
returns-in-Ok-Gen-clause-behaves g c =
    subst (λ (o : Option Form). Behaves o c.print_summary.result (call_of (g.S.Shelf.seen c.args.shelf.now) (g.K.Sink.seen c.args.sink.now) (g.S.Shelf.seen c.args.shelf.now) (g.K.Sink.seen c.print_summary.new.sink))) (sym (subst (λ (x : Task). AsksFor x (run_asks (map string_bytes c.args.words.now))) c.in-Ok-Gen.field-0-is c.in-Ok-Gen.ensures.asks))
    (behaves (Gen c.in-Ok-Gen.number) (call_of (g.S.Shelf.seen c.args.shelf.now) (g.K.Sink.seen c.args.sink.now) (g.S.Shelf.seen c.args.shelf.now) (g.K.Sink.seen c.print_summary.new.sink)) c.print_summary.result (reads_nothing [] _ (g.S.Shelf.seen c.args.shelf.now) c.print_summary.ensures.unread) c.print_summary.ensures.sink)

pub returns-in-Ok-Gen-clause-kept : goal.returns-in-Ok-Gen-clause-kept
returns-in-Ok-Gen-clause-kept g c = c.print_summary.ensures.sink.quietly

pub returns-in-Ok-Later-clause-complete : goal.returns-in-Ok-Later-clause-complete
returns-in-Ok-Later-clause-complete g c = complete_later (run_asks (map string_bytes c.args.words.now)) (call_of (g.S.Shelf.seen c.args.shelf.now) (g.K.Sink.seen c.args.sink.now) (g.S.Shelf.seen c.args.shelf.now) (g.K.Sink.seen c.args.sink.now)) (subst (λ (x : Task). AsksFor x (run_asks (map string_bytes c.args.words.now))) c.in-Ok-Later.field-0-is c.in-Ok-Later.ensures.asks)

pub returns-in-Err-clause-ends : goal.returns-in-Err-clause-ends
returns-in-Err-clause-ends g c = ends_unread (call_of (g.S.Shelf.seen c.args.shelf.now) (g.K.Sink.seen c.args.sink.now) (g.S.Shelf.seen c.args.shelf.now) (g.K.Sink.seen c.args.sink.now)) refl refl (run_asks (map string_bytes c.args.words.now))

pub returns-in-Ok-Later-clause-ends : goal.returns-in-Ok-Later-clause-ends
returns-in-Ok-Later-clause-ends g c = ends_later (run_asks (map string_bytes c.args.words.now)) (call_of (g.S.Shelf.seen c.args.shelf.now) (g.K.Sink.seen c.args.sink.now) (g.S.Shelf.seen c.args.shelf.now) (g.K.Sink.seen c.args.sink.now)) (subst (λ (x : Task). AsksFor x (run_asks (map string_bytes c.args.words.now))) c.in-Ok-Later.field-0-is c.in-Ok-Later.ensures.asks)

pub returns-in-Err-clause-complete : goal.returns-in-Err-clause-complete
returns-in-Err-clause-complete g c = complete_unread (run_asks (map string_bytes c.args.words.now)) (call_of (g.S.Shelf.seen c.args.shelf.now) (g.K.Sink.seen c.args.sink.now) (g.S.Shelf.seen c.args.shelf.now) (g.K.Sink.seen c.args.sink.now))
