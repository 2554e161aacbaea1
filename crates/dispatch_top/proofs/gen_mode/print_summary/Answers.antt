use Rattle.std.proofs.Common.{ap, Ok, Err}
use Rattle.dispatch_top.specs.Stops.{status_of_written}
use Rattle.dispatch_top.proofs.Moves.{writes_as}
use Rattle.dispatch_top.proofs.StatusOf.{ends_gen, unread_written, unwritten_text}
use Rattle.dispatch_top.proofs.gen_mode.print_summary.Goals as goal

pub returns-in-Ok-clause-ends : goal.returns-in-Ok-clause-ends
returns-in-Ok-clause-ends g c = λ shelf. ends_gen shelf (g.K.Sink.seen c.args.sink.now) (g.K.Sink.seen c.write_summary.new.sink) c.args.number (Ok tt) c.in-Ok.ensures.summary

pub returns-in-Ok-clause-sink : goal.returns-in-Ok-clause-sink
returns-in-Ok-clause-sink g c = writes_as (unwritten_text (Ok tt)) (λ f. ap status_of_written f) c.in-Ok.ensures.sink

pub returns-in-Err-clause-ends : goal.returns-in-Err-clause-ends
returns-in-Err-clause-ends g c = rw c.status.ensures (λ shelf. ends_gen shelf (g.K.Sink.seen c.args.sink.now) (g.K.Sink.seen c.write_summary.new.sink) c.args.number (Err c.in-Err.stop) c.in-Err.ensures.summary)

pub returns-in-Err-clause-unread : goal.returns-in-Err-clause-unread
returns-in-Err-clause-unread g c = rw c.status.ensures (unread_written (Err c.in-Err.stop))

pub returns-in-Err-clause-sink : goal.returns-in-Err-clause-sink
returns-in-Err-clause-sink g c = rw c.status.ensures (writes_as (unwritten_text (Err c.in-Err.stop)) (λ f. ap status_of_written f) c.in-Err.ensures.sink)
