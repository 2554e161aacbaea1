use Rattle.std.proofs.Common.{ℕ, List, refl, subst, ◌∙◌}
use Rattle.ride_base.specs.Outside.{Takes, TakesPrefix}
use Rattle.dispatch_top.specs.declared.stops.OutputStop.TheVariants.{NoMemory, WriteFault}
use Rattle.dispatch_top.proofs.IsErr.{handed_on}
use Rattle.dispatch_top.proofs.walk_mode.write_walk.Goals as goal

pub returns-in_err-walk-clause-walk : goal.returns-in_err-walk-clause-walk
returns-in_err-walk-clause-walk g c = let e = handed_on c.from_residual.result NoMemory c.from_residual.ensures in rw e refl

pub returns-in_err-text-clause-walk : goal.returns-in_err-text-clause-walk
returns-in_err-text-clause-walk g c = let e = handed_on c.from_residual-in_err-text.result NoMemory c.from_residual-in_err-text.ensures in rw e refl

pub returns-in_err-write_whole-clause-walk : goal.returns-in_err-write_whole-clause-walk
returns-in_err-write_whole-clause-walk g c =
    let e = handed_on c.from_residual-in_err-write_whole.result WriteFault c.from_residual-in_err-write_whole.ensures in
    rw e (c.in_ok-walk.walk, c.in_ok-walk.ensures.found, subst (λ (t : List ℕ). TakesPrefix (g.K.Sink.seen c.args.sink.now).taken (g.K.Sink.seen c.write_whole.new.sink).taken t) (c.as_slice.ensures.value ∙ c.in_ok-text.ensures) c.in_err-write_whole.ensures.err)

pub returns-clause-walk : goal.returns-clause-walk
returns-clause-walk g c =
    (c.in_ok-walk.walk, c.in_ok-walk.ensures.found, subst (λ (t : List ℕ). Takes (g.K.Sink.seen c.args.sink.now).taken (g.K.Sink.seen c.write_whole.new.sink).taken t) (c.as_slice.ensures.value ∙ c.in_ok-text.ensures) c.in_ok-write_whole.ensures.ok)
