use Rattle.std.proofs.Common.{take}
use Rattle.stop_schedule.specs.Rates.{usual}
use Rattle.dispatch_top.proofs.MadeCities.{AreFirstAsked}
use Rattle.dispatch_top.proofs.gen_mode.answer_lines.Given as goal

abbrev pub invariant-loop-line : goal.invariant-loop-line
invariant-loop-line g l = AreFirstAsked l.texts.graph usual l.texts.vehicles (take l.line-index l.lines) l.dispatcher
