use Rattle.command_words.specs.Commands.{Word}
use Rattle.ride_base.specs.Calls.{Call}
use Rattle.stop_schedule.specs.Rates.{Rates}
use Rattle.dispatch_top.specs.declared.status.Status.{Status}
use Rattle.dispatch_top.specs.Histories.{IsHistoryOf}
use Rattle.dispatch_top.specs.Reading.{Read}
use Rattle.dispatch_top.specs.Streaming.{EndsStream}

-- how a run over a stream ends, behind the texts that are read whole
abbrev pub EndsRun : Rates → (stream : Word) → Read → Status → Call → Type 0
EndsRun rates stream read status c = EndsStream (IsHistoryOf read.roads rates read.vehicles) stream status c
