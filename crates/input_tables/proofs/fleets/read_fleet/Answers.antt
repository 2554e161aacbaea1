use Rattle.input_tables.proofs.IsReadWithin.{within_lost, within_whole}
use Rattle.input_tables.proofs.fleets.read_fleet.Goals as goal

pub returns-in-Ok-clause-wanted : goal.returns-in-Ok-clause-wanted
returns-in-Ok-clause-wanted g c = λ _. within_whole _ _ c.in-Ok.text c.in-Ok.ensures.tells c.in-Ok.ensures.short

pub returns-in-Err-clause-wanted : goal.returns-in-Err-clause-wanted
returns-in-Err-clause-wanted g c = λ memory. within_lost _ _ c.in-Err.fault c.fault_of_text.result c.fault_of_text.ensures memory c.in-Err.ensures.tells
