use Rattle.ride_base.proofs.TellsLine.{stopped_past}
use Rattle.ride_base.proofs.lines.Lines.stop_past.Goals as goal

pub returns-clause-tells : goal.returns-clause-tells
returns-clause-tells c = rw (← c.self.view_is) (λ left. stopped_past c.self.inside.pending c.self.inside.room _ left c.limit_past-limit.result c.fault.result (rw (← c.self.view_is) at c.requires.unended) (rw (← c.self.view_is) at c.requires.past) c.limit_past-limit.ensures c.fault.ensures)
