use Rattle.turn_lock.proofs.IsSeated.{seated}
use Rattle.turn_lock.proofs.lock.TurnLock.seat.Goals as goal

pub returns : goal.returns
returns g c = let e = c.into_seat.ensures in seated c.args.number c.args.family c.args.badge.table_id c.into_seat.result.table_id c.args.self.now c.args.badge.views c.into_seat.result.me c.requires.0 c.requires.1 e.0 e.2 e.3
