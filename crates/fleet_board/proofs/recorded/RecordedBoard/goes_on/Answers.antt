use Rattle.fleet_board.proofs.Records.{goes_on}
use Rattle.fleet_board.proofs.recorded.RecordedBoard.goes_on.Goals as goal

pub returns : goal.returns
returns g c = goes_on g.I.FleetIndex.fits c.args.self.now c.boards_stay_good.ensures.entry c.versions_rise.ensures c.desks_hold_claims.ensures.goes_on c.boards_are_consistent.ensures
