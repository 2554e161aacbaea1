use Rattle.std.proofs.Common.{sym, subst}
use Rattle.stop_schedule.specs.Fleets.{IsChange}
use Rattle.stop_schedule.specs.Plans.{Plan}
use Rattle.board_core.proofs.Inserts.{within}
use Rattle.board_core.proofs.fleet.Fleet.change.Goals as goal

pub moved-requires : goal.moved-requires
moved-requires g c = let x = within c.args.self.now.cars c.args.place c.requires.place in
    subst (λ (p : Plan). IsChange (g.I.FleetIndex.fits c.args.self.now.index) c.args.self.now.params c.args.place p c.args.schedule) (sym (c.schedule-old.ensures x.0 x.1)) (c.requires.change x.0 x.1)
