use Rattle.interleave_core.proofs.Worlds.{leaves_over, oldest_known}
use Rattle.interleave_core.proofs.world.World.stays_over.Goals as goal

pub returns : goal.returns
returns g c = record {
  left = leaves_over g.I.FleetIndex.fits c.args.self.now c.boards_stay_good.ensures.entry c.versions_rise.ensures c.candidates_stay_sound.ensures.entries c.boards_are_consistent.ensures c.requests_wait_once.ensures.once;
  oldest = oldest_known g.I.FleetIndex.fits c.args.self.now c.requests_wait_once.ensures.once c.requests_wait_once.ensures.accepted;
}
