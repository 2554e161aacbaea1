use Rattle.std.proofs.Common.{◌≡◌, ◌≤◌, ◌-◌, length}
use Rattle.board_core.specs.FleetViews.{cars_of}
use Rattle.board_core.proofs.MovedCars.{AreMovedTo}
use Rattle.board_core.proofs.fleet.Fleet.moved.Given as goal

abbrev pub invariant-reaching : goal.invariant-reaching
invariant-reaching g l = record {
  moved : AreMovedTo (g.I.FleetIndex.fits l.self.index) (g.I.FleetIndex.fits l.moved.index) (cars_of l.self) l.now l.from l.moved.cars l.moved.served;
  steps : l.fn.steps.0 ≤ l.steps.0;
  asks : l.steps.1 ≡ l.fn.steps.1;
}

abbrev pub decreases-reaching : goal.decreases-reaching
decreases-reaching g l = length l.self.cars - l.from
