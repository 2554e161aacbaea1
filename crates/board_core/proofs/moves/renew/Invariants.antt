use Rattle.std.proofs.Common.{◌-◌, length}
use Rattle.board_core.proofs.MovedCars.{AreRenewedTo}
use Rattle.board_core.proofs.moves.renew.Given as goal

abbrev pub invariant-renewing : goal.invariant-renewing
invariant-renewing l = AreRenewedTo l.params l.now l.cars l.from l.arrivals

abbrev pub decreases-renewing : goal.decreases-renewing
decreases-renewing l = length l.cars - l.from
