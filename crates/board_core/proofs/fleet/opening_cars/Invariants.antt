use Rattle.board_core.proofs.Opened.{IsOpenedTo}
use Rattle.board_core.proofs.fleet.opening_cars.Given as goal

abbrev pub invariant-loop-place : goal.invariant-loop-place
invariant-loop-place l = IsOpenedTo l.vehicles l.cars l.place
