use Rattle.shared_cases.proofs.FirstVehicles.{AreFirst}
use Rattle.shared_cases.proofs.fleets.are_vehicles.Given as goal

abbrev pub invariant-loop-vehicle : goal.invariant-loop-vehicle
invariant-loop-vehicle l = AreFirst l.nodes l.vehicles l.vehicle-index l.last
