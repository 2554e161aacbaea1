use Rattle.board_core.proofs.law.changed_vehicles_are_named.Goals as goal
use Rattle.board_core.proofs.NamedVehicles.{changed_vehicles_are_named}

pub returns : goal.returns
returns c = changed_vehicles_are_named
