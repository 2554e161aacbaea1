use Rattle.stop_schedule.specs.Fleets.{Cars}
use Rattle.board_core.specs.declared.fleet.Fleet.{Fleet}

-- what a fleet is, apart from its index
abbrev pub cars_of : {I : Type 0} → Fleet I → Cars
cars_of f = record { rates = f.params; clock = f.clock; version = f.version; cars = f.cars }
