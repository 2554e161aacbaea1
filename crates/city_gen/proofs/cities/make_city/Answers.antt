use Rattle.city_gen.proofs.LinesFrom.{are_in_range}
use Rattle.city_gen.proofs.RoadsAlong.{are_roads}
use Rattle.city_gen.proofs.VehiclesFrom.{are_vehicles}
use Rattle.city_gen.proofs.cities.make_city.Goals as goal

pub returns-clause-graph : goal.returns-clause-graph
returns-clause-graph c = rw (c.in_ok-roads.ensures.roads) (are_roads _)

pub returns-clause-vehicles : goal.returns-clause-vehicles
returns-clause-vehicles c = rw (c.in_ok-fleet.ensures.fleet) (are_vehicles _)

pub returns-clause-ranges : goal.returns-clause-ranges
returns-clause-ranges c = rw (c.in_ok-lines.ensures) (are_in_range _)
