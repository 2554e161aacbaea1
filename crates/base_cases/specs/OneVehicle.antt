use Rattle.std.specs.Prelude.{[], ◌∷◌}
use Rattle.road_graph.specs.Paths.{Path}
use Rattle.stop_schedule.specs.Fleets.{Cars}
use Rattle.stop_schedule.specs.Fronts.{front_of}
use Rattle.stop_schedule.specs.Lists.{inserted_in}
use Rattle.stop_schedule.specs.Plans.{Plan}
use Rattle.stop_schedule.specs.Rates.{usual}
use Rattle.stop_schedule.specs.Samples.{opened, ride, at}

-- one vehicle at the clock 0, with a schedule that changed at version 2
abbrev pub one_vehicle : Plan → Cars
one_vehicle p = record { rates = usual; clock = 0; version = 2; cars = record { no = record { 0 = 1 }; plan = p; stamp = 2 } ∷ [] }

-- a first request from node 2 to 4, over a walk to 2 and one from there to 4
abbrev pub first_over : Path → Path → Plan
first_over into onward = inserted_in opened (front_of opened 0) (ride 1 2 4 0 1) (at 0 0) (record { pickup = 20; arrival = 50 }) (into ∷ onward ∷ [])
