use Rattle.std.specs.Prelude.{◌≡◌, List}
use Rattle.road_graph.specs.Roads.{Roads}
use Rattle.stop_schedule.specs.declared.vehicle.Vehicle.{Vehicle}
use Rattle.stop_schedule.specs.Bounds.{AreVehicles}
use Rattle.board_core.specs.Boards.{Board, opening_board}

-- where a history begins: its first board, and the graph over which it is lawful
pub record Opening : Type 0 where
  pub board : Board
  pub graph : Roads

-- the board is one before any entry, with the graph's number of nodes
pub record IsOpening (o : Opening) : Type 0 where
  pub vehicles : List Vehicle
  pub are : AreVehicles o.graph.nodes vehicles
  pub board : o.board ≡ opening_board o.graph.nodes o.board.fleet.rates vehicles
