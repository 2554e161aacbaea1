use Rattle.std.specs.Prelude.{List}
use Rattle.road_graph.specs.Graphs.{IsGraph}
use Rattle.road_graph.specs.Roads.{Roads}
use Rattle.stop_schedule.specs.declared.vehicle.Vehicle.{Vehicle}
use Rattle.stop_schedule.specs.Bounds.{AreVehicles}
use Rattle.stop_schedule.specs.Rates.{Rates}
use Rattle.board_core.specs.declared.entry.Entry.{Entry}
use Rattle.board_core.specs.Boards.{Board, opening_board}
use Rattle.board_core.specs.Histories.{Legal}
use Rattle.board_core.specs.Laws.{HasEarlyMoves}

-- What the tests play on a board.

-- a legal history over a graph leads from an opening board of its nodes to this board
pub record IsPlayed (g : Roads) (b : Board) : Type 0 where
  pub rates : Rates
  pub vehicles : List Vehicle
  pub history : List Entry
  pub lawful : IsGraph g
  pub fleet : AreVehicles g.nodes vehicles
  pub early : HasEarlyMoves history
  pub legal : Legal g (opening_board g.nodes rates vehicles) history b
