use Rattle.std.specs.Prelude.{◌≡◌, ℕ, List, []}
use Rattle.road_graph.specs.Roads.{Roads}
use Rattle.stop_schedule.specs.declared.vehicle.Vehicle.{Vehicle}
use Rattle.stop_schedule.specs.Rates.{Rates}
use Rattle.board_core.specs.Boards.{opening_board}
use Rattle.board_core.specs.BoardViews.{board_of}
use Rattle.board_core.specs.Histories.{Event}
use Rattle.dispatch_top.specs.declared.dispatcher.Dispatcher.{Dispatcher}
use Rattle.dispatch_top.specs.Dispatching.{HasAnswered}

-- What an answerer that dispatches did.

-- the graph and what prices over it are the same, and on the board the events were answered
pub record HasDispatched (first now : Dispatcher) (events : List Event) (printed : List ℕ) : Type 0 where
  pub graph : now.graph.now ≡ first.graph.now
  pub prices : now.answers.graph.now ≡ first.graph.now
  pub answered : HasAnswered first.graph.now (board_of first.board) (board_of now.board) events printed now.sums

-- it is over this graph, and its board is the opening board of these vehicles
pub record IsOpened (roads : Roads) (rates : Rates) (vehicles : List Vehicle) (made : Dispatcher) : Type 0 where
  pub graph : made.graph.now ≡ roads
  pub board : board_of made.board ≡ opening_board roads.nodes rates vehicles
  pub fresh : HasDispatched made made [] []
