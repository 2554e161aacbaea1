use Rattle.std.specs.Prelude.{◌≡◌, ℕ, ◌*◌, ◌≤◌, List, length}
use Rattle.road_graph.specs.Roads.{Roads}
use Rattle.stop_schedule.specs.declared.vehicle.Vehicle.{Vehicle}
use Rattle.stop_schedule.specs.Bounds.{AreVehicles}
use Rattle.stop_schedule.specs.Fleets.{IsGoodFleet}
use Rattle.stop_schedule.specs.Rates.{Rates}
use Rattle.board_core.specs.declared.entry.Entry.{Entry}
use Rattle.board_core.specs.Boards.{Board, opening_board}
use Rattle.board_core.specs.Histories.{Legal, Event, events_in, AreAnsweredAtOnce}
use Rattle.board_core.specs.Laws.{HasEarlyMoves}
use Rattle.board_core.specs.Promises.{KeepsPromises}
use Rattle.journal_text.specs.Groups.{journal_of}
use Rattle.dispatch_top.specs.declared.sums.Sums.{Sums}
use Rattle.dispatch_top.specs.Sums.{AreFew, sums_of}

-- What is dispatched on a board that begins with vehicles at their starts.

-- Every legal history over a graph, from the opening board of its vehicles on, keeps its promises, and with early moves it leaves a good
-- fleet.
pub record HistoriesAreGood (roads : Roads) : Type 0 where
  pub kept : (rates : Rates) (vehicles : List Vehicle) (history : List Entry) (last : Board) → AreVehicles roads.nodes vehicles
      → Legal roads (opening_board roads.nodes rates vehicles) history last → KeepsPromises roads (opening_board roads.nodes rates vehicles) history
  pub good : (rates : Rates) (vehicles : List Vehicle) (history : List Entry) (last : Board) → AreVehicles roads.nodes vehicles → HasEarlyMoves history
      → Legal roads (opening_board roads.nodes rates vehicles) history last → IsGoodFleet roads last.fleet

-- the opening board of good vehicles over a graph
pub record IsOpening (roads : Roads) (board : Board) : Type 0 where
  pub rates : Rates
  pub vehicles : List Vehicle
  pub good : AreVehicles roads.nodes vehicles
  pub is : board ≡ opening_board roads.nodes rates vehicles

-- From an opening board on to another these events were answered, each request that was accepted at once, by a legal history that keeps
-- each promise, the text is its lines, and the sums are those of it.
pub record HasAnswered (roads : Roads) (first now : Board) (events : List Event) (printed : List ℕ) (sums : Sums) : Type 0 where
  pub opening : IsOpening roads first
  pub history : List Entry
  pub legal : Legal roads first history now
  pub asked : events_in history ≡ events
  pub at_once : AreAnsweredAtOnce history
  pub early : HasEarlyMoves history
  pub kept : KeepsPromises roads first history
  pub rendered : printed ≡ journal_of history
  pub counts : sums ≡ sums_of history
  pub small : AreFew now.fleet.version sums
  pub good : IsGoodFleet roads now.fleet
  pub nodes : now.nodes ≡ roads.nodes
  pub few : now.fleet.version ≤ 2 * length events
