use Rattle.std.specs.Prelude.{◌≡◌, ℕ, List}
use Rattle.road_graph.specs.Roads.{Roads}
use Rattle.turn_lock.specs.Desks.{fresh_desks}
use Rattle.fleet_board.specs.Turns.{DeskNow, Lock}

-- a lock round a board over a graph, and its new desks
pub record AreReady (g : Roads) (desks : ℕ) (lock : Lock) (row : List DeskNow) : Type 0 where
  pub graph : lock.origin.graph ≡ g
  pub row_is : row ≡ fresh_desks lock desks
