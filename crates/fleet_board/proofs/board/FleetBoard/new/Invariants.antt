use Rattle.board_core.specs.BoardViews.{board_of}
use Rattle.fleet_board.proofs.board.FleetBoard.new.Given as goal

abbrev pub ghost-lay : goal.ghost-lay
ghost-lay g a = record { board = board_of a.value.board; graph = g.P.Pricer.graph a.pricer }
