use Rattle.fleet_board.proofs.board.lay.Given as goal

abbrev pub ghost-new : goal.ghost-new
ghost-new g a = g.origin
