use Rattle.turn_lock.proofs.lock.TurnLock.new.Given as goal

abbrev pub ghost-lay : goal.ghost-lay
ghost-lay g a = g.origin
