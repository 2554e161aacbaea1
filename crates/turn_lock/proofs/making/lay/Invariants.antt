use Rattle.turn_lock.proofs.making.lay.Given as goal

abbrev pub ghost-pick : goal.ghost-pick
ghost-pick g a = g.origin
