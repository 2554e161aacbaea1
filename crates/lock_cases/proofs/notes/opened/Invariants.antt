use Rattle.lock_cases.proofs.notes.opened.Given as goal

abbrev pub ghost-new : goal.ghost-new
ghost-new g a = tt
