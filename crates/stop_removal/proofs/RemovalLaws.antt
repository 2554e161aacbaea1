use Rattle.stop_removal.specs.Laws.{RemovalsKeepPromises}
use Rattle.stop_removal.proofs.KeepsPromises.{law}

-- a removal breaks no promise and makes no other stop later
pub removals_keep_promises : RemovalsKeepPromises
removals_keep_promises = law
