use Rattle.stop_removal.proofs.KeepsPromises.{law}
use Rattle.stop_removal.proofs.law.removals_keep_promises.Goals as goal

pub returns : goal.returns
returns c = law
