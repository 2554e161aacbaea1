use Rattle.board_core.proofs.law.versions_rise.Goals as goal
use Rattle.board_core.proofs.Versions.{versions_rise}

pub returns : goal.returns
returns c = versions_rise
