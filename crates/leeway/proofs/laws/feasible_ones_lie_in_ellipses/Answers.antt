use Rattle.leeway.proofs.InEllipses.{in_ellipses}
use Rattle.leeway.proofs.laws.feasible_ones_lie_in_ellipses.Goals as goal

pub returns : goal.returns
returns c = in_ellipses
