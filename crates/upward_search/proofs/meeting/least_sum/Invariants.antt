use Rattle.std.proofs.Common.{◌+◌, ◌-◌, length}
use Rattle.upward_search.specs.Sums.{IsCompared}
use Rattle.upward_search.proofs.meeting.least_sum.Given as goal

abbrev pub invariant-comparing : goal.invariant-comparing
invariant-comparing l = IsCompared l.left l.right l.at.left l.at.right l.at.least

abbrev pub decreases-comparing : goal.decreases-comparing
decreases-comparing l = (length l.left - l.at.left) + (length l.right - l.at.right)
