use Rattle.std.proofs.Common.{◌≡◌, ◌++◌}
use Rattle.journal_text.proofs.WalkLines.{walks_of}
use Rattle.journal_text.proofs.line.push_walks.Given as goal

abbrev pub invariant-loop-leg : goal.invariant-loop-leg
invariant-loop-leg l = l.out.items ++ walks_of l.leg-iterator.a.rest.now l.leg-iterator.b.rest.now ≡ l.fn.out.items ++ walks_of l.legs l.walks
