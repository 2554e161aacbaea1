use Rattle.std.proofs.Common.{arith}
use Rattle.insertion_cost.proofs.IsListed.{listed_more, all_listed, listed_best_of}
use Rattle.insertion_cost.proofs.candidates.best_listed.Goals as goal

pub loop-entry-preserved : goal.loop-entry-preserved
loop-entry-preserved c = listed_more c.as_slice-entries.result.now c.loop-entry.entry-index _ c.loop-entry.best c.first_of_two-best.result c.loop-entry-test.true c.loop-entry.invariant c.first_of_two-best.ensures

pub returns-clause-listed : goal.returns-clause-listed
returns-clause-listed c = all_listed c.args.candidates.now.entries c.as_slice-entries.result.now c.loop-entry.entry-index c.loop-entry.best c.as_slice-entries.ensures (let last = c.loop-entry-test.false in omega arith) c.loop-entry.invariant

pub returns-clause-best : goal.returns-clause-best
returns-clause-best c = λ g fleet r good fresh decides. listed_best_of g fleet r c.args.candidates.now good fresh c.loop-entry.best decides
    (all_listed c.args.candidates.now.entries c.as_slice-entries.result.now c.loop-entry.entry-index c.loop-entry.best c.as_slice-entries.ensures (let last = c.loop-entry-test.false in omega arith) c.loop-entry.invariant)
