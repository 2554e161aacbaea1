use Rattle.std.proofs.Common.{arith}
use Rattle.std.proofs.lemmas.List.Sorted.{length_permutation}
use Rattle.upward_search.proofs.IsSearch.{drop_more, next_of, none_left}
use Rattle.upward_search.proofs.waiting.Waiting.next_from.Goals as goal

pub returns-then-floor-first : goal.returns-then-floor-first
returns-then-floor-first c = next_of c.args.floor c.args.self.now c.loop-first.self c.pop.new.self c.in-Some.first c.loop-first.invariant c.in-Some.ensures.none c.in-Some.ensures.first c.if-floor-first.true

pub loop-first-smaller : goal.loop-first-smaller
loop-first-smaller c = let many = length_permutation c.loop-first.self _ c.in-Some.ensures.none in omega arith

pub loop-first-preserved : goal.loop-first-preserved
loop-first-preserved c = drop_more c.args.floor c.args.self.now c.loop-first.self c.pop.new.self c.in-Some.first c.loop-first.invariant c.in-Some.ensures.none c.if-floor-first.false

pub returns : goal.returns
returns c = none_left c.args.floor c.args.self.now c.loop-first.self c.loop-first.invariant c.in_default.ensures.none
