use Rattle.std.proofs.Common.{inl, inr}
use Rattle.std.proofs.lemmas.Option.{slice_get-get_or}
use Rattle.upward_search.specs.declared.slope.Label.{Label}
use Rattle.upward_search.proofs.LeastSum.{compared_none, compared_more, compared_all}
use Rattle.upward_search.proofs.meeting.least_sum.Goals as goal

abbrev no_label : Label
no_label = record { place = 0; length = 0 }

pub comparing-init : goal.comparing-init
comparing-init c = compared_none c.args.left.now c.args.right.now

pub compared-at-requires-clause-short : goal.compared-at-requires-clause-short
compared-at-requires-clause-short c = c.requires.short _ (c.comparing.at.left, slice_get-get_or c.args.left.now c.comparing.at.left no_label c.comparing-test.true)

pub compared-at-requires-clause-low : goal.compared-at-requires-clause-low
compared-at-requires-clause-low c = c.requires.low _ (c.comparing.at.right, slice_get-get_or c.args.right.now c.comparing.at.right no_label c.if-at-right.true)

pub comparing-smaller : goal.comparing-smaller
comparing-smaller c = (compared_more c.args.left.now c.args.right.now c.requires.left c.requires.right c.comparing.at.left c.comparing.at.right no_label c.comparing-test.true c.if-at-right.true c.comparing.at.least c.comparing.invariant _ _ _ c.compared-at.ensures.same c.compared-at.ensures.left c.compared-at.ensures.right).1

pub comparing-preserved : goal.comparing-preserved
comparing-preserved c = (compared_more c.args.left.now c.args.right.now c.requires.left c.requires.right c.comparing.at.left c.comparing.at.right no_label c.comparing-test.true c.if-at-right.true c.comparing.at.least c.comparing.invariant _ _ _ c.compared-at.ensures.same c.compared-at.ensures.left c.compared-at.ensures.right).0

pub returns-else-at-right : goal.returns-else-at-right
returns-else-at-right c = compared_all c.args.left.now c.args.right.now c.comparing.at.left c.comparing.at.right c.comparing.at.least c.comparing.invariant (inr c.if-at-right.false)

pub returns-after-comparing : goal.returns-after-comparing
returns-after-comparing c = compared_all c.args.left.now c.args.right.now c.comparing.at.left c.comparing.at.right c.comparing.at.least c.comparing.invariant (inl c.comparing-test.false)
