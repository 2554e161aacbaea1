use Rattle.std.proofs.lemmas.Option.{slice_get-get_or}
use Rattle.upward_search.specs.declared.slope.Label.{Label}
use Rattle.upward_search.proofs.TopOf.{joints_more, top_none, top_is}
use Rattle.upward_search.proofs.topping.top_of.Goals as goal

abbrev no_label : Label
no_label = record { place = 0; length = 0 }

pub joint-requires-clause-short : goal.joint-requires-clause-short
joint-requires-clause-short c = c.requires.short _ (c.loop-index.index, slice_get-get_or c.args.left.now c.loop-index.index no_label c.loop-index-test.true)

pub returns-in-Some : goal.returns-in-Some
returns-in-Some c = top_is c.args.left.now c.args.right.now c.args.total c.loop-index.index c.in-Some.at no_label c.loop-index-test.true c.in-Some.ensures

pub loop-index-preserved : goal.loop-index-preserved
loop-index-preserved c = joints_more c.args.left.now c.args.right.now c.args.total c.loop-index.index no_label c.loop-index.invariant c.loop-index-test.true c.in_default.ensures

pub returns : goal.returns
returns c = top_none c.args.left.now c.args.right.now c.args.total c.loop-index.index c.loop-index.invariant c.loop-index-test.false
