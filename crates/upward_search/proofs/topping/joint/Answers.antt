use Rattle.std.proofs.Common.{arith}
use Rattle.std.proofs.lemmas.Option.{slice_get_within}
use Rattle.upward_search.specs.declared.slope.Label.{Label}
use Rattle.upward_search.proofs.TopOf.{joint_none, joint_other, joint_is, joint_short}
use Rattle.upward_search.proofs.topping.joint.Goals as goal

abbrev no_label : Label
no_label = record { place = 0; length = 0 }

pub returns-in_default : goal.returns-in_default
returns-in_default c = joint_none c.args.right.now c.args.label c.args.total c.in_default.ensures

pub bounds-right-at : goal.bounds-right-at
bounds-right-at c = let f = c.in-Some.ensures in slice_get_within c.args.right.now c.in-Some.at f.0 f.1

pub overflow_add-label : goal.overflow_add-label
overflow_add-label c = let m = joint_short c.args.right.now c.args.label.place c.in-Some.at no_label c.requires.low c.in-Some.ensures in let s = c.requires.short in omega arith

pub returns-then-label-right : goal.returns-then-label-right
returns-then-label-right c = joint_other c.args.right.now c.args.label c.args.total c.in-Some.at no_label c.requires.right c.in-Some.ensures c.if-label-right.true

pub returns : goal.returns
returns c = joint_is c.args.right.now c.args.label c.args.total c.in-Some.at no_label c.in-Some.ensures c.if-label-right.false
