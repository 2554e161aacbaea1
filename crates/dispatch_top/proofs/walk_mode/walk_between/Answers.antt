use Rattle.std.proofs.Common.{sym, ◌∙◌}
use Rattle.dispatch_top.proofs.NoWalkOutside.{has_rank, no_walk_from, no_walk_to}
use Rattle.dispatch_top.proofs.walk_mode.walk_between.Goals as goal

pub returns-then-not-has : goal.returns-then-not-has
returns-then-not-has g c = record { found = no_walk_from c.args.graph.now c.has.ensures.kept c.args.from c.args.to (sym c.has.ensures.node ∙ c.if-not-has.true) }

pub returns-then-not-has-2 : goal.returns-then-not-has-2
returns-then-not-has-2 g c = record { found = no_walk_to c.args.graph.now c.args.from c.args.to (sym c.has-2.ensures.node ∙ c.if-not-has-2.true) }

pub walk-requires-clause-from : goal.walk-requires-clause-from
walk-requires-clause-from g c = has_rank c.args.graph.now _ c.args.from c.in_ok-hierarchy.ensures.fits (sym c.has.ensures.node ∙ c.if-not-has.false)

pub walk-requires-clause-to : goal.walk-requires-clause-to
walk-requires-clause-to g c = has_rank c.args.graph.now _ c.args.to c.in_ok-hierarchy.ensures.fits (sym c.has-2.ensures.node ∙ c.if-not-has-2.false)
