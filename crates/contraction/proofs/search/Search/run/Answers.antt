use Rattle.std.proofs.Common.{refl, sym}
use Rattle.contraction.proofs.IsSearch.{popped, popped_none}
use Rattle.contraction.proofs.search.Search.run.Goals as goal

pub taking-init : goal.taking-init
taking-init c = record { search = c.in_ok-begin.ensures.search c.args.rows.now (sym c.requires.marked.many); start = c.in_ok-begin.ensures.start }

pub returns-in_default-clause-search : goal.returns-in_default-clause-search
returns-in_default-clause-search c = popped_none c.args.rows.now c.taking.self _ refl refl refl c.in_default.ensures.empty c.taking.invariant.search

pub returns-then-most-nearest-clause-search : goal.returns-then-most-nearest-clause-search
returns-then-most-nearest-clause-search c = (popped c.args.rows.now c.taking.self _ c.in-Some.nearest refl refl refl c.in-Some.ensures.taken c.taking.invariant.search).0

pub spread-requires-clause-search : goal.spread-requires-clause-search
spread-requires-clause-search c = (popped c.args.rows.now c.taking.self _ c.in-Some.nearest refl refl refl c.in-Some.ensures.taken c.taking.invariant.search).0

pub spread-requires-clause-led : goal.spread-requires-clause-led
spread-requires-clause-led c = (popped c.args.rows.now c.taking.self (record c.taking.self { waiting = c.pop.new.self }) c.in-Some.nearest refl refl refl c.in-Some.ensures.taken c.taking.invariant.search).1
