use Rattle.std.proofs.Common.{rules}
use Rattle.std.proofs.lemmas.Slice.Zip.{Zip-more, either_empty_from_Zip}
use Rattle.journal_text.proofs.WalkLines.{one_leg, no_leg}
use Rattle.journal_text.proofs.line.push_walks.Goals as goal

pub loop-leg-preserved : goal.loop-leg-preserved
loop-leg-preserved c =
    let turn = Zip-more _ c.next.new.self _ _ c.in-Some.is c.next.ensures.steps in
    one_leg _ _ _ _ _ _ c.nodes.result.now _ _ _ turn.0 turn.1 (search rules) c.loop-leg.invariant (search rules)

pub returns : goal.returns
returns c = no_leg _ _ _ _ (either_empty_from_Zip _ c.next.new.self _ c.in-None.is c.next.ensures.steps) c.loop-leg.invariant
