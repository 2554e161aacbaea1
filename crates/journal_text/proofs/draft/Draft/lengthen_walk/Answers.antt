use Rattle.std.proofs.Common.{ap, sym, ◌∙◌}
use Rattle.journal_text.proofs.LastItems.{found_leg, nodes_found, takes_longer}
use Rattle.journal_text.proofs.draft.Draft.lengthen_walk.Goals as goal

pub lengthen_last-requires : goal.lengthen_last-requires
lengthen_last-requires c = c.open_leg.ensures.some (found_leg c.open_leg.result c.args.rest.now _ (sym c.nodes_behind.ensures ∙ c.in-Some.is))

pub returns-in-Some-clause-ok : goal.returns-in-Some-clause-ok
returns-in-Some-clause-ok c =
    takes_longer c.args.self.now c.args.rest.now c.in-Some.run' _ _ (ap (λ o. nodes_found o c.args.rest.now) (sym c.open_leg.ensures.leg) ∙ sym c.nodes_behind.ensures ∙ c.in-Some.is) (rw c.as_slice.ensures at c.lengthen_last.ensures.ok)
