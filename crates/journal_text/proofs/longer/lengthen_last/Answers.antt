use Rattle.std.proofs.Common.{◌∙◌}
use Rattle.journal_text.proofs.LastItems.{longer_put}
use Rattle.journal_text.proofs.longer.lengthen_last.Goals as goal

pub returns-clause-ok : goal.returns-clause-ok
returns-clause-ok c =
    longer_put c.args.walks.now c.into_vec-held.result.items _ _ _ c.len-last.result _ c.lengthen-taken.result (c.into_vec-held.ensures ∙ c.replace.ensures.value) (c.len-last.ensures ∙ c.into_vec-held.result.ok.0)
    c.requires c.index_mut.ensures.value c.from_vec.ensures c.lengthen-taken.ensures.ok
