use Rattle.std.proofs.Common.{◌∙◌}
use Rattle.journal_text.proofs.LastItems.{pairs_put}
use Rattle.journal_text.proofs.longer.list_more.Goals as goal

pub returns-clause-ok : goal.returns-clause-ok
returns-clause-ok c =
    pairs_put c.args.potentials.now c.into_vec-held.result.items c.index_mut.result.now _ c.extend-added.new.items c.len-last.result _ c.extend-added.result (c.into_vec-held.ensures ∙ c.replace.ensures.value)
    (c.len-last.ensures ∙ c.into_vec-held.result.ok.0) c.requires c.index_mut.ensures.value c.from_vec.ensures c.extend-added.ensures.ok
