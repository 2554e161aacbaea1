use Rattle.std.proofs.Common.{◌∙◌, ap, rules}
use Rattle.std.specs.List.{filter}
use Rattle.std.proofs.lemmas.Fn.{filter_same}
use Rattle.contraction.specs.Rows.{leads_elsewhere}
use Rattle.contraction.proofs.rows.without.Goals as goal

pub returns : goal.returns
returns c = c.from_vec.ensures ∙ filter_same _ _ _ (λ x b f' k. search rules) _ _ c.retain.ensures.filtered ∙ ap (filter (leads_elsewhere c.args.end c.args.node)) c.into_vec-held.ensures
