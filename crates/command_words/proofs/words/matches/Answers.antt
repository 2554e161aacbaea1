use Rattle.std.proofs.Common.{◌∙◌}
use Rattle.std.proofs.lemmas.Bool.{false≢true}
use Rattle.clap.proofs.WalkLemmas.{both}
use Rattle.command_words.proofs.WithRules.{refuses_words, takes_words}
use Rattle.command_words.proofs.words.matches.Goals as goal

pub returns-in-Ok : goal.returns-in-Ok
returns-in-Ok c = takes_words _ _ _ (c.in-Ok.ensures.kinds c.requires) ((c.in-Ok.ensures.matches ((both _ _ c.requires).0)).0)

pub returns-in-Ok-refused : goal.returns-in-Ok-refused
returns-in-Ok-refused c = refuses_words _ c.in-Err.error _ (c.in-Err.ensures.kinds c.requires) (λ memory. absurd (false≢true (c.in-Ok-refused.ensures.memory (c.kind.ensures ∙ memory))))
