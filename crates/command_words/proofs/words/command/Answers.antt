use Rattle.std.proofs.Common.{◌≡◌, ◌∙◌, ap, ap₂, true}
use Rattle.std.proofs.lemmas.Result.{IfOk-weaker}
use Rattle.clap.specs.Words.{App, app_of}
use Rattle.clap.specs.Simple.{app_of_fields}
use Rattle.command_words.specs.Reading.{bare_app, name_rule, value_rule, with_rules}
use Rattle.command_words.proofs.WithRules.{map_through, no_rules}
use Rattle.command_words.proofs.words.command.Goals as goal

pub returns : goal.returns
returns c =
    let bare_is : app_of c.disable_help_flag-bare.result ≡ bare_app = ap app_of_fields c.disable_help_flag-bare.ensures
    ∙ ap (λ (a : App). record a { top = record a.top { disable_help_flag = true } }) c.new.ensures.app in
    let named = c.in_ok-named.ensures ∙ ap₂ with_rules bare_is (map_through name_rule (λ s. s.now) c.args.names.now) in
    IfOk-weaker c.with_options.result _ _ (λ r h. h ∙ ap₂ with_rules named (map_through value_rule (λ s. s.now) c.args.valued.now) ∙ no_rules _) c.with_options.ensures
