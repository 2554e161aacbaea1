use Rattle.std.proofs.Common.{rules, []}
use Rattle.clap.specs.Words.{app_of, rule_of}
use Rattle.command_words.specs.Reading.{name_rule}
use Rattle.command_words.proofs.WithRules.{next_rule}
use Rattle.command_words.proofs.words.with_names.Goals as goal

pub loop-name-preserved : goal.loop-name-preserved
loop-name-preserved c =
    next_rule (λ s. name_rule s.now) c.args.names.now c.loop-name.name-index (record { ref_ptr = (0, 0); now = [] }) (app_of c.loop-name.command) (app_of c.in_ok-command.command) _
    (rule_of c.action.result) c.loop-name-test.true c.loop-name.invariant (c.in_ok-command.ensures.shape (search rules)) (search rules)
