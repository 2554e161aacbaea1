use Rattle.std.proofs.Common.{◌≡◌, map, drop}
use Rattle.clap.specs.Words.{app_of}
use Rattle.command_words.specs.Reading.{value_rule, with_rules}
use Rattle.command_words.proofs.words.with_options.Given as goal

-- with the rules of the names that are left
abbrev pub invariant-loop-name : goal.invariant-loop-name
invariant-loop-name l = with_rules (app_of l.command) (map (λ s. value_rule s.now) (drop l.name-index l.names)) ≡ with_rules (app_of l.fn.command) (map (λ s. value_rule s.now) l.names)
