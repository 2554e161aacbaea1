use Rattle.std.proofs.Common.{◌≡◌, ◌∙◌, [], ◌∷◌, map, drop, None, ap, codes, refl}
use Rattle.std.specs.Prelude.{option_map}
use Rattle.std.specs.String.{string_bytes}
use Rattle.clap.specs.Words.{App, app_of, found_of, rows_of}
use Rattle.clap.proofs.WalkLemmas.{first_value-rows}
use Rattle.command_words.specs.Commands.{live_command}
use Rattle.command_words.specs.Reading.{app_for, live_by, value_rule, with_rules}
use Rattle.command_words.specs.Shown.{shown_form}
use Rattle.command_words.proofs.AnswerOf.{by_matches, comes_from}
use Rattle.command_words.proofs.Modes.{live_built, run_ids, live_none, live_some, live_table}
use Rattle.command_words.proofs.command_lines.live.Goals as goal

pub returns-in-Ok : goal.returns-in-Ok
returns-in-Ok c =
    let is : app_of c.in_ok-command.command ≡ app_for run_ids live_command.valued live_command.plain = c.in_ok-command.ensures
    ∙ ap (λ (a : App). with_rules a (value_rule (codes "workers") ∷ [])) c.in_ok-base.ensures in
    let answer = c.in-Ok.ensures in
    by_matches c.in-Ok.matches (λ m. rows_of (found_of m)) _ answer
    (λ m at_m some. (rw at_m at c.live_of.ensures.some) ∙ (λ j. live_by (λ o. first_value-rows (found_of m) o j))
    ∙ live_some (drop 1 (map string_bytes c.args.words.now)) (rows_of (found_of m)) (comes_from live_command run_ids live_table _ _ is live_built refl c.args.words.now _ some))
    (λ at_none none. ap (option_map shown_form) (c.live_of.ensures.none at_none)
    ∙ live_none (drop 1 (map string_bytes c.args.words.now)) (comes_from live_command run_ids live_table _ _ is live_built refl c.args.words.now None none))
