use Rattle.std.proofs.Common.{◌≡◌, ◌∙◌, [], ◌∷◌, map, drop, None, codes, refl, ap}
use Rattle.std.specs.Prelude.{option_map}
use Rattle.std.specs.String.{string_bytes}
use Rattle.clap.specs.Words.{App, app_of, found_of, rows_of}
use Rattle.clap.proofs.WalkLemmas.{first_value-rows, one_text-rows}
use Rattle.command_words.specs.Commands.{run_command}
use Rattle.command_words.specs.Reading.{app_for, flag_rule, run_by, value_rule, with_rules}
use Rattle.command_words.specs.Shown.{shown_form}
use Rattle.command_words.proofs.AnswerOf.{by_matches, comes_from}
use Rattle.command_words.proofs.Modes.{run_built, run_ids, run_none, run_some, run_table}
use Rattle.command_words.proofs.command_lines.run.Goals as goal

pub returns-in-Ok : goal.returns-in-Ok
returns-in-Ok c =
    let is : app_of c.in_ok-command.command ≡ app_for run_ids run_command.valued run_command.plain = c.in_ok-command.ensures
    ∙ ap (λ (a : App). with_rules a (flag_rule (codes "proof") ∷ [])) (c.in_ok-optioned.ensures ∙ ap (λ (a : App). with_rules a (value_rule (codes "window") ∷ [])) c.in_ok-base.ensures) in
    let answer = c.in-Ok.ensures in
    by_matches c.in-Ok.matches (λ m. rows_of (found_of m)) _ answer
    (λ m at_m some.
    let taken = run_some (drop 1 (map string_bytes c.args.words.now)) (rows_of (found_of m)) (comes_from run_command run_ids run_table _ _ is run_built refl c.args.words.now _ some) in
    (rw at_m at c.run_of.ensures.some) taken.0 (one_text-rows (found_of m) (codes "proof") ∙ taken.1.0) ∙ (λ j. run_by (λ o. first_value-rows (found_of m) o j) taken.0) ∙ taken.1.1)
    (λ at_none none. ap (option_map shown_form) (c.run_of.ensures.none at_none)
    ∙ run_none (drop 1 (map string_bytes c.args.words.now)) (comes_from run_command run_ids run_table _ _ is run_built refl c.args.words.now None none))
