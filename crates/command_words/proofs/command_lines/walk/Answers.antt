use Rattle.std.proofs.Common.{◌≡◌, ◌∙◌, map, drop, None, refl, ap}
use Rattle.std.specs.Prelude.{option_map}
use Rattle.std.specs.String.{string_bytes}
use Rattle.clap.specs.Words.{app_of, found_of, rows_of}
use Rattle.clap.proofs.WalkLemmas.{first_value-rows}
use Rattle.command_words.specs.Commands.{walk_command}
use Rattle.command_words.specs.Reading.{app_for, walk_by}
use Rattle.command_words.specs.Shown.{shown_form}
use Rattle.command_words.proofs.AnswerOf.{by_matches, comes_from}
use Rattle.command_words.proofs.Modes.{walk_built, walk_ids, walk_none, walk_some, walk_table}
use Rattle.command_words.proofs.command_lines.walk.Goals as goal

pub returns-in-Ok : goal.returns-in-Ok
returns-in-Ok c =
    let is : app_of c.in_ok-command.command ≡ app_for walk_ids walk_command.valued walk_command.plain = c.in_ok-command.ensures in
    let answer = c.in-Ok.ensures in
    by_matches c.in-Ok.matches (λ m. rows_of (found_of m)) _ answer
    (λ m at_m some. (rw at_m at c.walk_of.ensures.some) ∙ (λ j. walk_by (λ o. first_value-rows (found_of m) o j))
    ∙ walk_some (drop 1 (map string_bytes c.args.words.now)) (rows_of (found_of m)) (comes_from walk_command walk_ids walk_table _ _ is walk_built refl c.args.words.now _ some))
    (λ at_none none. ap (option_map shown_form) (c.walk_of.ensures.none at_none)
    ∙ walk_none (drop 1 (map string_bytes c.args.words.now)) (comes_from walk_command walk_ids walk_table _ _ is walk_built refl c.args.words.now None none))
