use Rattle.std.proofs.Common.{◌≡◌, ◌∙◌, map, drop, None, refl, ap}
use Rattle.std.specs.Prelude.{option_map}
use Rattle.std.specs.String.{string_bytes}
use Rattle.clap.specs.Words.{app_of, found_of, rows_of}
use Rattle.clap.proofs.WalkLemmas.{first_value-rows}
use Rattle.command_words.specs.Commands.{gen_command}
use Rattle.command_words.specs.Reading.{app_for, gen_by}
use Rattle.command_words.specs.Shown.{shown_form}
use Rattle.command_words.proofs.AnswerOf.{by_matches, comes_from}
use Rattle.command_words.proofs.Modes.{gen_built, gen_ids, gen_none, gen_some, gen_table}
use Rattle.command_words.proofs.command_lines.city.Goals as goal

pub returns-in-Ok : goal.returns-in-Ok
returns-in-Ok c =
    let is : app_of c.in_ok-command.command ≡ app_for gen_ids gen_command.valued gen_command.plain = c.in_ok-command.ensures in
    let answer = c.in-Ok.ensures in
    by_matches c.in-Ok.matches (λ m. rows_of (found_of m)) _ answer
    (λ m at_m some. (rw at_m at c.city_of.ensures.some) ∙ (λ j. gen_by (λ o. first_value-rows (found_of m) o j))
    ∙ gen_some (drop 1 (map string_bytes c.args.words.now)) (rows_of (found_of m)) (comes_from gen_command gen_ids gen_table _ _ is gen_built refl c.args.words.now _ some))
    (λ at_none none. ap (option_map shown_form) (c.city_of.ensures.none at_none)
    ∙ gen_none (drop 1 (map string_bytes c.args.words.now)) (comes_from gen_command gen_ids gen_table _ _ is gen_built refl c.args.words.now None none))
