use Rattle.std.proofs.Common.{◌≡◌, ◌∙◌, map, drop, None, refl, ap}
use Rattle.std.specs.Prelude.{option_map}
use Rattle.std.specs.String.{string_bytes}
use Rattle.clap.specs.Words.{app_of, found_of, rows_of}
use Rattle.clap.proofs.WalkLemmas.{first_value-rows}
use Rattle.command_words.specs.Commands.{audit_command}
use Rattle.command_words.specs.Reading.{app_for, audit_by}
use Rattle.command_words.specs.Shown.{shown_form}
use Rattle.command_words.proofs.AnswerOf.{by_matches, comes_from}
use Rattle.command_words.proofs.Modes.{audit_built, audit_ids, audit_none, audit_some, audit_table}
use Rattle.command_words.proofs.command_lines.audit.Goals as goal

pub returns-in-Ok : goal.returns-in-Ok
returns-in-Ok c =
    let is : app_of c.in_ok-command.command ≡ app_for audit_ids audit_command.valued audit_command.plain = c.in_ok-command.ensures in
    let answer = c.in-Ok.ensures in
    by_matches c.in-Ok.matches (λ m. rows_of (found_of m)) _ answer
    (λ m at_m some. (rw at_m at c.audit_of.ensures.some) ∙ (λ j. audit_by (λ o. first_value-rows (found_of m) o j))
    ∙ audit_some (drop 1 (map string_bytes c.args.words.now)) (rows_of (found_of m)) (comes_from audit_command audit_ids audit_table _ _ is audit_built refl c.args.words.now _ some))
    (λ at_none none. ap (option_map shown_form) (c.audit_of.ensures.none at_none)
    ∙ audit_none (drop 1 (map string_bytes c.args.words.now)) (comes_from audit_command audit_ids audit_table _ _ is audit_built refl c.args.words.now None none))
