use Rattle.std.proofs.Common.{refl}
use Rattle.command_words.proofs.Modes.{has_mode, no_mode}
use Rattle.command_words.proofs.command_lines.form.Goals as goal

pub returns-in_default-as_str-clause-shows : goal.returns-in_default-as_str-clause-shows
returns-in_default-as_str-clause-shows c =
    let arm = c.in_default-as_str in
    no_mode c.args.words.now c.in-Some.mode.now c.as_str.result.now c.in-Some.ensures.value c.as_str.ensures.value arm.not-run arm.not-audit arm.not-walk arm.not-gen arm.not-live

pub returns-in-run-clause-none : goal.returns-in-run-clause-none
returns-in-run-clause-none c = λ none. absurd (has_mode c.args.words.now c.in-Some.mode.now c.as_str.result.now _ c.in-Some.ensures.value c.as_str.ensures.value c.in-run.is refl none)

pub returns-in-audit-clause-none : goal.returns-in-audit-clause-none
returns-in-audit-clause-none c = λ none. absurd (has_mode c.args.words.now c.in-Some.mode.now c.as_str.result.now _ c.in-Some.ensures.value c.as_str.ensures.value c.in-audit.is refl none)

pub returns-in-walk-clause-none : goal.returns-in-walk-clause-none
returns-in-walk-clause-none c = λ none. absurd (has_mode c.args.words.now c.in-Some.mode.now c.as_str.result.now _ c.in-Some.ensures.value c.as_str.ensures.value c.in-walk.is refl none)

pub returns-in-gen-clause-none : goal.returns-in-gen-clause-none
returns-in-gen-clause-none c = λ none. absurd (has_mode c.args.words.now c.in-Some.mode.now c.as_str.result.now _ c.in-Some.ensures.value c.as_str.ensures.value c.in-gen.is refl none)

pub returns-in-live-clause-none : goal.returns-in-live-clause-none
returns-in-live-clause-none c = λ none. absurd (has_mode c.args.words.now c.in-Some.mode.now c.as_str.result.now _ c.in-Some.ensures.value c.as_str.ensures.value c.in-live.is refl none)
