use Rattle.std.specs.Prelude.{◌≡◌, Option, option_map}
use Rattle.command_words.specs.declared.forms.Form.{Form as Line}
use Rattle.command_words.specs.declared.forms.Form.TheVariants as line
use Rattle.command_words.specs.Commands.{Form, Run, Audit, Walk, Gen, Live}

-- the form that a value of the code stands for
abbrev pub shown_form : Line → Form
shown_form (line.Run graph fleet stream params window proof) = Run graph.now fleet.now stream.now (record { rates = params; window = window; proof = proof })
shown_form (line.Audit graph fleet journal params) = Audit graph.now fleet.now journal.now params
shown_form (line.Walk graph from to) = Walk graph.now from to
shown_form (line.Gen number) = Gen number
shown_form (line.Live graph fleet stream params workers) = Live graph.now fleet.now stream.now params workers

-- the code's answer stands for this form, or for none
abbrev pub Shows : Option Form → Option Line → Type 0
Shows form answer = option_map shown_form answer ≡ form
